use Rattle.std.proofs.Common.{refl}
use Rattle.paths.proofs.Example.{ring_bare, nest_bare}
use Rattle.paths.proofs.examples.worked_bares.Goals as goal

pub returns : goal.returns
returns c = record { count = refl; ring = ring_bare; nest = nest_bare }
