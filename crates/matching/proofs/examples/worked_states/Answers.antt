use Rattle.std.proofs.Common.{refl}
use Rattle.matching.proofs.Readings.{triangle_reads, nest_reads}
use Rattle.matching.proofs.Triangle.{kept_walk}
use Rattle.matching.proofs.Nest.{kept_nest}
use Rattle.matching.proofs.examples.worked_states.Goals as goal

pub returns : goal.returns
returns c = record { count = refl; triangle = triangle_reads; nest = nest_reads; walk = kept_walk; nested = kept_nest }
