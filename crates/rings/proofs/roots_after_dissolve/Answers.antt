use Rattle.std.proofs.Common.{rules}
use Rattle.rings.proofs.Dissolves.{dissolve_keeps, dissolve_stays}
use Rattle.rings.proofs.roots_after_dissolve.Goals as goal

pub returns : goal.returns
returns c = record { value = search rules; keeps = dissolve_keeps; stays = dissolve_stays }
