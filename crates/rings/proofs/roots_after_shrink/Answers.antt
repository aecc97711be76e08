use Rattle.std.proofs.Common.{rules}
use Rattle.rings.proofs.Shrinks.{shrink_keeps, shrink_stays}
use Rattle.rings.proofs.roots_after_shrink.Goals as goal

pub returns : goal.returns
returns c = record { value = search rules; keeps = shrink_keeps; stays = shrink_stays }
