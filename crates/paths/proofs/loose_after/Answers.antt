use Rattle.std.proofs.Common.{rules}
use Rattle.paths.proofs.Keeps.{augment_keeps, two_fewer_loose}
use Rattle.paths.proofs.Exchanges.{exchanges, one_augment}
use Rattle.paths.proofs.loose_after.Goals as goal

pub returns : goal.returns
returns c = record { value = search rules; keeps = augment_keeps; fewer = two_fewer_loose; exchanges = exchanges; one = one_augment }
