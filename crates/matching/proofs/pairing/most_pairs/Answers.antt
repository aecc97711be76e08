use Rattle.std.proofs.Common.{refl}
use Rattle.matching.proofs.Pairs.{pairs_few}
use Rattle.matching.proofs.pairing.most_pairs.Goals as goal

pub returns : goal.returns
returns c = record { value = refl; bound = λ top rows es sound p. pairs_few c.args.members top rows sound es p }
