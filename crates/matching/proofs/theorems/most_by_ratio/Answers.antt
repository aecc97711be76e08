use Rattle.std.proofs.Common.{rules}
use Rattle.matching.proofs.Gap.{ratio}
use Rattle.matching.proofs.theorems.most_by_ratio.Goals as goal

pub returns : goal.returns
returns c = record { value = search rules; ratio = ratio }
