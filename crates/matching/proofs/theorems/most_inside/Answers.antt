use Rattle.std.proofs.Common.{rules}
use Rattle.matching.proofs.Inside.{one_bare, own_inside, most_inside}
use Rattle.matching.proofs.Nesting.{one_root, parts_smaller}
use Rattle.matching.proofs.theorems.most_inside.Goals as goal

pub returns : goal.returns
returns c = record { value = search rules; own = own_inside; most = most_inside; bare = one_bare; smaller = parts_smaller; root = one_root }
