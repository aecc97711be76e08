use Rattle.std.proofs.Common.{arith}
use Rattle.std.proofs.lemmas.List.Sums.{prefix_len-le-length}
use Rattle.tokens.proofs.token.next_token.Goals as goal

pub split_at-requires : goal.split_at-requires
split_at-requires c = grind (arith, prefix_len-le-length)

pub split_at-requires-in-97-to-122 : goal.split_at-requires-in-97-to-122
split_at-requires-in-97-to-122 c = grind (arith, prefix_len-le-length)
