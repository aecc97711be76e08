use Rattle.std.proofs.Common.{rules}
use Rattle.paths.proofs.Law.{law}
use Rattle.paths.proofs.Unique.{one_result}
use Rattle.paths.proofs.pairs_inside.Goals as goal

pub returns : goal.returns
returns c = record { value = search rules; law = law; one = one_result }
