use Rattle.std.proofs.Common.{◌≡◌, ℕ, ◌+◌, ◌%◌, ◌^◌, cond, is_none, Option, ◌∙◌, arith, rules}
use Rattle.std.specs.List.{fold}
use Rattle.board.proofs.Loose.{one_more, folded}
use Rattle.board.proofs.questions.count_none.Goals as goal

pub returns : goal.returns
returns c =
    let all : c.fold.result ≡ fold one_more 0 c.args.mates.now = search rules in
    omega (arith, all, folded c.args.mates.now 0 (omega arith))
