use Rattle.std.proofs.Common.{◌≡◌, rules}
use Rattle.board.proofs.Moving.{unmoved}
use Rattle.board.proofs.adjusting.move_blossom.Goals as goal

pub returns-else-ne : goal.returns-else-ne
returns-else-ne c =
    let none : c.args.label ≡ 0 = search rules in
    unmoved c.args.tables.now c.args.at c.args.label none
