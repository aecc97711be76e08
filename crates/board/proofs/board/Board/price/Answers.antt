use Rattle.std.proofs.Common.{◌<◌, arith, rules}
use Rattle.tables.proofs.Keeping.{few}
use Rattle.board.proofs.Keeping.{member_there}
use Rattle.board.proofs.board.Board.price.Given as given
use Rattle.board.proofs.board.Board.price.Goals as goal

within : (g : given.Over) (c : goal.In_ok-check_member g) → c.args.member < 200
within g c =
    let b = c.args.self.now in
    omega (arith, few b.tables b.kept, member_there b.tables c.args.member _ c.in_ok-check_member.ensures)

pub offset_bounds-self-member : goal.offset_bounds-self-member
offset_bounds-self-member g c = let h = within g c in search rules

pub bounds-self-member : goal.bounds-self-member
bounds-self-member g c = within g c
