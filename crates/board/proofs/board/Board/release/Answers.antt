use Rattle.std.proofs.Common.{arith}
use Rattle.tables.proofs.Keeping.{few}
use Rattle.board.proofs.board.Board.release.Goals as goal

pub invariant_of-result : goal.invariant_of-result
invariant_of-result g c = record { few = omega (arith, c.members.ensures, few c.args.self.tables c.args.self.kept) }
