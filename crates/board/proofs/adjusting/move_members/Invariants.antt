use Rattle.board.proofs.Moving.{MembersSofar}
use Rattle.board.proofs.adjusting.move_members.Given as goal

abbrev pub invariant-loop-v : goal.invariant-loop-v
invariant-loop-v l = MembersSofar l.initial.tables l.labels l.v l.tables
