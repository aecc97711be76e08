use Rattle.board.proofs.Savings.{Sofar}
use Rattle.board.proofs.questions.saved.Given as goal

abbrev pub invariant-loop-e : goal.invariant-loop-e
invariant-loop-e l = Sofar l.saving l.view.tables.now l.e l.sum
