use Rattle.board.proofs.Moving.{BlossomsSofar}
use Rattle.board.proofs.adjusting.move_blossoms.Given as goal

abbrev pub invariant-loop-at : goal.invariant-loop-at
invariant-loop-at l = BlossomsSofar l.initial.tables l.common l.at l.tables
