use Rattle.tables.specs.States.{state}
use Rattle.walks.proofs.Following.{Sofar}
use Rattle.walks.proofs.follow.Given as goal

abbrev pub invariant-loop-i : goal.invariant-loop-i
invariant-loop-i l = Sofar (state l.view.tables.now) l.back l.root l.offers l.i l.at l.turn l.used
