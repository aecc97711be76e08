use Rattle.tables.specs.States.{state}
use Rattle.blossoms.proofs.Passing.{Sofar}
use Rattle.blossoms.proofs.shrinking.links_of.Given as goal

abbrev pub invariant-loop-i : goal.invariant-loop-i
invariant-loop-i l = Sofar (state l.view.tables.now) l.root l.offers l.i l.part l.links l.marks
