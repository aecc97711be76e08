use Rattle.adjusts.proofs.Labelling.{Marked}
use Rattle.tables.specs.States.{state}
use Rattle.adjusts.proofs.labels.Labelling.mislabelled.Given as goal

abbrev pub invariant-loop-v : goal.invariant-loop-v
invariant-loop-v l = Marked (state l.self.view.tables.now) l.self.labels.now l.common l.v l.bad
