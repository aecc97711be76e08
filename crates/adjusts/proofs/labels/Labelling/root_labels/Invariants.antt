use Rattle.adjusts.proofs.Labelling.{Lowest}
use Rattle.tables.specs.States.{state}
use Rattle.adjusts.proofs.labels.Labelling.root_labels.Given as goal

abbrev pub invariant-loop-v : goal.invariant-loop-v
invariant-loop-v l = Lowest (state l.self.view.tables.now) l.self.labels.now l.v l.root_labels
