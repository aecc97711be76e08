use Rattle.tables.specs.States.{state}
use Rattle.adjusts.proofs.Labelling.{labels_miscounted}
use Rattle.adjusts.proofs.labels.check_labels.Goals as goal

pub returns-then-labels-view : goal.returns-then-labels-view
returns-then-labels-view c = labels_miscounted (state c.args.view.tables.now) c.args.labels.now c.if-labels-view.true
