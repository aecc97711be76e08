use Rattle.std.proofs.Common.{arith, rules, below_more}
use Rattle.tables.specs.States.{state}
use Rattle.tables.proofs.Keeping.{few, root_low}
use Rattle.adjusts.proofs.Labelling.{labels_refused, labels_fine}
use Rattle.adjusts.proofs.labels.Labelling.check.Goals as goal

pub loop-v-init : goal.loop-v-init
loop-v-init c = λ u l. absurd (omega arith)

pub offset_bounds-tables-v : goal.offset_bounds-tables-v
offset_bounds-tables-v c = let h = few c.args.self.view.tables.now c.args.self.view.kept in search rules

pub bounds-tables-v : goal.bounds-tables-v
bounds-tables-v c = omega (arith, few c.args.self.view.tables.now c.args.self.view.kept)

pub bounds-bad-tables : goal.bounds-bad-tables
bounds-bad-tables c = root_low c.args.self.view.tables.now c.args.self.view.kept c.loop-v.v (omega arith)

pub returns-then-bad-tables : goal.returns-then-bad-tables
returns-then-bad-tables c =
    let t = c.args.self.view.tables.now in
    labels_refused (state t) c.args.self.labels.now c.root_labels.result c.mislabelled-bad.result (root_low t c.args.self.view.kept) c.root_labels.ensures c.mislabelled-bad.ensures c.loop-v.v c.args.self.all (omega arith) c.loop-v.invariant c.if-bad-tables.true

pub loop-v-preserved : goal.loop-v-preserved
loop-v-preserved c = below_more _ _ c.loop-v.invariant c.if-bad-tables.false

pub returns : goal.returns
returns c =
    let t = c.args.self.view.tables.now in
    labels_fine (state t) c.args.self.labels.now c.root_labels.result c.mislabelled-bad.result (root_low t c.args.self.view.kept) c.root_labels.ensures c.mislabelled-bad.ensures c.args.self.all (λ u l. c.loop-v.invariant u (omega arith))
