use Rattle.std.proofs.Common.{◌-◌, refl, arith}
use Rattle.tables.specs.States.{state}
use Rattle.tables.proofs.Keeping.{few, root_low}
use Rattle.adjusts.proofs.Labelling.{lowest_none, lowest_more}
use Rattle.adjusts.proofs.labels.Labelling.root_labels.Goals as goal

pub loop-v-init : goal.loop-v-init
loop-v-init c = lowest_none (state c.args.self.view.tables.now) c.args.self.labels.now _ c.args.self.all

pub bounds-self-v : goal.bounds-self-v
bounds-self-v c = omega (arith, few c.args.self.view.tables.now c.args.self.view.kept, c.loop-v.invariant.within)

pub bounds-root_labels-self : goal.bounds-root_labels-self
bounds-root_labels-self c = root_low c.args.self.view.tables.now c.args.self.view.kept (c.loop-v.v - 1) (omega (arith, c.loop-v.invariant.within))

pub loop-v-preserved : goal.loop-v-preserved
loop-v-preserved c =
    let t = c.args.self.view.tables.now in
    let v = c.loop-v.v in
    lowest_more (state t) c.args.self.labels.now (v - 1) v _ c.loop-v.root_labels (omega arith) (root_low t c.args.self.view.kept (v - 1) (omega (arith, c.loop-v.invariant.within))) refl c.loop-v.invariant
