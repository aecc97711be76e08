use Rattle.std.proofs.Common.{◌≡◌, ◌+◌, ◌<◌, not, ◌&&◌, ◌||◌, eqb, ltb, get_or, sym, ap, ◌∙◌, subst, arith, rules}
use Rattle.matching.specs.State.{root_at}
use Rattle.matching.specs.Mates.{mate}
use Rattle.tables.specs.States.{state}
use Rattle.tables.proofs.Keeping.{few, root_low}
use Rattle.tables.proofs.Keeping.{is_none_by}
use Rattle.adjusts.proofs.Labelling.{flaw, Marked, marked_none, marked_more, marked_same}
use Rattle.adjusts.proofs.labels.Labelling.mislabelled.Goals as goal
use Rattle.adjusts.proofs.labels.Labelling.mislabelled.Goals.{then-is_wrong, else-is_wrong}

pub loop-v-init : goal.loop-v-init
loop-v-init c = marked_none (state c.args.self.view.tables.now) c.args.self.labels.now c.args.common.now

pub bounds-tables-v : goal.bounds-tables-v
bounds-tables-v c = omega (arith, few c.args.self.view.tables.now c.args.self.view.kept)

pub offset_bounds-tables-v-in-loop-v : goal.offset_bounds-tables-v-in-loop-v
offset_bounds-tables-v-in-loop-v c = let h = few c.args.self.view.tables.now c.args.self.view.kept in search rules

pub bounds-tables-v-in-loop-v : goal.bounds-tables-v-in-loop-v
bounds-tables-v-in-loop-v c = omega (arith, few c.args.self.view.tables.now c.args.self.view.kept)

pub bounds-common-root : goal.bounds-common-root
bounds-common-root c = root_low c.args.self.view.tables.now c.args.self.view.kept c.loop-v.v (omega arith)

pub bounds-bad-root : goal.bounds-bad-root
bounds-bad-root c = root_low c.args.self.view.tables.now c.args.self.view.kept c.loop-v.v (omega arith)

pub loop-v-preserved : goal.loop-v-preserved
loop-v-preserved c =
    let t = c.args.self.view.tables.now in
    let s = state t in
    let ls = c.args.self.labels.now in
    let rl = c.args.common.now in
    let v = c.loop-v.v in
    let bad = c.loop-v.bad in
    let x = get_or rl (root_at s v) 0 in
    let low : root_at s v < 300 = root_low t c.args.self.view.kept v (omega arith) in
    let free = is_none_by (mate t.mates v) c.is_none.result c.is_none.ensures in
    let told : flaw s ls x v ≡ c.is_wrong.result = ap (λ b. not (eqb (get_or ls v 0) x) || (ltb 2 (get_or ls v 0) || (b && not (eqb (get_or ls v 0) 1)))) free ∙ sym c.is_wrong.ensures in
    elim c.if-is_wrong.branch [
      | then-is_wrong w ↦ subst (Marked s ls rl (v + 1)) (sym w.bad-is) (marked_more s ls rl v bad low (told ∙ w.if-is_wrong.true) c.loop-v.invariant)
      | else-is_wrong w ↦ subst (Marked s ls rl (v + 1)) (sym w.bad-is) (marked_same s ls rl v bad (told ∙ w.if-is_wrong.false) c.loop-v.invariant)
    ]
