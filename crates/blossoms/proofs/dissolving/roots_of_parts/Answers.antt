use Rattle.std.proofs.Common.{ℕ, ◌+◌, ◌-◌, ◌<◌, List, sym, refl, ap, ◌∙◌, subst, arith, rules}
use Rattle.matching.specs.State.{root_at}
use Rattle.rings.specs.Dissolve.{holder}
use Rattle.tables.specs.declared.tables.Link.{Link}
use Rattle.tables.specs.States.{parts_in, state}
use Rattle.tables.proofs.Keeping.{few, roots_long}
use Rattle.blossoms.proofs.Filling.{Filled, filled_none, filled_more, filled_same, filled_all}
use Rattle.blossoms.specs.Steps.{parted}
use Rattle.blossoms.proofs.Parting.{parts_there, parted_in, parted_out, parted_past}
use Rattle.blossoms.proofs.dissolving.roots_of_parts.Goals as goal
use Rattle.blossoms.proofs.dissolving.roots_of_parts.Goals.{then-roots-v, else-roots-v}

pub loop-v-init : goal.loop-v-init
loop-v-init c =
    let t = c.args.view.tables.now in
    filled_none 0 (parted (state t) c.args.node) (root_at (state t)) t.roots (roots_long t c.args.view.kept) (λ u l. refl)

pub offset_bounds-roots-v : goal.offset_bounds-roots-v
offset_bounds-roots-v c = let h = few c.args.view.tables.now c.args.view.kept in search rules

pub bounds-roots-v : goal.bounds-roots-v
bounds-roots-v c = omega (arith, few c.args.view.tables.now c.args.view.kept)

pub holder-requires : goal.holder-requires
holder-requires c = omega (arith, few c.args.view.tables.now c.args.view.kept)

pub offset_bounds-roots-v-then-roots-v : goal.offset_bounds-roots-v-then-roots-v
offset_bounds-roots-v-then-roots-v c = let h = few c.args.view.tables.now c.args.view.kept in search rules

pub bounds-roots-v-then-roots-v : goal.bounds-roots-v-then-roots-v
bounds-roots-v-then-roots-v c = omega (arith, few c.args.view.tables.now c.args.view.kept)

pub loop-v-preserved : goal.loop-v-preserved
loop-v-preserved c =
    let t = c.args.view.tables.now in
    let s = state t in
    let p = c.args.node in
    let v = c.loop-v.v in
    let f = parted s p in
    let g = root_at s in
    let low : v < 200 = omega (arith, few t c.args.view.kept, c.loop-v-test.true) in
    let was = c.loop-v.invariant.rest v (omega arith) low in
    elim c.if-roots-v.branch [
      | then-roots-v w ↦
          subst (Filled 0 f g (v + 1)) (sym w.roots-is)
          (filled_more 0 f g v c.loop-v.roots w.holder.result low
          (w.holder.ensures ∙ ap (λ (ls : List Link). holder s (parts_in ls) v) c.ring-ring.ensures.value ∙ ap (λ (ps : List ℕ). holder s ps v) (sym (parts_there t (p - 200))) ∙ parted_in s p v c.loop-v-test.true (sym was ∙ w.if-roots-v.true))
          c.loop-v.invariant)
      | else-roots-v w ↦
          subst (Filled 0 f g (v + 1)) (sym w.roots-is)
          (filled_same 0 f g v c.loop-v.roots low (parted_out s p v c.loop-v-test.true (λ e. w.if-roots-v.false (was ∙ e))) c.loop-v.invariant)
    ]

pub returns : goal.returns
returns c =
    let s = state c.args.view.tables.now in
    filled_all 0 (parted s c.args.node) (root_at s) c.loop-v.v c.loop-v.roots (λ u l low. parted_past s c.args.node u (omega (arith, c.loop-v-test.false))) c.loop-v.invariant
