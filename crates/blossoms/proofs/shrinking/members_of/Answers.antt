use Rattle.std.proofs.Common.{ℕ, Bool, false, ◌&&◌, ltb, List, get_or, sym, ap, arith, rules}
use Rattle.std.proofs.lemmas.List.{length-replicate, get_or-replicate}
use Rattle.std.proofs.lemmas.Bool.{lt-ltb, le-ltb}
use Rattle.matching.specs.State.{root_at}
use Rattle.tables.specs.declared.tables.Tables.{Tables}
use Rattle.tables.specs.States.{state}
use Rattle.tables.proofs.Keeping.{few, root_low}
use Rattle.blossoms.proofs.Filling.{filled_none, filled_more, filled_all}
use Rattle.blossoms.proofs.shrinking.members_of.Goals as goal

-- whether v is a member with a marked root
abbrev marked : Tables → List Bool → ℕ → Bool
marked t marks v = ltb v t.members && get_or marks (root_at (state t) v) false

pub loop-v-init : goal.loop-v-init
loop-v-init c = filled_none false (marked c.args.view.tables.now c.args.marks.now) (λ u. false) _ (length-replicate 200 false) (λ u l. get_or-replicate 200 u false false l)

pub offset_bounds-view-v : goal.offset_bounds-view-v
offset_bounds-view-v c = let h = few c.args.view.tables.now c.args.view.kept in search rules

pub bounds-view-v : goal.bounds-view-v
bounds-view-v c = omega (arith, few c.args.view.tables.now c.args.view.kept)

pub bounds-marks-view : goal.bounds-marks-view
bounds-marks-view c = root_low c.args.view.tables.now c.args.view.kept c.loop-v.v c.loop-v-test.true

pub bounds-holds-v : goal.bounds-holds-v
bounds-holds-v c = omega (arith, few c.args.view.tables.now c.args.view.kept)

pub loop-v-preserved : goal.loop-v-preserved
loop-v-preserved c =
    let t = c.args.view.tables.now in
    let marks = c.args.marks.now in
    let v = c.loop-v.v in
    filled_more false (marked t marks) (λ u. false) v c.loop-v.holds _ (omega (arith, few t c.args.view.kept))
    (sym (ap (λ b. b && get_or marks (root_at (state t) v) false) (lt-ltb v t.members c.loop-v-test.true))) c.loop-v.invariant

pub returns : goal.returns
returns c =
    let t = c.args.view.tables.now in
    let marks = c.args.marks.now in
    filled_all false (marked t marks) (λ u. false) c.loop-v.v c.loop-v.holds
    (λ u l _. sym (ap (λ b. b && get_or marks (root_at (state t) u) false) (le-ltb u t.members (omega (arith, c.loop-v-test.false))))) c.loop-v.invariant
