-- The way of an accepted augment, offer by offer, and that its tasks can be done. Assumes nothing.
use Rattle.std.proofs.Common.{◌≡◌, ℕ, ◌+◌, ◌%◌, ◌<◌, ◌≤◌, List, [], ◌∷◌, length, get_or, drop, None, Option, sym, refl, ap, ◌∙◌, subst, arith}
use mathlib.Core.Logic.{∥∥₁_elim, ∥∥₁_map}
use native.Mathlib.Bridge.{le_prop}
use native.Mathlib.Nat.{ℕ_set}
use Rattle.std.proofs.lemmas.List.{drop_more, drop_all}
use Rattle.matching.specs.State.{State}
use Rattle.matching.specs.Kept.{Kept}
use Rattle.paths.specs.Bare.{Link, by_twos, joined, Task, piled}
use Rattle.paths.specs.Walk.{across}
use Rattle.paths.specs.Augment.{augment_fault, way}
use Rattle.paths.proofs.Rings.{rings_of}
use Rattle.paths.proofs.Walks.{Accepted, accepted, front, last_link, way_split, path_of, root_node}
use Rattle.paths.proofs.Paths.{path_ready, path_apart}
use Rattle.tables.specs.declared.tables.Tables.{Tables}
use Rattle.tables.specs.States.{state}
use Rattle.tables.specs.Kept.{Held, Keeps}
use Rattle.tables.proofs.Keeping.{few}
use Rattle.augments.specs.Laying.{Pending}
use Rattle.augments.proofs.Turns.{joined_two, piled_two, length_piled, length_twos}
use Rattle.augments.proofs.Loads.{load_le, length_load}
use Rattle.augments.proofs.Places.{node_low}

-- the links that are left at position i, where the way stands at the root p: at an odd position the root there is joined already
abbrev pub left : State → List ℕ → ℕ → ℕ → List Link
left s es i p = drop (i % 2) (way s p (drop i es))

way_head : (s : State) (r : ℕ) (es : List ℕ) → (e : ℕ) × (way s r es ≡ (record { part = r; offer = e } ∷ drop 1 (way s r es)))
way_head s r [] = (0, refl)
way_head s r (e ∷ es) = (e, refl)

length_way : (s : State) (r : ℕ) (es : List ℕ) → length (way s r es) ≡ length es + 1
length_way s r [] = refl
length_way s r (e ∷ es) = omega (arith, length_way s (across s e r) es)

module _ (s : State) (es : List ℕ) (i p q : ℕ) (l : i < length es) (next : q ≡ across s (get_or es i 0) p) where
  -- one more offer on the way
  onward : way s p (drop i es) ≡ (record { part = p; offer = get_or es i 0 } ∷ way s q (drop (i + 1) es))
  onward =
      ap (way s p) (drop_more es i 0 l)
      ∙ ap (λ (r : ℕ). record { part = p; offer = get_or es i 0 } ∷ way s r (drop (i + 1) es)) (sym next)

  -- at an even position the two roots are joined
  pub left_even : i % 2 ≡ 0 → (e : ℕ) × (left s es i p ≡ (record { part = p; offer = get_or es i 0 } ∷ (record { part = q; offer = e } ∷ left s es (i + 1) q)))
  left_even h =
      let n : (i + 1) % 2 ≡ 1 = omega arith in
      let w = way_head s q (drop (i + 1) es) in (
        w.0,
        ap (λ (k : ℕ). drop k (way s p (drop i es))) h ∙ onward
            ∙ ap (λ (ls : List Link). record { part = p; offer = get_or es i 0 } ∷ ls) w.1
            ∙ ap (λ (k : ℕ). record { part = p; offer = get_or es i 0 } ∷ (record { part = q; offer = w.0 } ∷ drop k (way s q (drop (i + 1) es)))) (sym n),
      )

  -- at an odd one nothing is
  pub left_odd : i % 2 ≡ 1 → left s es i p ≡ left s es (i + 1) q
  left_odd h =
      let n : (i + 1) % 2 ≡ 0 = omega arith in
      ap (λ (k : ℕ). drop k (way s p (drop i es))) h ∙ ap (drop 1) onward ∙ ap (λ (k : ℕ). drop k (way s q (drop (i + 1) es))) (sym n)

pub left_end : (s : State) (es : List ℕ) (i p : ℕ) → length es ≤ i → i % 2 ≡ 1 → left s es i p ≡ []
left_end s es i p l h = ap (λ (k : ℕ). drop k (way s p (drop i es))) h ∙ ap (λ (ls : List ℕ). drop 1 (way s p ls)) (drop_all i es l)

pending_of : (s : State) (r : ℕ) (es : List ℕ) → Kept s → Accepted s r es → Pending s (piled s (by_twos (way s r es)) [])
pending_of s r [] kept a = absurd (omega (arith, a.odd))
pending_of s r (e ∷ es) kept a =
    let x : Link = record { part = r; offer = e } in
    let mid = front s (across s e r) es in
    let z = last_link s (across s e r) es in
    let q = ap (λ (ls : List Link). x ∷ ls) (way_split s (across s e r) es) in
    let p = path_of s r e es kept a in
    subst (λ (ls : List Link). Pending s (piled s (by_twos ls) [])) (sym q) (record { ready = path_ready s x mid z kept p; apart = path_apart s x mid z kept p })

module _ (t : Tables) (k : Keeps t) (r : ℕ) (es : List ℕ) (none : augment_fault (state t) r es ≡ None) where
  taken : Held t → Accepted (state t) r es
  taken h = accepted (state t) r es h.kept none

  pub first_root : r < 300
  first_root = ∥∥₁_elim k le_prop (λ h. node_low t k r (root_node (state t) h.kept r (taken h).root))

  pub odd : length es % 2 ≡ 1
  odd = ∥∥₁_elim k (ℕ_set _ _) (λ h. (taken h).odd)

  pub pending : ∥ Pending (state t) (piled (state t) (by_twos (way (state t) r es)) []) ∥₁
  pending = ∥∥₁_map k (λ h. pending_of (state t) r es h.kept (taken h))

  -- two tasks for every second offer: no more than there are members
  pub short : length es + 1 ≤ 200
  short = ∥∥₁_elim k le_prop by
    where
      by : Held t → length es + 1 ≤ 200
      by h =
          let s = state t in
          let w = pending_of s r es h.kept (taken h) in
          let n = length_way s r es in
          let two = length_twos (way s r es) (omega (arith, n, odd)) in
          omega (
            arith,
            n,
            two,
            length_piled s (by_twos (way s r es)) [],
            length_load s (rings_of s h.kept) _ w.ready,
            load_le s _ w.apart,
            few t k,
          )

-- one more offer: what is left and what is done make up the same whole
module _ (s : State) (es : List ℕ) (i p q : ℕ) (l : i < length es) (next : q ≡ across s (get_or es i 0) p) (m m' : List (Option ℕ)) (ts ts' : List Task) where
  pub step_even : i % 2 ≡ 0 → m' ≡ joined s (record { offer = get_or es i 0; one = p; other = q } ∷ []) m → ts' ≡ piled s (record { offer = get_or es i 0; one = p; other = q } ∷ []) ts →
      (joined s (by_twos (left s es (i + 1) q)) m' ≡ joined s (by_twos (left s es i p)) m) × (piled s (by_twos (left s es (i + 1) q)) ts' ≡ piled s (by_twos (left s es i p)) ts)
  step_even h jm jt =
      let w = left_even s es i p q l next h in
      let x : Link = record { part = p; offer = get_or es i 0 } in
      let y : Link = record { part = q; offer = w.0 } in
      (joined_two s (left s es i p) (left s es (i + 1) q) x y m m' w.1 jm, piled_two s (left s es i p) (left s es (i + 1) q) x y ts ts' w.1 jt)

  pub step_odd : i % 2 ≡ 1 → m' ≡ m → ts' ≡ ts →
      (joined s (by_twos (left s es (i + 1) q)) m' ≡ joined s (by_twos (left s es i p)) m) × (piled s (by_twos (left s es (i + 1) q)) ts' ≡ piled s (by_twos (left s es i p)) ts)
  step_odd h jm jt =
      let w = left_odd s es i p q l next h in (
        ap (joined s (by_twos (left s es (i + 1) q))) jm ∙ ap (λ (ls : List Link). joined s (by_twos ls) m) (sym w),
        ap (piled s (by_twos (left s es (i + 1) q))) jt ∙ ap (λ (ls : List Link). piled s (by_twos ls) ts) (sym w),
      )
