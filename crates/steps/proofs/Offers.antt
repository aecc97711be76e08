-- How an adjust moves the yz of an offer, inside one root and between two. Assumes nothing.
use Rattle.std.proofs.Common.{◌≡◌, ℕ, ◌+◌, ◌-◌, ◌*◌, ◌<◌, ◌≤◌, Bool, true, false, cond, ◌&&◌, eqb, ◌≢◌, List, [], ◌∷◌, map, length, get_or, None, sym, refl, ap, ◌∙◌, subst, inl, inr, arith}
use Rattle.std.proofs.lemmas.List.{get_or-map, length-map, ext_get_or}
use Rattle.std.proofs.lemmas.Bool.{and_parts, and_from, both_ways, cases_Bool, cases_eq, cases_lt, eqb-true, eq-eqb, ne_eqb}
use Rattle.matching.specs.Sums.{total, below}
use Rattle.matching.specs.State.{State, Blossom, no_blossom, first_of, second_of, price_at, root_at, blossom_at, InUse, inside, node_holds, spans, around, yz}
use Rattle.matching.specs.Kept.{Kept, Outermost}
use Rattle.matching.proofs.Nesting.{one_root}
use Rattle.matching.proofs.Nodes.{inside_used, used_known, holds_inside, node_alone}
use Rattle.matching.proofs.Sums.{total_nil, total_cons, total_add, total_zero, total_below_same, length_below, getD_below, point}
use Rattle.steps.specs.Adjust.{label_at, label_of, label_fault, zero_fault, root_label, moved, repriced, adjusted}
use Rattle.steps.specs.Theorems.{InnerOffersStay, Moves, OuterOffersMove}
use Rattle.steps.proofs.Searches.{below_none, cases_below}
use Rattle.steps.proofs.Alike.{inside_same}
use Rattle.steps.proofs.Labels.{same_label, price_read, blossom_read, blossoms_full, adjusted_alike, in_priced}

-- a sum over a list, by its places
pub total_map : {X Y : Type 0} (f : Y → ℕ) (g : X → Y) (xs : List X) → total f (map g xs) ≡ total (λ x. f (g x)) xs
total_map f g [] = total_nil f ∙ sym (total_nil (λ x. f (g x)))
total_map f g (x ∷ xs) = total_cons f (g x) (map g xs) ∙ ap (λ n. f (g x) + n) (total_map f g xs) ∙ sym (total_cons (λ x. f (g x)) x xs)

pub total_places : {X : Type 0} (f : X → ℕ) (d : X) (xs : List X) (n : ℕ) → length xs ≡ n → total f xs ≡ total (λ i. f (get_or xs i d)) (below n)
total_places f d xs n long = ap (total f) same ∙ total_map f (λ i. get_or xs i d) (below n)
  where
    same : xs ≡ map (λ i. get_or xs i d) (below n)
    same =
        ext_get_or d xs (map (λ i. get_or xs i d) (below n)) (long ∙ sym (length-map (below n) (λ i. get_or xs i d) ∙ length_below n))
        (λ i h. let l : i < n = omega arith in
        sym (get_or-map (λ i. get_or xs i d) (below n) i 0 d (omega (arith, length_below n)) ∙ ap (λ k. get_or xs k d) (getD_below n i 0 l)))

-- what the blossom at place i adds to the offer e
abbrev pub share : State → ℕ → ℕ → ℕ
share s e i = cond (spans s (blossom_at s i) e) (blossom_at s i).price 0

pub around_places : (s : State) → length s.blossoms ≡ 100 → (e : ℕ) → around s e ≡ total (share s e) (below 100)
around_places s full e = total_places (λ b. cond (spans s b e) b.price 0) no_blossom s.blossoms 100 full

-- 1 of an out label, and 1 of an in label
abbrev outs : ℕ → ℕ
outs l = cond (eqb l 1) 1 0

abbrev ins : ℕ → ℕ
ins l = cond (eqb l 1) 0 (cond (eqb l 2) 1 0)

moved_by : (l y : ℕ) → 1 ≤ y → moved l y + outs l ≡ y + ins l
moved_by l y h = go (eqb l 1) (eqb l 2)
  where
    go : (a b : Bool) → cond a (y - 1) (cond b (y + 1) y) + cond a 1 0 ≡ y + cond a 0 (cond b 1 0)
    go true b = omega arith
    go false true = omega arith
    go false false = omega arith

repriced_by : (l : ℕ) (b : Blossom) → (l ≡ 2 → 2 ≤ b.price) → (repriced l b).price + 2 * ins l ≡ b.price + 2 * outs l
repriced_by l b h = go (eqb l 1) (eqb l 2) refl
  where
    go : (x y : Bool) → eqb l 2 ≡ y → cond x (b.price + 2) (cond y (b.price - 2) b.price) + 2 * cond x 0 (cond y 1 0) ≡ b.price + 2 * cond x 1 0
    go true y e = omega arith
    go false true e = let z = h (eqb-true l 2 e) in omega arith
    go false false e = omega arith

-- the label of a root is that of each of its members, and a node that is no root has none
module _ (s : State) (ls : List ℕ) where
  pub root_label_of : label_fault s ls ≡ None → (v p : ℕ) → v < s.members → root_at s v ≡ p → root_label s ls p ≡ label_at ls v
  root_label_of labels v p lt e = elim (cases_below (λ u. eqb (root_at s u) p) s.members) [
    | inl none ↦ absurd (both_ways (eqb (root_at s v) p) (below_none (λ u. eqb (root_at s u) p) s.members none v lt) (eq-eqb (root_at s v) p e))
    | inr found ↦ ap (label_of ls) found.1.0 ∙ same_label s ls labels v found.0 lt found.1.1 (eqb-true (root_at s found.0) p found.1.2 ∙ sym e)
  ]

  pub root_label_none : (p : ℕ) → ((v : ℕ) → v < s.members → root_at s v ≡ p → ⊥) → root_label s ls p ≡ 0
  root_label_none p never = elim (cases_below (λ u. eqb (root_at s u) p) s.members) [
    | inl none ↦ ap (label_of ls) none
    | inr found ↦ absurd (never found.0 found.1.1 (eqb-true (root_at s found.0) p found.1.2))
  ]

module _ (s : State) (ls : List ℕ) (e : ℕ) (kept : Kept s) (known : e < length s.rows) where
  full : length s.blossoms ≡ 100
  full = kept.sized.blossoms

  spans_same : (i : ℕ) → spans (adjusted s ls) (blossom_at (adjusted s ls) i) e ≡ spans s (blossom_at s i) e
  spans_same i =
      let alike = adjusted_alike s ls full in
      ap (λ x. x && inside (blossom_at (adjusted s ls) i) (second_of s e)) (inside_same s (adjusted s ls) alike i (first_of s e))
      ∙ ap (λ x. inside (blossom_at s i) (first_of s e) && x) (inside_same s (adjusted s ls) alike i (second_of s e))

  ends : (i : ℕ) → spans s (blossom_at s i) e ≡ true → (inside (blossom_at s i) (first_of s e) ≡ true) × (inside (blossom_at s i) (second_of s e) ≡ true)
  ends i h = and_parts (inside (blossom_at s i) (first_of s e)) (inside (blossom_at s i) (second_of s e)) h

  first_low : first_of s e < 200
  first_low = let few = kept.sized.few in let h = (kept.rows e known).first_in in omega arith

  second_low : second_of s e < 200
  second_low = let few = kept.sized.few in let h = (kept.rows e known).second_in in omega arith

  -- between two roots
  apart : root_at s (first_of s e) ≢ root_at s (second_of s e) → (i : ℕ) → spans s (blossom_at s i) e ≡ false
  apart d i = elim (cases_Bool (spans s (blossom_at s i) e)) [
    | inl h ↦ absurd (d (one_root s i (first_of s e) (second_of s e) kept (ends i h).0 (ends i h).1))
    | inr h ↦ h
  ]

  none_around : (t : State) → length t.blossoms ≡ 100 → ((i : ℕ) → spans t (blossom_at t i) e ≡ false) → around t e ≡ 0
  none_around t long never =
      around_places t long e
      ∙ total_below_same (share t e) (λ i. 0) 100 (λ i h. ap (λ x. cond x (blossom_at t i).price 0) (never i))
      ∙ total_zero (below 100)

  moves : root_at s (first_of s e) ≢ root_at s (second_of s e) → Moves s ls e
  moves d = record {
    free = none_around s full (apart d);
    sum =
        let gone = none_around (adjusted s ls) (blossoms_full s ls) (λ i. spans_same i ∙ apart d i) in
        omega (arith, gone, price_read s ls (first_of s e) first_low, price_read s ls (second_of s e) second_low);
  }

-- the place of the root of an offer's first member
abbrev pub root_place : State → ℕ → ℕ
root_place s e = root_at s (first_of s e) - 200

-- inside one root: that blossom holds both members, and no other blossom around them is a root
module _ (s : State) (ls : List ℕ) (e : ℕ) (kept : Kept s) (known : e < length s.rows) (one : root_at s (first_of s e) ≡ root_at s (second_of s e)) where
  first_held : node_holds s (root_at s (first_of s e)) (first_of s e) ≡ true
  first_held = kept.nested.root_holds (first_of s e) (kept.rows e known).first_in

  second_held : node_holds s (root_at s (first_of s e)) (second_of s e) ≡ true
  second_held = subst (λ q. node_holds s q (second_of s e) ≡ true) (sym one) (kept.nested.root_holds (second_of s e) (kept.rows e known).second_in)

  root_blossom : 200 + root_place s e ≡ root_at s (first_of s e)
  root_blossom = elim (cases_lt (root_at s (first_of s e)) 200) [
    | inl l ↦
        absurd ((kept.rows e known).differ
        (sym (node_alone s (root_at s (first_of s e)) (first_of s e) l first_held) ∙ node_alone s (root_at s (first_of s e)) (second_of s e) l second_held))
    | inr l ↦ omega arith
  ]

  held_by_root : (v : ℕ) → node_holds s (root_at s (first_of s e)) v ≡ true → inside (blossom_at s (root_place s e)) v ≡ true
  held_by_root v h = sym (holds_inside s (root_place s e) v) ∙ subst (λ q. node_holds s q v ≡ true) (sym root_blossom) h

  pub root_spans : spans s (blossom_at s (root_place s e)) e ≡ true
  root_spans =
      and_from (inside (blossom_at s (root_place s e)) (first_of s e)) (inside (blossom_at s (root_place s e)) (second_of s e))
      (held_by_root (first_of s e) first_held) (held_by_root (second_of s e) second_held)

  root_used : InUse s (root_place s e)
  root_used = inside_used (blossom_at s (root_place s e)) (first_of s e) (held_by_root (first_of s e) first_held)

  share_is : (i : ℕ) → i < 100 → share (adjusted s ls) e i ≡ cond (spans s (blossom_at s i) e) (repriced (root_label s ls (200 + i)) (blossom_at s i)).price 0
  share_is i h =
      ap (λ x. cond x (blossom_at (adjusted s ls) i).price 0) (spans_same s ls e kept known i)
      ∙ ap (λ (b : Blossom). cond (spans s (blossom_at s i) e) b.price 0) (blossom_read s ls i h)

  -- a blossom that is no root keeps its price
  elsewhere : (i : ℕ) → i < 100 → (root_place s e ≡ i → ⊥) → share (adjusted s ls) e i ≡ share s e i
  elsewhere i h d = share_is i h ∙ elim (cases_Bool (spans s (blossom_at s i) e)) [
    | inl q ↦
        ap (λ l. cond (spans s (blossom_at s i) e) (repriced l (blossom_at s i)).price 0)
        (root_label_none s ls (200 + i) (λ v lt r.
        let free = subst (Outermost s) r (kept.nested.root_outermost v lt) in
        let held = holds_inside s i (first_of s e) ∙ (ends s ls e kept known i q).0 in
        let same = kept.nested.root_only (first_of s e) (200 + i) (kept.rows e known).first_in held free in
        d (omega arith)))
    | inr q ↦
        ap (λ x. cond x (repriced (root_label s ls (200 + i)) (blossom_at s i)).price 0) q
        ∙ sym (ap (λ x. cond x (blossom_at s i).price 0) q)
  ]

  module _ (labels : label_fault s ls ≡ None) (zero : zero_fault s ls ≡ None) where
    root_label_is : root_label s ls (200 + root_place s e) ≡ label_at ls (first_of s e)
    root_label_is = root_label_of s ls labels (first_of s e) (200 + root_place s e) (kept.rows e known).first_in (sym root_blossom)

    place_low : root_place s e < 100
    place_low = omega (arith, used_known s (root_place s e) root_used, kept.sized.blossoms)

    at_root : share (adjusted s ls) e (root_place s e) + 2 * ins (label_at ls (first_of s e)) ≡ share s e (root_place s e) + 2 * outs (label_at ls (first_of s e))
    at_root =
        let i = root_place s e in
        let l = root_label s ls (200 + i) in
        let b = blossom_at s i in
        let even = kept.even i root_used in
        let step = repriced_by l b (λ two. (let some = in_priced s ls zero i place_low root_used two in omega arith)) in
        let after = share_is i place_low ∙ ap (λ x. cond x (repriced l b).price 0) root_spans in
        let before : share s e i ≡ b.price = ap (λ x. cond x b.price 0) root_spans in
        omega (arith, step, after, before, ap outs root_label_is, ap ins root_label_is)

    each : (i : ℕ) → i < 100 →
        share (adjusted s ls) e i + cond (eqb (root_place s e) i) (2 * ins (label_at ls (first_of s e))) 0 ≡ share s e i + cond (eqb (root_place s e) i) (2 * outs (label_at ls (first_of s e))) 0
    each i h = elim (cases_eq (root_place s e) i) [
      | inl q ↦
          ap (λ x. share (adjusted s ls) e i + cond x (2 * ins (label_at ls (first_of s e))) 0) (eq-eqb (root_place s e) i q)
          ∙ subst (λ k. share (adjusted s ls) e k + 2 * ins (label_at ls (first_of s e)) ≡ share s e k + 2 * outs (label_at ls (first_of s e))) q at_root
          ∙ sym (ap (λ x. share s e i + cond x (2 * outs (label_at ls (first_of s e))) 0) (eq-eqb (root_place s e) i q))
      | inr q ↦
          ap (λ x. share (adjusted s ls) e i + cond x (2 * ins (label_at ls (first_of s e))) 0) (ne_eqb (root_place s e) i q)
          ∙ ap (λ n. n + 0) (elsewhere i h q)
          ∙ sym (ap (λ x. share s e i + cond x (2 * outs (label_at ls (first_of s e))) 0) (ne_eqb (root_place s e) i q))
    ]

    around_moves : around (adjusted s ls) e + 2 * ins (label_at ls (first_of s e)) ≡ around s e + 2 * outs (label_at ls (first_of s e))
    around_moves =
        let l = label_at ls (first_of s e) in
        let falls : ℕ → ℕ = λ i. cond (eqb (root_place s e) i) (2 * ins l) 0 in
        let rises : ℕ → ℕ = λ i. cond (eqb (root_place s e) i) (2 * outs l) 0 in
        omega (
          arith,
          around_places s kept.sized.blossoms e,
          around_places (adjusted s ls) (blossoms_full s ls) e,
          total_below_same (λ i. share (adjusted s ls) e i + falls i) (λ i. share s e i + rises i) 100 each,
          total_add (share (adjusted s ls) e) falls (below 100),
          total_add (share s e) rises (below 100),
          point (λ i. 2 * ins l) (root_place s e) 100 place_low,
          point (λ i. 2 * outs l) (root_place s e) 100 place_low,
        )

    stays : 1 ≤ s.floor → yz (adjusted s ls) e ≡ yz s e
    stays floor =
        let u = first_of s e in
        let w = second_of s e in
        let lu = (kept.rows e known).first_in in
        let lw = (kept.rows e known).second_in in
        let yu = kept.floored.above u lu in
        let yw = kept.floored.above w lw in
        let label = same_label s ls labels u w lu lw (sym one) in
        let first = moved_by (label_at ls u) (price_at s u) (omega arith) in
        let second = moved_by (label_at ls u) (price_at s w) (omega arith) in
        let after-u = price_read s ls u (first_low s ls e kept known) in
        let after-w = price_read s ls w (second_low s ls e kept known) ∙ ap (λ l. moved l (price_at s w)) label in
        omega (arith, first, second, after-u, after-w, around_moves)

pub inner_offers_stay : InnerOffersStay
inner_offers_stay s ls e kept labels floor zero known one = stays s ls e kept known one labels zero floor

pub outer_offers_move : OuterOffersMove
outer_offers_move s ls e kept known d = moves s ls e kept known d
