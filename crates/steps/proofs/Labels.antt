-- What labels that nothing stands against say of each member, and what adjust leaves at each place. Assumes nothing.
use Rattle.std.proofs.Common.{◌≡◌, ℕ, ◌+◌, ◌-◌, ◌%◌, ◌<◌, ◌≤◌, Bool, true, false, cond, not, ◌&&◌, ◌||◌, eqb, ltb, List, length, None, sym, refl, ap, ◌∙◌, inl, inr, arith}
use Rattle.std.proofs.lemmas.List.{get_or-map, get_or_past, length-map}
use Rattle.std.proofs.lemmas.Bool.{and_cases, or_parts, not-false, both_ways, cases_lt, cond_both, eqb-true, eqb-false}
use Rattle.faults.specs.Checks.{unless}
use Rattle.faults.specs.declared.layers.BoardFault.TheVariants.{BadLabels, InAtZero}
use Rattle.matching.specs.Mates.{mate, is_none}
use Rattle.matching.specs.Sums.{below}
use Rattle.matching.specs.State.{State, Blossom, no_blossom, price_at, root_at, blossom_at, InUse}
use Rattle.matching.proofs.Sums.{length_below, getD_below}
use Rattle.steps.specs.Searches.{first_below, some_below}
use Rattle.steps.specs.Adjust.{label_at, offends, label_fault, zero_fault, root_label, moved, repriced, adjusted}
use Rattle.steps.proofs.Searches.{below_none, some_below_false, or_else_none, none_mapped}
use Rattle.steps.proofs.Alike.{Alike, at_price}

-- a choice by the label: out, in, or neither
pub by_label : {A : Type 0} (l : ℕ) (x y z : A) (P : A → Type 0) → (l ≡ 1 → P x) → (l ≡ 2 → P y) → P z → P (cond (eqb l 1) x (cond (eqb l 2) y z))
by_label l x y z P p q r = cond_both (eqb l 1) x (cond (eqb l 2) y z) P (λ e. p (eqb-true l 1 e)) (λ e. cond_both (eqb l 2) y z P (λ f. q (eqb-true l 2 f)) (λ f. r))

-- what one label moves, moves together
pub moved_parity : (l a b : ℕ) → 1 ≤ a → 1 ≤ b → a % 2 ≡ b % 2 → moved l a % 2 ≡ moved l b % 2
moved_parity l a b p q h = go (eqb l 1) (eqb l 2)
  where
    go : (x y : Bool) → cond x (a - 1) (cond y (a + 1) a) % 2 ≡ cond x (b - 1) (cond y (b + 1) b) % 2
    go true y = omega arith
    go false true = omega arith
    go false false = h

module _ (s : State) (ls : List ℕ) (labels : label_fault s ls ≡ None) where
  not_offends : (v w : ℕ) → v < s.members → w < s.members → offends s ls v w ≡ false
  not_offends v w lv lw =
      let none = none_mapped BadLabels (first_below (λ v. some_below (offends s ls v) s.members) s.members) (or_else_none (unless (eqb (length ls) s.members) (BadLabels (length ls))) _ labels).1 in
      some_below_false (offends s ls v) s.members (below_none (λ v. some_below (offends s ls v) s.members) s.members none v lv) w lw

  -- the members of one root have one label, and a loose one is out
  in_root : (v w : ℕ) → v < s.members → w < s.members → root_at s w ≡ root_at s v → (label_at ls w ≡ label_at ls v) × (mate s.mates w ≡ None → label_at ls w ≡ 1)
  in_root v w lv lw e = elim (and_cases (eqb (root_at s w) (root_at s v)) (not same || (high || (alone && not out))) (not_offends v w lv lw)) [
    | inl f ↦ absurd (eqb-false (root_at s w) (root_at s v) f e)
    | inr f ↦
        let a = or_parts (not same) (high || (alone && not out)) f in
        let b = or_parts high (alone && not out) a.1 in (
          eqb-true (label_at ls w) (label_at ls v) (not-false same a.0),
          λ m. (elim (and_cases alone (not out) b.1) [
            | inl g ↦ absurd (both_ways alone g (ap is_none m))
            | inr g ↦ eqb-true (label_at ls w) 1 (not-false out g)
          ]),
        )
  ]
    where
      same : Bool
      same = eqb (label_at ls w) (label_at ls v)

      high : Bool
      high = ltb 2 (label_at ls w)

      alone : Bool
      alone = is_none (mate s.mates w)

      out : Bool
      out = eqb (label_at ls w) 1

  pub same_label : (v w : ℕ) → v < s.members → w < s.members → root_at s w ≡ root_at s v → label_at ls w ≡ label_at ls v
  same_label v w lv lw e = (in_root v w lv lw e).0

  pub loose_out : (v : ℕ) → v < s.members → mate s.mates v ≡ None → label_at ls v ≡ 1
  loose_out v h = (in_root v v h h refl).1

module _ (s : State) (ls : List ℕ) where
  pub price_read : (v : ℕ) → v < 200 → price_at (adjusted s ls) v ≡ moved (label_at ls v) (price_at s v)
  price_read v h =
      get_or-map (λ v. moved (label_at ls v) (price_at s v)) (below 200) v 0 0 (omega (arith, length_below 200))
      ∙ ap (λ k. moved (label_at ls k) (price_at s k)) (getD_below 200 v 0 h)

  pub blossom_read : (i : ℕ) → i < 100 → blossom_at (adjusted s ls) i ≡ repriced (root_label s ls (200 + i)) (blossom_at s i)
  blossom_read i h =
      get_or-map (λ i. repriced (root_label s ls (200 + i)) (blossom_at s i)) (below 100) i 0 no_blossom (omega (arith, length_below 100))
      ∙ ap (λ k. repriced (root_label s ls (200 + k)) (blossom_at s k)) (getD_below 100 i 0 h)

  pub prices_full : length (adjusted s ls).prices ≡ 200
  prices_full = length-map (below 200) (λ v. moved (label_at ls v) (price_at s v)) ∙ length_below 200

  pub blossoms_full : length (adjusted s ls).blossoms ≡ 100
  blossoms_full = length-map (below 100) (λ i. repriced (root_label s ls (200 + i)) (blossom_at s i)) ∙ length_below 100

  -- only prices move
  pub adjusted_alike : length s.blossoms ≡ 100 → Alike s (adjusted s ls)
  adjusted_alike full i = elim (cases_lt i 100) [
    | inl h ↦ let e = blossom_read i h in e ∙ ap (λ (b : Blossom). at_price b.price (blossom_at s i)) (sym e)
    | inr h ↦
        let e = get_or_past (adjusted s ls).blossoms i no_blossom (omega (arith, blossoms_full)) in
        let f = get_or_past s.blossoms i no_blossom (omega arith) in
        e ∙ ap (at_price 0) (sym f) ∙ ap (λ (b : Blossom). at_price b.price (blossom_at s i)) (sym e)
  ]

  -- an in root blossom has a price to lose
  pub in_priced : zero_fault s ls ≡ None → (i : ℕ) → i < 100 → InUse s i → root_label s ls (200 + i) ≡ 2 → 1 ≤ (blossom_at s i).price
  in_priced zero i h u l =
      let test : ℕ → Bool = λ i. (blossom_at s i).used && (eqb (root_label s ls (200 + i)) 2 && eqb (blossom_at s i).price 0) in
      let none = none_mapped (λ i. InAtZero (200 + i)) (first_below test 100) zero in
      let fails = below_none test 100 none i h in
      elim (and_cases (blossom_at s i).used (eqb (root_label s ls (200 + i)) 2 && eqb (blossom_at s i).price 0) fails) [
        | inl f ↦ absurd (both_ways (blossom_at s i).used f u)
        | inr f ↦ elim (and_cases (eqb (root_label s ls (200 + i)) 2) (eqb (blossom_at s i).price 0) f) [
          | inl g ↦ absurd (eqb-false (root_label s ls (200 + i)) 2 g l)
          | inr g ↦ let positive = eqb-false (blossom_at s i).price 0 g in omega (arith, positive)
        ]
      ]
