-- The first offender of a search, and how an adjust moves the prices and the offers of the tables. Assumes nothing.
use Rattle.std.proofs.Common.{◌≡◌, ℕ, ◌+◌, ◌-◌, ◌*◌, ◌<◌, ◌≤◌, Bool, true, false, cond, not, ◌&&◌, ◌||◌, eqb, ltb, leb, ◌≢◌, List, length, get_or, Some, None, Ok, Err, Option, sym, ap, ◌∙◌, subst, inl, inr, arith}
use mathlib.Core.Bool.{Bool-set}
use mathlib.Core.Logic.{∥∥₁_elim}
use Rattle.std.proofs.Math.Bool.{or-false}
use Rattle.std.proofs.lemmas.Bool.{and_from, and_parts, cases_Bool, cond_both, le-leb, ltb-true, not_from_true, not_from_false, or_cases, or_left, or_right}
use Rattle.faults.specs.Checks.{judged}
use Rattle.faults.specs.declared.layers.BoardFault.TheVariants.{InAtZero}
use Rattle.matching.specs.declared.row.Row.{Row}
use Rattle.matching.specs.Mates.{paired}
use Rattle.matching.specs.Rows.{row}
use Rattle.matching.specs.State.{State, Blossom, or_zero, first_of, second_of, weight, price_at, root_at, blossom_at, InUse, inside, node_holds, yz, paired_in}
use Rattle.matching.specs.Kept.{Kept, Ring, Between, part_at, part_after}
use Rattle.matching.proofs.Nesting.{part_inside, one_root}
use Rattle.steps.specs.Searches.{first_below}
use Rattle.steps.specs.Adjust.{label_at, label_fault, zero_fault, root_label, moved, adjusted, among, joins_parts, in_bounds}
use Rattle.steps.proofs.Searches.{among_place, cases_below, some_not_none, judged_none, judged_found}
use Rattle.steps.proofs.Offers.{inner_offers_stay, outer_offers_move}
use Rattle.steps.proofs.Labels.{by_label, adjusted_alike}
use Rattle.tables.specs.declared.tables.Blossom as tables
use Rattle.tables.specs.declared.tables.Tables.{Tables}
use Rattle.tables.specs.States.{offered, blossom_of, state}
use Rattle.adjusts.specs.Labels.{RootLabels}
use Rattle.tables.specs.Kept.{Held, Keeps}
use Rattle.tables.proofs.Keeping.{row_offered, blossom_there}

-- a ring offer: its blossom and its place there
record Joining (s : State) (e : ℕ) : Type 0 where
  place : ℕ
  at : ℕ
  used : InUse s place
  there : at < length (blossom_at s place).joins
  is : get_or (blossom_at s place).joins at 0 ≡ e

module _ (s : State) (ls : List ℕ) (e : ℕ) (kept : Kept s) (known : e < length s.rows) where
  -- an adjust moves no ring
  joining : joins_parts (adjusted s ls) e ≡ true → Joining s e
  joining h = elim (cases_below test 100) [
    | inl none ↦ absurd (some_not_none (first_below test 100) h none)
    | inr found ↦
        let i = found.0 in
        let like = adjusted_alike s ls kept.sized.blossoms i in
        let both = and_parts (blossom_at (adjusted s ls) i).used (among e (blossom_at (adjusted s ls) i).joins) found.1.2 in
        let place = among_place e (blossom_at s i).joins (sym (ap (λ (b : Blossom). among e b.joins) like) ∙ both.1) in
        record { place = i; at = place.at; used = sym (ap (λ (b : Blossom). b.used) like) ∙ both.0; there = place.there; is = place.is }
  ]
    where
      test : ℕ → Bool
      test i = (blossom_at (adjusted s ls) i).used && among e (blossom_at (adjusted s ls) i).joins

  -- a ring offer lies inside one root
  joined_root : Joining s e → root_at s (first_of s e) ≡ root_at s (second_of s e)
  joined_root m = elim (subst (λ d. Between s d (part_at b m.at) (part_after b m.at)) m.is (ring.joined m.at m.there)) [
    | inl h ↦ one_root s m.place (first_of s e) (second_of s e) kept (here (first_of s e) first h.0) (after (second_of s e) second h.1)
    | inr h ↦ one_root s m.place (first_of s e) (second_of s e) kept (after (first_of s e) first h.1) (here (second_of s e) second h.0)
  ]
    where
      b : Blossom
      b = blossom_at s m.place

      ring : Ring s b
      ring = kept.nested.rings m.place m.used

      first : first_of s e < s.members
      first = (kept.rows e known).first_in

      second : second_of s e < s.members
      second = (kept.rows e known).second_in

      here : (v : ℕ) → v < s.members → node_holds s (part_at b m.at) v ≡ true → inside b v ≡ true
      here v l h = part_inside s kept.nested.rings m.place m.at v m.used (omega (arith, ring.joins, m.there)) l h

      next : cond (ltb (m.at + 1) (length b.parts)) (m.at + 1) 0 < length b.parts
      next = cond_both (ltb (m.at + 1) (length b.parts)) (m.at + 1) 0 (λ j. j < length b.parts) (λ h. ltb-true (m.at + 1) (length b.parts) h) (λ h. omega (arith, ring.three))

      after : (v : ℕ) → v < s.members → node_holds s (part_after b m.at) v ≡ true → inside b v ≡ true
      after v l h = part_inside s kept.nested.rings m.place (cond (ltb (m.at + 1) (length b.parts)) (m.at + 1) 0) v m.used next l h

  -- an offer between two roots lies in its bounds or not by the prices of its members
  pub outer_bounds : root_at s (first_of s e) ≢ root_at s (second_of s e) → (y : ℕ) →
      y ≡ moved (label_at ls (first_of s e)) (price_at s (first_of s e)) + moved (label_at ls (second_of s e)) (price_at s (second_of s e)) →
      in_bounds (adjusted s ls) e ≡ (leb (weight s e) (y + 2) && (not (paired_in s e) || leb y (weight s e)))
  outer_bounds d y is =
      ap (λ z. leb (weight s e) (z + 2) && (not (paired_in s e || joins_parts (adjusted s ls) e) || leb z (weight s e))) ((outer_offers_move s ls e kept known d).sum ∙ sym is)
      ∙ ap (λ b. leb (weight s e) (y + 2) && (not b || leb y (weight s e))) unjoined
    where
      unjoined : (paired_in s e || joins_parts (adjusted s ls) e) ≡ paired_in s e
      unjoined = elim (cases_Bool (joins_parts (adjusted s ls) e)) [
        | inl h ↦ absurd (d (joined_root (joining h)))
        | inr h ↦ ap (λ b. paired_in s e || b) h ∙ or-false (paired_in s e)
      ]

  -- and one inside a root stays in them
  pub inner_bounds : label_fault s ls ≡ None → 1 ≤ s.floor → zero_fault s ls ≡ None → root_at s (first_of s e) ≡ root_at s (second_of s e) → in_bounds (adjusted s ls) e ≡ true
  inner_bounds labels floor zeros one =
      and_from (leb (weight s e) (yz (adjusted s ls) e + 2)) (not tight || leb (yz (adjusted s ls) e) (weight s e))
      (le-leb (weight s e) (yz (adjusted s ls) e + 2) (omega (arith, stays, kept.fair.all e known)))
      (elim (cases_Bool tight) [
        | inl h ↦ or_right (not tight) (leb (yz (adjusted s ls) e) (weight s e)) (le-leb (yz (adjusted s ls) e) (weight s e) (omega (arith, stays, low h)))
        | inr h ↦ or_left (not tight) (leb (yz (adjusted s ls) e) (weight s e)) (not_from_false tight h)
      ])
    where
      tight : Bool
      tight = paired_in s e || joins_parts (adjusted s ls) e

      stays : yz (adjusted s ls) e ≡ yz s e
      stays = inner_offers_stay s ls e kept labels floor zeros known one

      low : (paired_in s e || joins_parts (adjusted s ls) e) ≡ true → yz s e ≤ weight s e
      low h = elim (or_cases (paired_in s e) (joins_parts (adjusted s ls) e) h) [
        | inl p ↦ kept.fair.paired e known p
        | inr p ↦ let m = joining p in subst (λ d. yz s d ≤ weight s d) m.is (kept.fair.ring m.place m.at m.used m.there)
      ]

-- a label moves a price by a tick at most
pub moved_low : (l y m : ℕ) → y ≤ m → moved l y ≤ m + 1
moved_low l y m h = by_label l (y - 1) (y + 1) y (λ z. z ≤ m + 1) (λ e. omega arith) (λ e. omega arith) (omega arith)

-- whether the place i has an in root blossom of price 0, by the labels of the roots
abbrev pub in_zero : List (Option tables.Blossom) → List ℕ → ℕ → Bool
in_zero bs rl i = (blossom_of (get_or bs i None)).used && (eqb (get_or rl (200 + i) 0) 2 && eqb (blossom_of (get_or bs i None)).price 0)

module _ (t : Tables) (rl ls : List ℕ) (labels : RootLabels (state t) ls rl) where
  -- the test by the labels of the members
  abbrev at_zero : ℕ → Bool
  at_zero i = (blossom_at (state t) i).used && (eqb (root_label (state t) ls (200 + i)) 2 && eqb (blossom_at (state t) i).price 0)

  zero_told : (i : ℕ) → i < 100 → at_zero i ≡ in_zero t.blossoms rl i
  zero_told i l =
      ap (λ (b : Blossom). b.used && (eqb (root_label (state t) ls (200 + i)) 2 && eqb b.price 0)) (blossom_there t i)
      ∙ ap (λ x. (blossom_of (get_or t.blossoms i None)).used && (eqb x 2 && eqb (blossom_of (get_or t.blossoms i None)).price 0)) (sym (labels (200 + i) (omega arith)))

  pub zero_free : ((u : ℕ) → u < 100 → in_zero t.blossoms rl u ≡ false) → Ok tt ≡ judged (zero_fault (state t) ls)
  zero_free h = judged_none (λ i. InAtZero (200 + i)) at_zero 100 (λ u l. zero_told u l ∙ h u l)

  pub zero_found : (i : ℕ) → i < 100 → in_zero t.blossoms rl i ≡ true → ((u : ℕ) → u < i → in_zero t.blossoms rl u ≡ false) → Err (InAtZero (200 + i)) ≡ judged (zero_fault (state t) ls)
  zero_found i l here none = judged_found (λ i. InAtZero (200 + i)) at_zero 100 i l (zero_told i l ∙ here) (λ u lu. zero_told u (omega arith) ∙ none u lu)

module _ (t : Tables) (keeps : Keeps t) (ls : List ℕ) (e : ℕ) (l : e < t.offers) where
  known : (h : Held t) → e < length (offered t)
  known h = omega (arith, h.full)

  pub inner_stays : label_fault (state t) ls ≡ None → 1 ≤ t.floor → zero_fault (state t) ls ≡ None →
      get_or t.roots (row t.rows e).first 0 ≡ get_or t.roots (row t.rows e).second 0 → false ≡ not (in_bounds (adjusted (state t) ls) e)
  inner_stays labels floor zeros one =
      sym (not_from_true (in_bounds (adjusted (state t) ls) e)
      (∥∥₁_elim keeps (Bool-set _ _) (λ h. inner_bounds (state t) ls e h.kept (known h) labels floor zeros
      (subst (λ (r : Row). get_or t.roots r.first 0 ≡ get_or t.roots r.second 0) (sym (row_offered t e l)) one))))

  -- whether the offer stays in its bounds, by its row and by k
  abbrev Told : Row → Option ℕ → Type 0
  Told r o =
      (get_or t.roots r.first 0 ≢ get_or t.roots r.second 0) → (a b : ℕ) →
      a ≡ moved (label_at ls r.first) (get_or t.prices r.first 0) → b ≡ moved (label_at ls r.second) (get_or t.prices r.second 0) →
      in_bounds (adjusted (state t) ls) e ≡ (leb (2 * or_zero o * r.shown) (a + b + 2) && (not (paired (offered t) t.mates e) || leb (a + b) (2 * or_zero o * r.shown)))

  pub outer_told : (k : ℕ) → t.begun ≡ Some k → Told (row t.rows e) (Some k)
  outer_told k is = subst (Told (row t.rows e)) is (subst (λ (r : Row). Told r t.begun) (row_offered t e l) by)
    where
      by : Told (row (offered t) e) t.begun
      by d a b p q = ∥∥₁_elim keeps (Bool-set _ _) (λ h. outer_bounds (state t) ls e h.kept (known h) d (a + b) (omega (arith, p, q)))
