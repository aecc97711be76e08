-- What a search that finds nothing, or something, says of the numbers searched. Assumes nothing.
use Rattle.std.proofs.Common.{◌≡◌, ℕ, zero, suc, ◌+◌, ◌<◌, ◌≤◌, Bool, true, false, cond, eqb, ◌⊎◌, List, [], ◌∷◌, length, get_or, is_some, Some, None, Ok, Err, Option, sym, refl, ap, ◌∙◌, inl, inr, arith}
use Rattle.std.specs.Option.{option_map}
use Rattle.std.proofs.lemmas.Bool.{both_ways, cases_Bool, cases_eq, cond-true, cond-false, eqb-true, eq-eqb, or_cases, or_left, or_right}
use Rattle.faults.specs.Checks.{judged}
use Rattle.steps.specs.Searches.{first_from, first_below, some_below}
use Rattle.steps.specs.Adjust.{among}
use Rattle.faults.proofs.Judged.{not_some}
pub use Rattle.faults.proofs.Judged.{or_else_none, unless_none, none_mapped}

module _ {X : Type 0} where
  pub some_none : {x : X} → ◌≡◌ {A = Option X} (Some x) None → ⊥
  some_none h = let z : ◌≡◌ {A = ℕ} 0 1 = cc in omega arith

  pub some_not_none : (o : Option X) → is_some o ≡ true → o ≡ None → ⊥
  some_not_none o h e = both_ways (is_some o) (ap is_some e) h

  cond_none : (b : Bool) (x : X) (o : Option X) → cond b (Some x) o ≡ None → (b ≡ false) × (o ≡ None)
  cond_none true x o h = absurd (some_none h)
  cond_none false x o h = (refl, h)

  cond_some : (b : Bool) (x y : X) (o : Option X) → cond b (Some x) o ≡ Some y → ((b ≡ true) × (x ≡ y)) ⊎ (o ≡ Some y)
  cond_some true x y o h = inl (refl, (let same : x ≡ y = cc in same))
  cond_some false x y o h = inr h

from_none : (p : ℕ → Bool) (i n : ℕ) → first_from p i n ≡ None → (v : ℕ) → i ≤ v → v < i + n → p v ≡ false
from_none p i zero h v a b = absurd (omega arith)
from_none p i (suc n) h v a b =
    let q = cond_none (p i) i (first_from p (i + 1) n) h in
    elim (cases_eq i v) [ inl e ↦ ap p (sym e) ∙ q.0 | inr d ↦ from_none p (i + 1) n q.1 v (omega arith) (omega arith) ]

from_some : (p : ℕ → Bool) (i n v : ℕ) → first_from p i n ≡ Some v → (v < i + n) × (p v ≡ true)
from_some p i zero v h = absurd (some_none (sym h))
from_some p i (suc n) v h = elim (cond_some (p i) i v (first_from p (i + 1) n) h) [
  | inl q ↦ (let e = q.1 in omega arith, ap p (sym q.1) ∙ q.0)
  | inr q ↦ let r = from_some p (i + 1) n v q in (let a = r.0 in omega arith, r.1)
]

-- nothing below n passes
pub below_none : (p : ℕ → Bool) (n : ℕ) → first_below p n ≡ None → (v : ℕ) → v < n → p v ≡ false
below_none p n h v lt = from_none p 0 n h v (omega arith) (omega arith)

-- what was found passes
pub below_some : (p : ℕ → Bool) (n v : ℕ) → first_below p n ≡ Some v → (v < n) × (p v ≡ true)
below_some p n v h = let r = from_some p 0 n v h in (let a = r.0 in omega arith, r.1)

pub some_below_false : (p : ℕ → Bool) (n : ℕ) → some_below p n ≡ false → (v : ℕ) → v < n → p v ≡ false
some_below_false p n h = below_none p n (not_some (first_below p n) h)

pub some_below_true : (p : ℕ → Bool) (n v : ℕ) → v < n → p v ≡ true → some_below p n ≡ true
some_below_true p n v lt h = elim (cases_Bool (some_below p n)) [ inl e ↦ e | inr e ↦ absurd (both_ways (p v) (some_below_false p n e v lt) h) ]

-- a search either finds nothing or finds a number that passes
pub cases_below : (p : ℕ → Bool) (n : ℕ) → (first_below p n ≡ None) ⊎ ((v : ℕ) × ((first_below p n ≡ Some v) × (v < n) × (p v ≡ true)))
cases_below p n = go (first_below p n) refl
  where
    go : (o : Option ℕ) → first_below p n ≡ o → (first_below p n ≡ None) ⊎ ((v : ℕ) × ((first_below p n ≡ Some v) × (v < n) × (p v ≡ true)))
    go None e = inl e
    go (Some v) e = let r = below_some p n v e in inr (v, (e, r.0, r.1))

-- where a number stands in a list
pub record Place (e : ℕ) (ds : List ℕ) : Type 0 where
  pub at : ℕ
  pub there : at < length ds
  pub is : get_or ds at 0 ≡ e

pub among_at : (ds : List ℕ) (j : ℕ) → j < length ds → among (get_or ds j 0) ds ≡ true
among_at [] j h = absurd (omega arith)
among_at (d ∷ ds) zero h = or_left (eqb d d) (among d ds) (eq-eqb d d refl)
among_at (d ∷ ds) (suc j) h = or_right (eqb d (get_or ds j 0)) (among (get_or ds j 0) ds) (among_at ds j (omega arith))

pub among_place : (e : ℕ) (ds : List ℕ) → among e ds ≡ true → Place e ds
among_place e [] h = absurd (both_ways true (sym h) refl)
among_place e (d ∷ ds) h = elim (or_cases (eqb d e) (among e ds) h) [
  | inl q ↦ record { at = 0; there = omega arith; is = eqb-true d e q }
  | inr q ↦ let r = among_place e ds q in record { at = suc r.at; there = let t = r.there in omega arith; is = r.is }
]

-- none of so many numbers from i passes
none_from : (p : ℕ → Bool) (i more : ℕ) → ((u : ℕ) → u < i + more → p u ≡ false) → first_from p i more ≡ None
none_from p i zero h = refl
none_from p i (suc more) h =
    cond-false (p i) (Some i) (first_from p (i + 1) more) (h i (omega arith))
    ∙ none_from p (i + 1) more (λ u l. h u (omega arith))

from_first : (p : ℕ → Bool) (i more v : ℕ) → i ≤ v → v < i + more → p v ≡ true → ((u : ℕ) → u < v → p u ≡ false) → first_from p i more ≡ Some v
from_first p i zero v a b here none = absurd (omega arith)
from_first p i (suc more) v a b here none = elim (cases_eq i v) [
  | inl e ↦ cond-true (p i) (Some i) (first_from p (i + 1) more) (ap p e ∙ here) ∙ ap Some e
  | inr d ↦ cond-false (p i) (Some i) (first_from p (i + 1) more) (none i (omega arith)) ∙ from_first p (i + 1) more v (omega arith) (omega arith) here none
]

-- what a search finds, told from the numbers searched
pub none_below : (p : ℕ → Bool) (n : ℕ) → ((u : ℕ) → u < n → p u ≡ false) → first_below p n ≡ None
none_below p n h = none_from p 0 n (λ u l. h u (omega arith))

pub found_below : (p : ℕ → Bool) (n v : ℕ) → v < n → p v ≡ true → ((u : ℕ) → u < v → p u ≡ false) → first_below p n ≡ Some v
found_below p n v l here none = from_first p 0 n v (omega arith) (omega arith) here none

-- what a check answers that looks for the first offender
module _ {E : Type 0} (F : ℕ → E) (p : ℕ → Bool) (n : ℕ) where
  pub judged_none : ((u : ℕ) → u < n → p u ≡ false) → Ok tt ≡ judged (option_map F (first_below p n))
  judged_none h = sym (ap (λ o. judged (option_map F o)) (none_below p n h))

  pub judged_found : (v : ℕ) → v < n → p v ≡ true → ((u : ℕ) → u < v → p u ≡ false) → Err (F v) ≡ judged (option_map F (first_below p n))
  judged_found v l here none = sym (ap (λ o. judged (option_map F o)) (found_below p n v l here none))
