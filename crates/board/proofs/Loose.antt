-- The members that are loose, counted. Assumes nothing.
use Rattle.std.proofs.Common.{◌≡◌, ℕ, zero, suc, ◌+◌, ◌%◌, ◌^◌, ◌<◌, ◌≤◌, Bool, true, false, cond, List, [], ◌∷◌, length, get_or, take, is_none, count_by, None, Option, sym, refl, ap, ◌∙◌, add-one, arith}
use Rattle.std.specs.List.{fold}
use Rattle.std.proofs.Math.Nat.{mod-eq_of_lt}
use Rattle.std.proofs.lemmas.List.Sums.{sum_by-cons, count_by_more_no, count_by_more_yes}
use Rattle.matching.specs.Mates.{mate, loose}
use Rattle.matching.specs.Mates.{is_none as without}
use Rattle.matching.proofs.Sums.{total_below_none, total_below_more}
use Rattle.augments.proofs.Loosing.{same_test}

-- a count with one member more
abbrev pub one_more : ℕ → Option ℕ → ℕ
one_more n m = (n + cond (is_none m) 1 0) % 2 ^ 64

one_or_none : (b : Bool) → cond b 1 0 ≤ 1
one_or_none true = omega arith
one_or_none false = omega arith

pub folded : (ms : List (Option ℕ)) (n : ℕ) → n + length ms < 2 ^ 64 → fold one_more n ms ≡ n + count_by is_none ms
folded [] n l = omega arith
folded (m ∷ ms) n l =
    let low = one_or_none (is_none m) in
    let more : one_more n m ≡ n + cond (is_none m) 1 0 = mod-eq_of_lt (omega (arith, low)) in
    ap (λ k. fold one_more k ms) more
    ∙ folded ms (n + cond (is_none m) 1 0) (omega (arith, low))
    ∙ omega (arith, sum_by-cons (λ (x : Option ℕ). cond (is_none x) 1 0) m ms)

module _ (ms : List (Option ℕ)) where
  abbrev free : ℕ → ℕ
  free v = cond (without (mate ms v)) 1 0

  loose_more : (v : ℕ) → loose (v + 1) ms ≡ loose v ms + free v
  loose_more v = ap (λ n. loose n ms) (add-one v) ∙ total_below_more free v

  -- the first n members, counted along the list of mates
  pub loose_counted : (n : ℕ) → n ≤ length ms → count_by is_none (take n ms) ≡ loose n ms
  loose_counted zero l = sym (total_below_none free)
  loose_counted (suc n) l = by (loose_counted n (omega arith)) (is_none (get_or ms n None)) refl
    where
      by : count_by is_none (take n ms) ≡ loose n ms → (b : Bool) → is_none (get_or ms n None) ≡ b → count_by is_none (take (suc n) ms) ≡ loose (suc n) ms
      by before true h =
          let one : free n ≡ 1 = ap {B = ℕ} (λ b. cond b 1 0) (sym (same_test (mate ms n)) ∙ h) in
          let more = ap (λ k. count_by is_none (take k ms)) (add-one n) in
          omega (arith, before, one, loose_more n, count_by_more_yes is_none ms n None (omega arith) h, more, ap (λ k. loose k ms) (add-one n))
      by before false h =
          let none : free n ≡ 0 = ap {B = ℕ} (λ b. cond b 1 0) (sym (same_test (mate ms n)) ∙ h) in
          let more = ap (λ k. count_by is_none (take k ms)) (add-one n) in
          omega (arith, before, none, loose_more n, count_by_more_no is_none ms n None (omega arith) h, more, ap (λ k. loose k ms) (add-one n))
