-- A pairing among n members has at most n / 2 offers. Assumes nothing.
use Rattle.std.proofs.Common.{◌≡◌, ℕ, zero, suc, ◌*◌, ◌/◌, ◌<◌, ◌≤◌, ◌≢◌, List, [], ◌∷◌, length, refl, ⊎_elim, mul-le-mul_right, arith}
use Rattle.std.specs.List.{AllByRecursion as All}
use Rattle.std.proofs.lemmas.Bool.{cases_eq}
use Rattle.std.proofs.lemmas.Nat.{le-div}
use Rattle.std.proofs.ByRecursion.{All-weaker}
use Rattle.matching.specs.declared.row.Row.{Row}
use Rattle.matching.specs.Rows.{row, AllSound}
use Rattle.matching.specs.Pairings.{ends, Different, Pairing, shown_of}
use Rattle.matching.proofs.Sums.{total_at_most}

-- a list with at most one element less, all below n
record Fewer (n : ℕ) (xs : List ℕ) : Type 0 where
  rest : List ℕ
  long : length xs ≤ suc (length rest)
  under : All (λ x. x < n) rest
  apart : Different rest
  absent : (y : ℕ) → All (λ x. y ≢ x) xs → All (λ x. y ≢ x) rest

lower : (n : ℕ) (xs : List ℕ) → All (λ x. x < suc n) xs → All (λ x. n ≢ x) xs → All (λ x. x < n) xs
lower n [] b a = tt
lower n (x ∷ xs) b a = let ne : n ≢ x = a.0 in (omega (arith, b.0), lower n xs b.1 a.1)

fewer : (n : ℕ) (xs : List ℕ) → All (λ x. x < suc n) xs → Different xs → Fewer n xs
fewer n [] b a = record { rest = []; long = omega arith; under = tt; apart = tt; absent = λ y h. h }
fewer n (x ∷ xs) b a =
    ⊎_elim
    (λ (e : n ≡ x). record {
      rest = xs;
      long = omega arith;
      under = lower n xs b.1 (rw e a.0);
      apart = a.1;
      absent = λ y h. h.1;
    })
    (λ (f : n ≡ x → ⊥). let r = fewer n xs b.1 a.1 in record {
      rest = x ∷ r.rest;
      long = omega (arith, r.long);
      under = (omega (arith, b.0), r.under);
      apart = (r.absent x a.0, r.apart);
      absent = λ y h. (h.0, r.absent y h.1);
    })
    (cases_eq n x)

-- there are at most n different numbers below n
pub at_most : (n : ℕ) (xs : List ℕ) → All (λ x. x < n) xs → Different xs → length xs ≤ n
at_most zero [] b a = omega arith
at_most zero (x ∷ xs) b a = omega arith
at_most (suc n) xs b a = let r = fewer n xs b a in omega (arith, r.long, at_most n r.rest r.under r.apart)

pub length_ends : (rs : List Row) (es : List ℕ) → length (ends rs es) ≡ length es * 2
length_ends rs [] = refl
length_ends rs (e ∷ es) = omega (arith, length_ends rs es)

module _ (n top : ℕ) (rs : List Row) (sound : AllSound n top rs) where
  pub ends_below : (es : List ℕ) → All (λ e. e < length rs) es → All (λ v. v < n) (ends rs es)
  ends_below [] b = tt
  ends_below (e ∷ es) b = let s = sound e b.0 in (s.first_in, (s.second_in, ends_below es b.1))

  pub pairs_few : (es : List ℕ) → Pairing rs es → length es ≤ n / 2
  pairs_few es p =
      let h = at_most n (ends rs es) (ends_below es p.offers) p.apart in
      le-div (length es) n 2 (omega arith) (omega (arith, h, length_ends rs es))

  pub shown_most : (es : List ℕ) → Pairing rs es → shown_of rs es ≤ n / 2 * top
  shown_most es p =
      let each = All-weaker (λ e. e < length rs) (λ e. (row rs e).shown ≤ top) (λ e l. (sound e l).shown_low) es p.offers in
      omega (arith, total_at_most (λ e. (row rs e).shown) top es each, mul-le-mul_right top (pairs_few es p))
