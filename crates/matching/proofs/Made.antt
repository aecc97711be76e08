-- A table made by calls of a function of its places. Assumes nothing.
use Rattle.std.proofs.Common.{◌≡◌, ℕ, zero, suc, ◌+◌, ◌<◌, ◌≤◌, List, map, get_or, sym, ap, ◌∙◌, subst, ⊎_elim, arith}
use Rattle.std.proofs.lemmas.List.FromFn.{fill_by_all}
use Rattle.std.proofs.lemmas.Bool.{cases_eq, cases_lt}
use Rattle.std.specs.Array.{IsFromFnResultFrom, IsFromFnResult}
use denote.Param.Members.{Mut, Called}
use Rattle.matching.specs.Sums.{below}

module _ {F B : Type 0} (g : Mut F (ℕ × Unit {0}) B) (p : F) (f : ℕ → B) (d : B)
    (calls : (v : ℕ) (y : B) (q : F) → Called g p (v, tt) y q → (y ≡ f v) × (q ≡ p)) where
  from_place : (ys : List B) (i n : ℕ) → IsFromFnResultFrom g p ys i n → (k : ℕ) → i ≤ k → k < i + n → get_or ys k d ≡ f k
  from_place ys i zero h k le lt = absurd (omega arith)
  from_place ys i (suc n) h k le lt =
      let one = calls i h.1 h.0 h.3 in
      ⊎_elim
      (λ (e : k ≡ i). ap (λ j. get_or ys j d) e ∙ h.2.1 d ∙ one.0 ∙ ap f (sym e))
      (λ (ne : k ≡ i → ⊥). from_place ys (i + 1) n (subst (λ q. IsFromFnResultFrom g q ys (i + 1) n) one.1 h.4) k
      (⊎_elim (λ (l : i < k). omega arith) (λ (l : k ≤ i). absurd (ne (omega arith))) (cases_lt i k)) (omega arith))
      (cases_eq k i)

-- by a function that changes nothing, where each call gives what f says of its place
pub made_by : {F B : Type 0} {g : Mut F (ℕ × Unit {0}) B} {p : F} {ys : List B} {n : ℕ} (f : ℕ → B) (d : B) → IsFromFnResult g p ys n →
    ((v : ℕ) (y : B) (q : F) → Called g p (v, tt) y q → (y ≡ f v) × (q ≡ p)) → ys ≡ map f (below n)
unfolding below
made_by {g = g} {p = p} {ys = ys} {n = n} f d h calls = fill_by_all f ys n d h.long (λ k l. from_place g p f d calls ys 0 n h.each k (omega arith) (omega arith))
