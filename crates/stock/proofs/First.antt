-- The first stock length not below a length, as a search; in a rising list it is the smallest. Assumes nothing.
use Rattle.std.proofs.Common.{◌≡◌, ℕ, ◌<◌, ◌≤◌, cond, leb, List, [], ◌∷◌, Some, None, Option, refl, arith}
use Rattle.std.specs.List.{find}
use Rattle.std.proofs.ByRecursion.{All-weaker}
use Rattle.std.proofs.lemmas.Bool.{leb-true, leb-false, cond_both}
use Rattle.std.proofs.lemmas.List.Recursion.{same_from_clauses}
use Rattle.stock.specs.Stock.{Rising, stock_of, Smallest}

pub searched : (l : ℕ) (ss : List ℕ) → find (leb l) ss ≡ stock_of ss l
searched l = same_from_clauses (find (leb l)) (λ ss. stock_of ss l) (λ s o. cond (leb l s) (Some s) o) refl (λ _ _. refl) (λ _ _. refl)

past_low : (s : ℕ) (ss : List ℕ) (l : ℕ) (o : Option ℕ) → s < l → Smallest ss l o → Smallest (s ∷ ss) l o
past_low s ss l None h r = (h, r)
past_low s ss l (Some t) h r = (r.0, (λ k. absurd (omega arith), r.1))

pub first_smallest : (ss : List ℕ) (l : ℕ) → Rising ss → Smallest ss l (stock_of ss l)
first_smallest [] l r = tt
first_smallest (s ∷ ss) l r =
    cond_both (leb l s) (Some s) (stock_of ss l) (Smallest (s ∷ ss) l)
    (λ t. (leb-true l s t, ((λ _. omega arith), All-weaker (λ t. s < t) (λ t. l ≤ t → s ≤ t) (λ t h _. omega arith) ss r.0)))
    (λ f. past_low s ss l (stock_of ss l) (leb-false l s f) (first_smallest ss l r.1))
