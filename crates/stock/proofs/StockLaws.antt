-- No saving passes the largest stock length. All that the laws of the source take from the rule of a saving. Assumes nothing.
use Rattle.std.proofs.Common.{◌≡◌, ℕ, ◌+◌, ◌≤◌, Bool, true, false, cond, leb, ◌⊎◌, List, [], ◌∷◌, Some, None, Option, refl, inl, inr, ⊎_elim, arith}
use Rattle.std.proofs.lemmas.Bool.{leb-true, leb-false}
use Rattle.stock.specs.Stock.{stock_of, largest_stock, saved, saving_of}

-- a stock length is the first, or that of the rest
which : (b : Bool) (s t : ℕ) (o : Option ℕ) → cond b (Some s) o ≡ Some t → ((b ≡ true) × (s ≡ t)) ⊎ ((b ≡ false) × (o ≡ Some t))
which true s t o e = inl (refl, cc)
which false s t o e = inr (refl, e)

not_below : (ss : List ℕ) (l t : ℕ) → stock_of ss l ≡ Some t → l ≤ t
not_below [] l t e = let z : ◌≡◌ {A = ℕ} 0 1 = cc in omega arith
not_below (s ∷ ss) l t e = ⊎_elim (λ h. omega (arith, leb-true l s h.0, h.1)) (λ h. not_below ss l t h.1) (which (leb l s) s t (stock_of ss l) e)

within : (ss : List ℕ) (l t : ℕ) → stock_of ss l ≡ Some t → t ≤ largest_stock ss
within [] l t e = let z : ◌≡◌ {A = ℕ} 0 1 = cc in omega arith
within (s ∷ ss) l t e = ⊎_elim (λ h. omega (arith, h.1)) (λ h. omega (arith, within ss l t h.1)) (which (leb l s) s t (stock_of ss l) e)

-- a longer piece has no smaller stock length
pub grows : (ss : List ℕ) (l m p r : ℕ) → stock_of ss l ≡ Some p → stock_of ss m ≡ Some r → l ≤ m → p ≤ r
grows [] l m p r e f le = let z : ◌≡◌ {A = ℕ} 0 1 = cc in omega arith
grows (s ∷ ss) l m p r e f le =
    ⊎_elim
    (λ h. ⊎_elim (λ k. omega (arith, h.1, k.1)) (λ k. omega (arith, h.1, leb-false m s k.0, not_below ss m r k.1)) (which (leb m s) s r (stock_of ss m) f))
    (λ h. ⊎_elim (λ k. omega (arith, leb-false l s h.0, leb-true m s k.0)) (λ k. grows ss l m p r h.1 k.1 le) (which (leb m s) s r (stock_of ss m) f))
    (which (leb l s) s p (stock_of ss l) e)

saved_low : (ss : List ℕ) (a b m : ℕ) (p q r : Option ℕ) → b ≤ m → stock_of ss a ≡ p → stock_of ss b ≡ q → stock_of ss m ≡ r → saved p q r ≤ largest_stock ss
saved_low ss a b m None q r le e f g = omega arith
saved_low ss a b m (Some p) None r le e f g = omega arith
saved_low ss a b m (Some p) (Some q) None le e f g = omega arith
saved_low ss a b m (Some p) (Some q) (Some r) le e f g = omega (arith, within ss a p e, grows ss b m q r f g le)

pub saving_low : (ss : List ℕ) (c a b : ℕ) → saving_of ss c a b ≤ largest_stock ss
unfolding saving_of
saving_low ss c a b = saved_low ss a b (a + b + c) (stock_of ss a) (stock_of ss b) (stock_of ss (a + b + c)) (omega arith) refl refl refl
