-- A search through finitely many numbers: either one is found, or there is none. Assumes nothing.
use Rattle.std.proofs.Common.{ℕ, zero, suc, ◌<◌, ◌⊎◌, subst, inl, inr, arith}
use Rattle.std.proofs.lemmas.Bool.{cases_eq}

pub search_below : (P : ℕ → Type 0) → ((i : ℕ) → P i ⊎ (P i → ⊥)) → (n : ℕ) → ((i : ℕ) × (i < n) × P i) ⊎ ((i : ℕ) → i < n → P i → ⊥)
search_below P dec zero = inr (λ i l h. omega arith)
search_below P dec (suc n) = elim (dec n) [
  | inl h ↦ inl (n, omega arith, h)
  | inr not-n ↦ elim (search_below P dec n) [
    | inl f ↦ inl (f.0, omega (arith, f.1), f.2)
    | inr none ↦ inr (λ i l h. elim (cases_eq i n) [ inl e ↦ not-n (subst P e h) | inr d ↦ none i (omega arith) h ])
  ]
]
