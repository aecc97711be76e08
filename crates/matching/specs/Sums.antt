-- Sums over a list, and the numbers below n. Assumes nothing.
use Rattle.std.specs.Prelude.{ℕ, Bool, cond, List, sum_by}
use Rattle.std.specs.List.{range_with_len}

-- the sum of f over the list
unfoldable pub total : {X : Type 0} → (X → ℕ) → List X → ℕ
total f xs = sum_by f xs

-- how many of the list pass
abbrev pub count : {X : Type 0} → (X → Bool) → List X → ℕ
count p xs = total (λ x. cond (p x) 1 0) xs

-- 0, 1, .., n - 1
unfoldable pub below : ℕ → List ℕ
below n = range_with_len 0 n
