-- The first number that passes a test. Assumes nothing.
use Rattle.std.specs.Prelude.{ℕ, zero, suc, ◌+◌, Bool, cond, is_some, Some, None, Option}

-- the first of i, i + 1, .., so many of them
abbrev pub first_from : (ℕ → Bool) → ℕ → ℕ → Option ℕ
first_from p i zero = None
first_from p i (suc more) = cond (p i) (Some i) (first_from p (i + 1) more)

abbrev pub first_below : (ℕ → Bool) → ℕ → Option ℕ
first_below p n = first_from p 0 n

-- whether some number below n passes
abbrev pub some_below : (ℕ → Bool) → ℕ → Bool
some_below p n = is_some (first_below p n)
