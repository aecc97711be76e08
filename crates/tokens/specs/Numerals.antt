-- The text of a number. Assumes nothing.
use Rattle.std.specs.Prelude.{ℕ, ◌+◌, cond, List, [], ◌∷◌, map, ◌==◌}
use Rattle.std.specs.Int.Digits.{digits_of}

-- a number in decimal digits, with no needless zero
abbrev pub numeral_of : ℕ → List ℕ
numeral_of n = cond (n == 0) (48 ∷ []) (map (λ d. 48 + d) (digits_of 10 n))
