-- The lines of a text, each with its line feed; the last perhaps without. Assumes nothing.
use Rattle.std.specs.Prelude.{ℕ, ◌+◌, cond, List, [], ◌∷◌, ◌==◌}

-- one byte more at the front of the first line
abbrev pub grow : ℕ → List (List ℕ) → List (List ℕ)
grow b [] = (b ∷ []) ∷ []
grow b (l ∷ ls) = (b ∷ l) ∷ ls

abbrev pub lines : List ℕ → List (List ℕ)
lines [] = []
lines (b ∷ bs) = cond (b == 10) ((10 ∷ []) ∷ lines bs) (grow b (lines bs))

-- how long the first line is
abbrev pub first_length : List ℕ → ℕ
first_length [] = 0
first_length (b ∷ bs) = cond (b == 10) 1 (first_length bs + 1)
