-- What a stack holds. Assumes nothing.
use Rattle.std.specs.Prelude.{ℕ, List, [], ◌∷◌, reverse, take, Some, None, Option}

-- the items in the first n slots, the last of them on top
abbrev pub items : {A : Type 0} → List A → ℕ → List A
items slots n = reverse (take n slots)

-- the one on top, if there is one
abbrev pub top : {A : Type 0} → List A → Option A
top [] = None
top (x ∷ xs) = Some x

-- what lies below the top
abbrev pub below : {A : Type 0} → List A → List A
below [] = []
below (x ∷ xs) = xs
