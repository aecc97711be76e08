-- What a carry says of the pairings of a source, however many layers it has. Assumes nothing.
use Rattle.std.specs.Prelude.{ℕ, ◌+◌, ◌≤◌, List}
use Rattle.matching.specs.declared.row.Row.{Row}
use Rattle.matching.specs.Pairings.{Pairing, shown_of, ground_of}

-- no pairing that shows at most so much more than another saves over `most` more in ground millimetres
abbrev pub NoMore : List Row → ℕ → ℕ → Type 0
NoMore rs more most = (a b : List ℕ) → Pairing rs a → Pairing rs b → shown_of rs b ≤ shown_of rs a + more → ground_of rs b ≤ ground_of rs a + most
