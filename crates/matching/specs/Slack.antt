-- By how much any pairing can show more than the board's. Assumes nothing.
use Rattle.std.specs.Prelude.{ℕ, ◌+◌, ◌*◌, ◌/◌, min, Some, None, Option}

-- for a board of n members with this top; begun with k, at the floor and with so many loose members
abbrev pub reach : Option ℕ → ℕ → ℕ → ℕ → ℕ → ℕ
reach None n top floor free = n / 2 * top
reach (Some k) n top floor free = min (n / 2 * top) ((2 * (n / 2) + floor * free) / (2 * k))
