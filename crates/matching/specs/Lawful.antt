-- What every source of offers owes: its bounds and the law of carry. Assumes nothing.
use Rattle.std.specs.Prelude.{ℕ, ◌+◌, ◌≤◌, List, length}
use Rattle.matching.specs.declared.row.Row.{Row}
use Rattle.matching.specs.Rows.{AllSound}
use Rattle.matching.specs.Pairings.{Pairing, shown_of, ground_of}

-- if a pairing b shows at most s more than a pairing a, its ground saving is at most a's and carry s
abbrev pub Carries : List Row → (ℕ → ℕ) → Type 0
Carries rs carry = (a b : List ℕ) (s : ℕ) → Pairing rs a → Pairing rs b → shown_of rs b ≤ shown_of rs a + s → ground_of rs b ≤ ground_of rs a + carry s

-- a source of n members with the offers rs, no shown saving above top, and the rule carry
pub record Lawful (n : ℕ) (rs : List Row) (top : ℕ) (carry : ℕ → ℕ) : Type 0 where
  pub few : n ≤ 200
  pub short : length rs ≤ 4000
  pub low : top ≤ 100000
  pub sound : AllSound n top rs
  pub capped : (s : ℕ) → carry s ≤ 10000000
  pub carries : Carries rs carry
