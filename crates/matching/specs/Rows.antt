-- The offers of a source, as a list of rows. Assumes nothing.
use Rattle.std.specs.Prelude.{ℕ, ◌<◌, ◌≤◌, ◌≢◌, List, length, slice_index_or}
use Rattle.matching.specs.declared.row.Row.{Row}

-- an offer by its two members and its two savings
abbrev pub row_with : (first second shown ground : ℕ) → Row
row_with first second shown ground = record { first = first; second = second; shown = shown; ground = ground }

-- what an offer past the last one shows
abbrev pub no_row : Row
no_row = row_with 0 0 0 0

-- the offer numbered e
abbrev pub row : List Row → ℕ → Row
row rs e = slice_index_or rs e no_row

-- two different members below n, no shown saving above top, no ground saving above 100,000
pub record Sound (n top : ℕ) (r : Row) : Type 0 where
  pub differ : r.first ≢ r.second
  pub first_in : r.first < n
  pub second_in : r.second < n
  pub shown_low : r.shown ≤ top
  pub ground_low : r.ground ≤ 100000

abbrev pub AllSound : ℕ → ℕ → List Row → Type 0
AllSound n top rs = (e : ℕ) → e < length rs → Sound n top (row rs e)
