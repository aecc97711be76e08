-- A coarse layer of x over N: it shows x/N of what is shown below, rounded down. Assumes nothing.
use Rattle.std.specs.Prelude.{ℕ, ◌+◌, ◌-◌, ◌*◌, ◌/◌, min, List, map}
use Rattle.matching.specs.declared.row.Row.{Row}
use Rattle.matching.specs.Rows.{row_with}

-- x/N of a shown saving, rounded down
abbrev pub part_of : ℕ → ℕ → ℕ → ℕ
part_of x N v = x * v / N

-- an offer below, as the layer shows it: only the shown saving is another
abbrev pub coarse_row : ℕ → ℕ → Row → Row
coarse_row x N r = row_with r.first r.second (part_of x N r.shown) r.ground

abbrev pub coarse_rows : ℕ → ℕ → List Row → List Row
coarse_rows x N rs = map (coarse_row x N) rs

-- By how much a pairing can show more below, where it shows at most s more above. Rounding takes up to N - 1 parts of N
-- from each of the n/2 offers that a pairing has at most. No pairing shows more than n/2 times the top, above or below.
abbrev pub gap_below : ℕ → ℕ → ℕ → ℕ → ℕ → ℕ
gap_below x N n top s = min (n / 2 * top) ((N * min s (n / 2 * part_of x N top) + (N - 1) * (n / 2)) / x)

-- the layer's carry: that of the source below, at the gap below
abbrev pub coarse_carry : ℕ → ℕ → ℕ → ℕ → (ℕ → ℕ) → ℕ → ℕ
coarse_carry x N n top carry s = carry (gap_below x N n top s)
