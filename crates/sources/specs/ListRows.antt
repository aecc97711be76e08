-- A list of offers as a source: what it shows and how it carries. Assumes nothing.
use Rattle.std.specs.Prelude.{ℕ, ◌*◌, ◌/◌, min, max, List, [], ◌∷◌, map}
use Rattle.matching.specs.declared.row.Row.{Row}
use Rattle.matching.specs.Rows.{row_with}
use Rattle.sources.specs.declared.offer.Offer.{Offer}

-- shown and ground are the saving
abbrev pub list_row : Offer → Row
list_row o = row_with o.first o.second o.saving o.saving

abbrev pub list_rows : List Offer → List Row
list_rows os = map list_row os

-- the largest saving, or 0
abbrev pub largest_saving : List Offer → ℕ
largest_saving [] = 0
largest_saving (o ∷ os) = max o.saving (largest_saving os)

-- nothing is lost on the way: at most s more, and no pairing of n members saves more than n/2 times the top
abbrev pub list_carry : ℕ → ℕ → ℕ → ℕ
list_carry n top s = min s (n / 2 * top)
