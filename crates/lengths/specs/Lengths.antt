-- Member lengths, stock lengths and a saw cut as a source: its offers. Assumes nothing.
use Rattle.std.specs.Prelude.{ℕ, List, map, length, slice_index}
use Rattle.matching.specs.declared.row.Row.{Row}
use Rattle.matching.specs.Rows.{row_with}
use Rattle.stock.specs.Stock.{saving_of}
use Rattle.numbering.specs.Numbering.{twos}

-- shown and ground are the saving of the two members' lengths
abbrev pub length_row : List ℕ → List ℕ → ℕ → ℕ × ℕ → Row
length_row ls ss c p = row_with p.0 p.1 (saving_of ss c (slice_index ls p.0) (slice_index ls p.1)) (saving_of ss c (slice_index ls p.0) (slice_index ls p.1))

abbrev pub length_rows : List ℕ → List ℕ → ℕ → List Row
length_rows ls ss c = map (length_row ls ss c) (twos (length ls))
