-- A board as it is made: the source's offers, nothing paired, each member its own root, not begun. Assumes nothing.
use Rattle.std.specs.Prelude.{ℕ, ◌-◌, List, ◌++◌, length, replicate, None}
use Rattle.matching.specs.declared.row.Row.{Row}
use Rattle.matching.specs.Rows.{no_row}
use Rattle.matching.specs.Sums.{below}
use Rattle.tables.specs.declared.tables.Tables.{Tables}

-- the offers in a table of 4,000 places
abbrev pub padded : List Row → List Row
padded rs = rs ++ replicate (4000 - length rs) no_row

-- the tables of a new board over a source of n members with these offers and this top
abbrev pub fresh : ℕ → List Row → ℕ → Tables
fresh n rs top = record {
  members = n;
  offers = length rs;
  top = top;
  begun = None;
  floor = 0;
  rows = padded rs;
  prices = replicate 200 0;
  mates = replicate 200 None;
  roots = below 200;
  blossoms = replicate 100 None;
}
