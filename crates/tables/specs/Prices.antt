-- The tables with other prices. Assumes nothing.
use Rattle.std.specs.Prelude.{ℕ, List, Option, slice_set}
use Rattle.std.specs.Option.{option_map}
use Rattle.tables.specs.declared.tables.Blossom.{Blossom}
use Rattle.tables.specs.declared.tables.Tables.{Tables}
use Rattle.tables.specs.States.{place}

-- a blossom at another price
abbrev pub at_price : ℕ → Blossom → Blossom
at_price z b = record { price = z; len = b.len; links = b.links; holds = b.holds }

-- the tables with other prices
abbrev pub with_prices : Tables → ℕ → List ℕ → List (Option Blossom) → Tables
with_prices t floor ps bs = record {
  members = t.members;
  offers = t.offers;
  top = t.top;
  begun = t.begun;
  floor = floor;
  rows = t.rows;
  prices = ps;
  mates = t.mates;
  roots = t.roots;
  blossoms = bs;
}

-- the blossom at place i, if there is one, at the price z
abbrev pub place_moved : Tables → ℕ → ℕ → Tables
place_moved t i z = with_prices t t.floor t.prices (slice_set t.blossoms i (option_map (at_price z) (place t i)))
