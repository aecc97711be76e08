-- The tables of a board, read as a state. Assumes nothing.
use Rattle.std.specs.Prelude.{ℕ, true, List, [], map, take, Some, None, Option, slice_index_or}
use Rattle.matching.specs.declared.row.Row.{Row}
use Rattle.matching.specs.State as model
use Rattle.tables.specs.declared.tables.Link.{Link}
use Rattle.tables.specs.declared.tables.Blossom.{Blossom}
use Rattle.tables.specs.declared.tables.Tables.{Tables}

-- the offers in the tables
abbrev pub offered : Tables → List Row
offered t = take t.offers t.rows

-- the parts of links, and the offers that join each to the next
abbrev pub parts_in : List Link → List ℕ
parts_in ls = map (λ (l : Link). l.part) ls

abbrev pub joins_in : List Link → List ℕ
joins_in ls = map (λ (l : Link). l.join) ls

-- a blossom's ring is the first of its links
abbrev pub ring_in : Option Blossom → List Link
ring_in None = []
ring_in (Some b) = take b.len b.links

-- a place without a blossom is free
abbrev pub blossom_of : Option Blossom → model.Blossom
blossom_of None = model.no_blossom
blossom_of (Some b) = record { used = true; price = b.price; parts = parts_in (take b.len b.links); joins = joins_in (take b.len b.links); holds = b.holds }

abbrev pub state : Tables → model.State
state t = record {
  members = t.members;
  rows = offered t;
  top = t.top;
  begun = t.begun;
  floor = t.floor;
  prices = t.prices;
  mates = t.mates;
  roots = t.roots;
  blossoms = map blossom_of t.blossoms;
}

-- the blossom at place i of the tables, if there is one
abbrev pub place : Tables → ℕ → Option Blossom
place t i = slice_index_or t.blossoms i None
