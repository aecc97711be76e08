-- Begin: when it is refused, and what it leaves. Assumes nothing.
use Rattle.std.specs.Prelude.{ℕ, ◌*◌, not, ◌&&◌, replicate, is_some, Some, Option, nat_le}
use Rattle.faults.specs.declared.layers.BoardFault.{BoardFault}
use Rattle.faults.specs.declared.layers.BoardFault.TheVariants.{AlreadyBegun, BadK, HighTop}
use Rattle.faults.specs.Checks.{or_else, unless}
use Rattle.tables.specs.declared.tables.Tables.{Tables}

-- what stands against beginning with k, by rising number of the fault
abbrev pub begin_fault : Tables → ℕ → Option BoardFault
begin_fault t k =
    or_else (unless (not (is_some t.begun)) AlreadyBegun)
    (or_else (unless (nat_le 1 k && nat_le k 32) (BadK k))
    (unless (nat_le t.top 1000) (HighTop t.top)))

-- the floor and every price start at 2k × top ticks
abbrev pub begun_with : Tables → ℕ → Tables
begun_with t k = record {
  members = t.members;
  offers = t.offers;
  top = t.top;
  begun = Some k;
  floor = 2 * k * t.top;
  rows = t.rows;
  prices = replicate 200 (2 * k * t.top);
  mates = t.mates;
  roots = t.roots;
  blossoms = t.blossoms;
}
