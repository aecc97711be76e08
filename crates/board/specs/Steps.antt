-- What augment, shrink and dissolve answer, and what they leave in the tables. Assumes nothing.
use Rattle.std.specs.Prelude.{◌≡◌, ℕ, ◌-◌, ◌<◌, ◌≤◌, false, List, Some, None, Ok, Err, Option, Result, slice_set}
use Rattle.faults.specs.declared.layers.BoardFault.{BoardFault}
use Rattle.matching.specs.State.{State, blossom_at}
use Rattle.rings.specs.Shrink.{shrink_fault, shrunk}
use Rattle.tables.specs.declared.tables.Blossom.{Blossom}
use Rattle.tables.specs.declared.tables.Tables.{Tables}

-- the state t after a step on the state s: one that the step leaves, or s itself where a fault stands against the step
abbrev pub Leaves : Option BoardFault → (State → Type 0) → State → State → Type 0
Leaves None Step s t = Step t
Leaves (Some f) Step s t = t ≡ s

-- the new blossom has a free number, from 200 to 299
pub record Shrunk (s : State) (r : ℕ) (es : List ℕ) (number : ℕ) (t : State) : Type 0 where
  pub none : shrink_fault s r es ≡ None
  pub least : 200 ≤ number
  pub most : number < 300
  pub free : (blossom_at s (number - 200)).used ≡ false
  pub after : t ≡ shrunk s r es (number - 200)

-- what shrink answers and leaves
abbrev pub ShrinkLeaves : State → ℕ → List ℕ → Result ℕ BoardFault → State → Type 0
ShrinkLeaves s r es (Ok number) t = Shrunk s r es number t
ShrinkLeaves s r es (Err f) t = (shrink_fault s r es ≡ Some f) × (t ≡ s)

-- the tables with other mates
abbrev pub mated_anew : Tables → List (Option ℕ) → Tables
mated_anew t m = record {
  members = t.members;
  offers = t.offers;
  top = t.top;
  begun = t.begun;
  floor = t.floor;
  rows = t.rows;
  prices = t.prices;
  mates = m;
  roots = t.roots;
  blossoms = t.blossoms;
}

-- the tables with other roots, and the blossom b or none at place i
abbrev pub ringed_anew : Tables → List ℕ → ℕ → Option Blossom → Tables
ringed_anew t roots i b = record {
  members = t.members;
  offers = t.offers;
  top = t.top;
  begun = t.begun;
  floor = t.floor;
  rows = t.rows;
  prices = t.prices;
  mates = t.mates;
  roots = roots;
  blossoms = slice_set t.blossoms i b;
}
