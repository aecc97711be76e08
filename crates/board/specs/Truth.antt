-- The slack's truth. Assumes nothing.
use Rattle.std.specs.Prelude.{◌≡◌, ℕ, ◌+◌, ◌≤◌, List}
use Rattle.matching.specs.declared.row.Row.{Row}
use Rattle.matching.specs.Pairings.{Pairing, ground_of}
use Rattle.tables.specs.declared.tables.Tables.{Tables}
use Rattle.tables.specs.States.{offered}

-- the tables hold a source's members, offers and top
pub record Shows (n : ℕ) (rs : List Row) (top : ℕ) (t : Tables) : Type 0 where
  pub members : t.members ≡ n
  pub offers : offered t ≡ rs
  pub highest : t.top ≡ top

-- what the tables held before they hold after
abbrev pub StillShows : Tables → Tables → Type 0
StillShows t t' = (n : ℕ) (rs : List Row) (top : ℕ) → Shows n rs top t → Shows n rs top t'

-- no pairing of the offers saves more ground millimetres than one that saves `saved`, and the slack
abbrev pub Bounds : List Row → ℕ → ℕ → Type 0
Bounds rs saved slack = (b : List ℕ) → Pairing rs b → ground_of rs b ≤ saved + slack
