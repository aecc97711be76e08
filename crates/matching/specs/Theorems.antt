-- How far any pairing can pass the one that a state holds. Assumes nothing.
use Rattle.std.specs.Prelude.{◌≡◌, ℕ, ◌+◌, ◌-◌, ◌*◌, ◌/◌, ◌<◌, ◌≤◌, true, false, List, length, Some, None}
use Rattle.matching.specs.Pairings.{Pairing, shown_of, ground_of}
use Rattle.matching.specs.Lawful.{Carries}
use Rattle.matching.specs.Rows.{AllSound}
use Rattle.matching.specs.Mates.{mate}
use Rattle.matching.specs.Sums.{total, count}
use Rattle.matching.specs.State.{State, k_in, weight, price_at, root_at, blossom_at, InUse, inside, spans, pairing_in, loose_in, gap_in, slack_in}
use Rattle.matching.specs.Kept.{Kept, Sized, Begun, Ring, part_at, met, size}

-- W of a list of offers
abbrev pub weight_of : State → List ℕ → ℕ
weight_of s es = total (weight s) es

-- by how many ticks a pairing of so many offers can weigh more than the state's, of n members, at this floor and with so many loose members
abbrev pub lead : ℕ → ℕ → ℕ → ℕ → ℕ
lead n floor free offers = 2 * offers + floor * (free + 2 * offers - n)

abbrev pub WeakDuality : Type 0
WeakDuality = (s : State) (es : List ℕ) → Kept s → Pairing s.rows es →
    weight_of s es ≤ weight_of s (pairing_in s) + lead s.members s.floor (loose_in s) (length es)

-- before begin and after it
abbrev pub Gap : Type 0
Gap = (s : State) (es : List ℕ) → Kept s → Pairing s.rows es →
    shown_of s.rows es ≤ shown_of s.rows (pairing_in s) + gap_in s

-- over a source whose rule carry keeps its law
abbrev pub TrueSlack : Type 0
TrueSlack = (s : State) (carry : ℕ → ℕ) (es : List ℕ) → Kept s → Carries s.rows carry → Pairing s.rows es →
    ground_of s.rows es ≤ ground_of s.rows (pairing_in s) + slack_in carry s

-- at floor 0, or with no loose member
abbrev pub Ratio : Type 0
Ratio = (s : State) (es : List ℕ) → Kept s → s.floor * loose_in s ≡ 0 → Pairing s.rows es →
    (k_in s - 1) * shown_of s.rows es ≤ k_in s * shown_of s.rows (pairing_in s)

-- the state's own pairing is one, and its members and the loose ones are all members
abbrev pub OwnPairing : Type 0
OwnPairing = (s : State) → Kept s → Pairing s.rows (pairing_in s)

abbrev pub OwnSize : Type 0
OwnSize = (s : State) → Kept s → 2 * length (pairing_in s) + loose_in s ≡ s.members

-- a part holds fewer members than its blossom: it follows from the rings alone
abbrev pub PartsSmaller : Type 0
PartsSmaller = (s : State) (i j : ℕ) → AllSound s.members s.top s.rows → ((h : ℕ) → InUse s h → Ring s (blossom_at s h)) → InUse s i →
    j < length (blossom_at s i).parts → size s (part_at (blossom_at s i) j) < size s (200 + i)

-- all members of a blossom lie in one root
abbrev pub OneRoot : Type 0
OneRoot = (s : State) (i v w : ℕ) → Kept s → inside (blossom_at s i) v ≡ true → inside (blossom_at s i) w ≡ true → root_at s v ≡ root_at s w

-- one member of a blossom is not paired inside it, and every other one is
pub record Bare (s : State) (i : ℕ) : Type 0 where
  pub member : ℕ
  pub held : inside (blossom_at s i) member ≡ true
  pub unmet : met s (blossom_at s i) (mate s.mates member) ≡ false
  pub only : (v : ℕ) → inside (blossom_at s i) v ≡ true → met s (blossom_at s i) (mate s.mates v) ≡ false → v ≡ member

abbrev pub OneBare : Type 0
OneBare = (s : State) (i : ℕ) → Kept s → InUse s i → Bare s i

-- the state's pairing has as many offers inside a blossom as any pairing can have: half of its members, rounded down
abbrev pub OwnInside : Type 0
OwnInside = (s : State) (i : ℕ) → Kept s → InUse s i → count (spans s (blossom_at s i)) (pairing_in s) ≡ size s (200 + i) / 2

abbrev pub MostInside : Type 0
MostInside = (s : State) (i : ℕ) (es : List ℕ) → Kept s → Pairing s.rows es → count (spans s (blossom_at s i)) es ≤ size s (200 + i) / 2

-- a state in which nothing is paired, no blossom is in use, each member is its own root, and the floor and all prices are 2k × top: 0 before begin
pub record AtStart (s : State) : Type 0 where
  pub sized : Sized s
  pub rows : AllSound s.members s.top s.rows
  pub begun : (k : ℕ) → s.begun ≡ Some k → Begun s k
  pub floor : s.floor ≡ 2 * k_in s * s.top
  pub prices : (v : ℕ) → v < s.members → price_at s v ≡ s.floor
  pub mates : (v : ℕ) → v < s.members → mate s.mates v ≡ None
  pub roots : (v : ℕ) → v < s.members → root_at s v ≡ v
  pub blossoms : (i : ℕ) → InUse s i → ⊥

abbrev pub KeptAtStart : Type 0
KeptAtStart = (s : State) → AtStart s → Kept s
