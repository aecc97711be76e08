-- What the write half of adjust leaves in the tables. Assumes nothing.
use Rattle.std.specs.Prelude.{ℕ, ◌+◌, ◌-◌, ◌<◌, ◌≤◌, ◌≢◌, List, map, Option, slice_index}
use Rattle.std.specs.Option.{option_map}
use Rattle.matching.specs.Sums.{below}
use Rattle.steps.specs.Adjust.{label_at, moved, moved_blossom}
use Rattle.tables.specs.declared.tables.Blossom.{Blossom}
use Rattle.tables.specs.declared.tables.Tables.{Tables}
use Rattle.tables.specs.States.{blossom_of, place}
use Rattle.tables.specs.Prices.{at_price, with_prices}

-- the prices of the first n members have room to rise
abbrev pub Low : Tables → ℕ → Type 0
Low t n = (v : ℕ) → v < n → slice_index t.prices v ≤ 128000

-- so has that of each blossom whose root has a label
abbrev pub LowBlossoms : Tables → List ℕ → Type 0
LowBlossoms t common = (i : ℕ) → i < 100 → slice_index common (200 + i) ≢ 0 → (blossom_of (place t i)).price ≤ 128000

abbrev pub moved_prices : Tables → List ℕ → List ℕ
moved_prices t ls = map (λ v. moved (label_at ls v) (slice_index t.prices v)) (below 200)

abbrev pub members_moved : Tables → List ℕ → Tables
members_moved t ls = with_prices t t.floor (moved_prices t ls) t.blossoms

-- what is at a place, by the label of the root there
abbrev pub moved_place : ℕ → Option Blossom → Option Blossom
moved_place l b = option_map (at_price (moved_blossom l (blossom_of b).price)) b

abbrev pub moved_blossoms : Tables → List ℕ → List (Option Blossom)
moved_blossoms t common = map (λ i. moved_place (slice_index common (200 + i)) (place t i)) (below 100)

abbrev pub blossoms_moved : Tables → List ℕ → Tables
blossoms_moved t common = with_prices t t.floor t.prices (moved_blossoms t common)

-- after the whole step
abbrev pub all_moved : Tables → List ℕ → List ℕ → Tables
all_moved t ls common = with_prices t (t.floor - 1) (moved_prices t ls) (moved_blossoms t common)
