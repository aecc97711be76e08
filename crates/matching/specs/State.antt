-- The state of a board: offers, prices, the pairing and the blossoms. Assumes nothing.
use Rattle.std.specs.Prelude.{◌≡◌, ℕ, ◌+◌, ◌-◌, ◌*◌, Bool, true, false, cond, not, ◌&&◌, List, [], Some, None, Option, ◌==◌, nat_lt, slice_index, slice_index_or}
use Rattle.matching.specs.declared.row.Row.{Row}
use Rattle.matching.specs.Rows.{row}
use Rattle.matching.specs.Mates.{paired, taken, loose}
use Rattle.matching.specs.Slack.{reach}
use Rattle.matching.specs.Sums.{total}

-- A node is a number: below 200 it is a member alone, and 200 + i is the blossom at place i.
pub record Blossom : Type 0 where
  -- whether the place is in use; if it is not, the other fields mean nothing
  pub used : Bool
  -- in ticks
  pub price : ℕ
  -- the nodes of the ring, in order
  pub parts : List ℕ
  -- the ring offers: the first joins the first part to the second, and so on, and the last joins the last part to the first
  pub joins : List ℕ
  -- for each member whether it lies inside
  pub holds : List Bool

pub record State : Type 0 where
  pub members : ℕ
  pub rows : List Row
  pub top : ℕ
  -- the k of begin, and None before it
  pub begun : Option ℕ
  -- the floor and the prices are in ticks of 1/(2k) mm
  pub floor : ℕ
  pub prices : List ℕ
  -- for each member the offer by which it is paired, and None if it is loose
  pub mates : List (Option ℕ)
  -- for each member the root that it lies in
  pub roots : List ℕ
  pub blossoms : List Blossom

-- what a read past the last place gives
abbrev pub no_blossom : Blossom
no_blossom = record { used = false; price = 0; parts = []; joins = []; holds = [] }

abbrev pub or_zero : Option ℕ → ℕ
or_zero None = 0
or_zero (Some k) = k

-- k, and 0 before begin
abbrev pub k_in : State → ℕ
k_in s = or_zero s.begun

-- the two members of the offer e
abbrev pub first_of : State → ℕ → ℕ
first_of s e = (row s.rows e).first

abbrev pub second_of : State → ℕ → ℕ
second_of s e = (row s.rows e).second

-- W of the offer e: its shown saving in ticks
abbrev pub weight : State → ℕ → ℕ
weight s e = 2 * k_in s * (row s.rows e).shown

-- the price and the root of the member v, and the blossom at place i
abbrev pub price_at : State → ℕ → ℕ
price_at s v = slice_index s.prices v

abbrev pub root_at : State → ℕ → ℕ
root_at s v = slice_index s.roots v

abbrev pub blossom_at : State → ℕ → Blossom
blossom_at s i = slice_index_or s.blossoms i no_blossom

-- the blossom at place i is in use
abbrev pub InUse : State → ℕ → Type 0
InUse s i = (blossom_at s i).used ≡ true

-- whether the blossom b is in use and holds the member v
abbrev pub inside : Blossom → ℕ → Bool
inside b v = b.used && slice_index_or b.holds v false

-- whether the node p holds the member v
abbrev pub node_holds : State → ℕ → ℕ → Bool
node_holds s p v = cond (nat_lt p 200) (p == v) (inside (blossom_at s (p - 200)) v)

-- whether the blossom b is in use and holds both members of the offer e
abbrev pub spans : State → Blossom → ℕ → Bool
spans s b e = inside b (first_of s e) && inside b (second_of s e)

-- the prices of all blossoms in use, inner and outer ones, that hold both members of the offer e
abbrev pub around : State → ℕ → ℕ
around s e = total (λ b. cond (spans s b e) b.price 0) s.blossoms

-- yz of the offer e
abbrev pub yz : State → ℕ → ℕ
yz s e = price_at s (first_of s e) + price_at s (second_of s e) + around s e

abbrev pub paired_in : State → ℕ → Bool
paired_in s e = paired s.rows s.mates e

-- whether a step may go by the offer e: it lies between two roots, and is paired with yz = W or unpaired with yz = W - 2
abbrev pub eligible : State → ℕ → Bool
eligible s e = not (root_at s (first_of s e) == root_at s (second_of s e)) && yz s e + cond (paired_in s e) 0 2 == weight s e

-- the pairing that the state holds, as a list of offers
abbrev pub pairing_in : State → List ℕ
pairing_in s = taken s.rows s.mates

-- how many members are loose
abbrev pub loose_in : State → ℕ
loose_in s = loose s.members s.mates

-- by how much any pairing can show more than the state's, by the rule before and after begin
abbrev pub gap_in : State → ℕ
gap_in s = reach s.begun s.members s.top s.floor (loose_in s)

-- the slack of the state over a source with this rule carry
abbrev pub slack_in : (ℕ → ℕ) → State → ℕ
slack_in carry s = carry (gap_in s)
