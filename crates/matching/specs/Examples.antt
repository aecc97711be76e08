-- Worked states: a triangle from its beginning to floor 0, and a blossom inside a blossom. Assumes nothing.
use Rattle.std.specs.Prelude.{◌≡◌, ℕ, ◌+◌, ◌-◌, ◌<◌, min, Bool, true, false, List, [], ◌∷◌, ◌++◌, length, replicate, Some, None, Option}
use Rattle.matching.specs.declared.row.Row.{Row}
use Rattle.matching.specs.Rows.{row_with}
use Rattle.matching.specs.Pairings.{shown_of}
use Rattle.matching.specs.State.{State, Blossom, no_blossom, weight, price_at, blossom_at, yz, eligible, pairing_in, loose_in, slack_in, InUse}
use Rattle.matching.specs.Kept.{Kept, part_at}

-- an offer between u and v that saves w
abbrev pub offer : ℕ → ℕ → ℕ → Row
offer u v w = row_with u v w w

-- a list of n places, the last ones empty
abbrev pub filled : {X : Type 0} → ℕ → X → List X → List X
filled n empty xs = xs ++ replicate (n - length xs) empty

abbrev pub blossom : ℕ → List ℕ → List ℕ → List Bool → Blossom
blossom price parts joins holds = record { used = true; price = price; parts = parts; joins = joins; holds = holds }

-- three members, offers 0 (0 1), 1 (0 2) and 2 (1 2) of 4 mm each
abbrev pub triangle : Option ℕ → ℕ → List ℕ → List (Option ℕ) → List ℕ → List Blossom → State
triangle begun floor prices mates roots blossoms = record {
  members = 3;
  rows = offer 0 1 4 ∷ offer 0 2 4 ∷ offer 1 2 4 ∷ [];
  top = 4;
  begun = begun;
  floor = floor;
  prices = filled 200 0 prices;
  mates = filled 200 None mates;
  roots = filled 200 0 roots;
  blossoms = filled 100 no_blossom blossoms;
}

-- the source's rule carry: the smaller of a lead and P × top
abbrev pub list_carry : ℕ → ℕ
list_carry lead = min lead 4

-- the ring from member 2 by the offers 1, 0 and 2
abbrev pub ring : ℕ → Blossom
ring price = blossom price (2 ∷ 0 ∷ 1 ∷ []) (1 ∷ 0 ∷ 2 ∷ []) (true ∷ true ∷ true ∷ [])

-- before begin
abbrev pub fresh : State
fresh = triangle None 0 (0 ∷ 0 ∷ 0 ∷ []) [] (0 ∷ 1 ∷ 2 ∷ []) []

-- after begin with k = 1
abbrev pub started : State
started = triangle (Some 1) 8 (8 ∷ 8 ∷ 8 ∷ []) [] (0 ∷ 1 ∷ 2 ∷ []) []

-- after five adjusts with all members out, and what a sixth would leave
abbrev pub lowered : State
lowered = triangle (Some 1) 3 (3 ∷ 3 ∷ 3 ∷ []) [] (0 ∷ 1 ∷ 2 ∷ []) []

abbrev pub too_low : State
too_low = triangle (Some 1) 2 (2 ∷ 2 ∷ 2 ∷ []) [] (0 ∷ 1 ∷ 2 ∷ []) []

-- after an augment by offer 0
abbrev pub augmented : State
augmented = triangle (Some 1) 3 (3 ∷ 3 ∷ 3 ∷ []) (Some 0 ∷ Some 0 ∷ []) (0 ∷ 1 ∷ 2 ∷ []) []

-- after an adjust with 0 and 1 in, 2 out
abbrev pub tightened : State
tightened = triangle (Some 1) 2 (4 ∷ 4 ∷ 2 ∷ []) (Some 0 ∷ Some 0 ∷ []) (0 ∷ 1 ∷ 2 ∷ []) []

-- after a shrink from 2 by the offers 1, 0 and 2, and after one and two adjusts more, all out
abbrev pub shrunk : State
shrunk = triangle (Some 1) 2 (4 ∷ 4 ∷ 2 ∷ []) (Some 0 ∷ Some 0 ∷ []) (200 ∷ 200 ∷ 200 ∷ []) (ring 0 ∷ [])

abbrev pub priced : State
priced = triangle (Some 1) 1 (3 ∷ 3 ∷ 1 ∷ []) (Some 0 ∷ Some 0 ∷ []) (200 ∷ 200 ∷ 200 ∷ []) (ring 2 ∷ [])

abbrev pub finished : State
finished = triangle (Some 1) 0 (2 ∷ 2 ∷ 0 ∷ []) (Some 0 ∷ Some 0 ∷ []) (200 ∷ 200 ∷ 200 ∷ []) (ring 4 ∷ [])

-- yz of the three offers, the number of loose members, and the slack
pub record Reads (s : State) (yz0 yz1 yz2 free most : ℕ) : Type 0 where
  pub offer_0 : yz s 0 ≡ yz0
  pub offer_1 : yz s 1 ≡ yz1
  pub offer_2 : yz s 2 ≡ yz2
  pub loose : loose_in s ≡ free
  pub slack : slack_in list_carry s ≡ most

-- whether each of the three offers is eligible
pub record Goes (s : State) (by0 by1 by2 : Bool) : Type 0 where
  pub offer_0 : eligible s 0 ≡ by0
  pub offer_1 : eligible s 1 ≡ by1
  pub offer_2 : eligible s 2 ≡ by2

pub record TriangleReads : Type 0 where
  pub weights : (weight started 0 ≡ 8) × (weight started 1 ≡ 8) × (weight started 2 ≡ 8)
  pub before : Reads fresh 0 0 0 3 4
  pub at_start : Reads started 16 16 16 3 4
  pub after_five : Reads lowered 6 6 6 3 4
  -- the sixth adjust is refused at offer 0: its yz would be under W - 2
  pub sixth : yz too_low 0 + 2 < weight too_low 0
  pub after_augment : Reads augmented 6 6 6 1 2
  pub after_in_out : Reads tightened 8 6 6 1 2
  pub after_shrink : Reads shrunk 8 6 6 1 2
  pub after_out : Reads priced 8 6 6 1 1
  pub at_end : Reads finished 8 6 6 1 1
  -- all offers go by their turn before the shrink, and none afterwards: they lie inside a root
  pub ways_before : Goes lowered true true true
  pub ways_paired : Goes augmented false true true
  pub ways_ring : Goes tightened true true true
  pub ways_inside : Goes shrunk false false false
  pub pairing : (pairing_in finished ≡ 0 ∷ []) × (shown_of finished.rows (pairing_in finished) ≡ 4)

-- five members: 0, 1 and 2 in an inner blossom, which is joined in an outer one to 3 and 4
abbrev pub inner : Blossom
inner = ring 2

abbrev pub outer : Blossom
outer = blossom 2 (200 ∷ 3 ∷ 4 ∷ []) (3 ∷ 4 ∷ 5 ∷ []) (true ∷ true ∷ true ∷ true ∷ true ∷ [])

abbrev pub nest : State
nest = record {
  members = 5;
  rows = offer 0 1 5 ∷ offer 0 2 5 ∷ offer 1 2 5 ∷ offer 2 3 4 ∷ offer 3 4 4 ∷ offer 2 4 4 ∷ [];
  top = 5;
  begun = Some 1;
  floor = 1;
  prices = filled 200 0 (3 ∷ 3 ∷ 1 ∷ 3 ∷ 3 ∷ []);
  mates = filled 200 None (Some 0 ∷ Some 0 ∷ None ∷ Some 4 ∷ Some 4 ∷ []);
  roots = filled 200 0 (201 ∷ 201 ∷ 201 ∷ 201 ∷ 201 ∷ []);
  blossoms = filled 100 no_blossom (inner ∷ outer ∷ []);
}

-- the offer 0 lies in both blossoms: without the outer one it would come to 8
pub record NestReads : Type 0 where
  pub both : yz nest 0 ≡ 10
  pub innermost : price_at nest 0 + price_at nest 1 + inner.price ≡ 8
  pub weight : weight nest 0 ≡ 10
  pub outer_only : yz nest 4 ≡ 8
  pub loose : loose_in nest ≡ 1
  pub pairing : pairing_in nest ≡ 0 ∷ 4 ∷ []

-- what every state keeps holds from before begin to floor 0, with a blossom in use at the end; not after a sixth adjust
pub record KeptWalk : Type 0 where
  pub before : Kept fresh
  pub at_start : Kept started
  pub after_five : Kept lowered
  pub sixth : Kept too_low → ⊥
  pub after_augment : Kept augmented
  pub after_in_out : Kept tightened
  pub after_shrink : Kept shrunk
  pub after_out : Kept priced
  pub at_end : Kept finished
  pub in_use : InUse shrunk 0 × InUse priced 0 × InUse finished 0

-- it holds with a blossom that is a part of another
abbrev pub KeptNest : Type 0
KeptNest = Kept nest × InUse nest 0 × InUse nest 1 × (part_at (blossom_at nest 1) 0 ≡ 200)
