-- Worked examples of laying bare: a ring of five, and a blossom inside a blossom. Assumes nothing.
use Rattle.std.specs.Prelude.{◌≡◌, ℕ, true, List, [], ◌∷◌, Some, None, Option}
use Rattle.matching.specs.State.{State, Blossom, no_blossom}
use Rattle.matching.specs.Kept.{Kept}
use Rattle.matching.specs.Examples.{offer, filled, blossom, nest}
use Rattle.paths.specs.Bare.{Laid}

-- the members 0 to 4 in a ring, offer 0 from 0 to 1, .., offer 4 from 4 to 0; member 5 outside, and offer 5 from 2 to it
abbrev pub five : Blossom
five = blossom 0 (0 ∷ 1 ∷ 2 ∷ 3 ∷ 4 ∷ []) (0 ∷ 1 ∷ 2 ∷ 3 ∷ 4 ∷ []) (true ∷ true ∷ true ∷ true ∷ true ∷ [])

abbrev pub wheel : State
wheel = record {
  members = 6;
  rows = offer 0 1 4 ∷ offer 1 2 4 ∷ offer 2 3 4 ∷ offer 3 4 4 ∷ offer 0 4 4 ∷ offer 2 5 3 ∷ [];
  top = 4;
  begun = Some 1;
  floor = 1;
  prices = filled 200 0 (1 ∷ 5 ∷ 3 ∷ 3 ∷ 5 ∷ 1 ∷ []);
  mates = filled 200 None (None ∷ Some 1 ∷ Some 1 ∷ Some 3 ∷ Some 3 ∷ None ∷ []);
  roots = filled 200 0 (200 ∷ 200 ∷ 200 ∷ 200 ∷ 200 ∷ 5 ∷ []);
  blossoms = filled 100 no_blossom (five ∷ []);
}

-- laying the node p bare at u turns the mates m into m', and into no others
pub record Turns (s : State) (p u : ℕ) (m m' : List (Option ℕ)) : Type 0 where
  pub laid : Laid s (record { node = p; member = u } ∷ []) (filled 200 None m) (filled 200 None m')
  pub only : (r : List (Option ℕ)) → Laid s (record { node = p; member = u } ∷ []) (filled 200 None m) r → r ≡ filled 200 None m'

pub record RingBare : Type 0 where
  pub kept : Kept wheel
  -- once 2 is paired with 5, the others are paired 3 with 4 and 0 with 1
  pub at_2 : Turns wheel 200 2 (None ∷ Some 1 ∷ Some 5 ∷ Some 3 ∷ Some 3 ∷ Some 5 ∷ []) (Some 0 ∷ Some 0 ∷ Some 5 ∷ Some 3 ∷ Some 3 ∷ Some 5 ∷ [])
  -- where the blossom is bare at 0 it stays as it is
  pub at_0 : Turns wheel 200 0 (None ∷ Some 1 ∷ Some 1 ∷ Some 3 ∷ Some 3 ∷ []) (None ∷ Some 1 ∷ Some 1 ∷ Some 3 ∷ Some 3 ∷ [])

-- from no mates at all, in the outer blossom of `nest`
pub record NestBare : Type 0 where
  -- 0 lies in the inner one: 3 is paired with 4, and inside 1 with 2
  pub at_0 : Turns nest 201 0 [] (None ∷ Some 2 ∷ Some 2 ∷ Some 4 ∷ Some 4 ∷ [])
  -- 3 lies outside it: 4 is paired with 2, which lays the inner one bare at 2, so that 0 is paired with 1
  pub at_3 : Turns nest 201 3 [] (Some 0 ∷ Some 0 ∷ Some 5 ∷ None ∷ Some 5 ∷ [])
