-- Shrink: when it is a step, and the blossom that it makes. Assumes nothing.
use Rattle.std.specs.Prelude.{ℕ, ◌+◌, ◌%◌, Bool, true, false, cond, ◌&&◌, List, [], ◌∷◌, map, length, is_some, Some, None, Ok, Err, Option, Result, ◌==◌, nat_le, nat_lt, slice_set}
use Rattle.faults.specs.declared.layers.BoardFault.{BoardFault}
use Rattle.faults.specs.declared.layers.BoardFault.TheVariants.{NotBegun, NotRoot, WrongCount, BadOffer, NoNumber}
use Rattle.faults.specs.Checks.{or_else, unless}
use Rattle.matching.specs.State.{State, Blossom, root_at, blossom_at}
use Rattle.matching.specs.Sums.{below}
use Rattle.steps.specs.Adjust.{among}
use Rattle.steps.specs.Searches.{some_below}
use Rattle.paths.specs.Walk.{is_root, across, walk}

-- the position at which a walk stops, as a fault
abbrev pub walk_fault : Result ℕ ℕ → Option BoardFault
walk_fault (Err i) = Some (BadOffer i)
walk_fault (Ok q) = None

-- whether no blossom is at place i
abbrev pub is_free : State → ℕ → Bool
is_free s i = cond (blossom_at s i).used false true

-- what stands against the step, by rising number of the fault
abbrev pub shrink_fault : State → ℕ → List ℕ → Option BoardFault
shrink_fault s r es =
    or_else (unless (is_some s.begun) NotBegun)
    (or_else (unless (is_root s r) (NotRoot r))
    (or_else (unless (length es % 2 == 1 && nat_le 3 (length es)) (WrongCount (length es)))
    (or_else (walk_fault (walk s (Some r) false (r ∷ []) 0 r es))
    (unless (some_below (is_free s) 100) NoNumber))))

-- the roots that the offers leave, in order
abbrev pub passed : State → ℕ → List ℕ → List ℕ
passed s r [] = []
passed s r (e ∷ es) = r ∷ passed s (across s e r) es

-- whether the member v lies in one of the roots
abbrev pub lies_in : State → List ℕ → ℕ → Bool
lies_in s ps v = nat_lt v s.members && among (root_at s v) ps

-- a blossom of price 0 with these roots as its parts, joined by these offers
abbrev pub ring_of : State → List ℕ → List ℕ → Blossom
ring_of s ps es = record { used = true; price = 0; parts = ps; joins = es; holds = map (lies_in s ps) (below 200) }

-- the state with other roots and blossoms
abbrev pub with_blossoms : State → List ℕ → List Blossom → State
with_blossoms s roots blossoms = record {
  members = s.members;
  rows = s.rows;
  top = s.top;
  begun = s.begun;
  floor = s.floor;
  prices = s.prices;
  mates = s.mates;
  roots = roots;
  blossoms = blossoms;
}

-- the state after the step, with the new blossom at place i: it is the root of all its members
abbrev pub shrunk : State → ℕ → List ℕ → ℕ → State
shrunk s r es i =
    with_blossoms s
    (map (λ v. cond (lies_in s (passed s r es) v) (200 + i) (root_at s v)) (below 200))
    (slice_set s.blossoms i (ring_of s (passed s r es) es))
