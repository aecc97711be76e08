-- Adjust: when it is a step, and the prices that it leaves. Assumes nothing.
use Rattle.std.specs.Prelude.{ℕ, ◌+◌, ◌-◌, Bool, false, cond, not, ◌&&◌, ◌||◌, List, [], ◌∷◌, map, length, is_some, Some, None, Option, ◌==◌, nat_eq, nat_le, nat_lt, slice_index}
use Rattle.std.specs.Option.{option_map}
use Rattle.faults.specs.declared.layers.BoardFault.{BoardFault}
use Rattle.faults.specs.declared.layers.BoardFault.TheVariants.{NotBegun, BadLabels, FloorZero, InAtZero, OutOfBounds}
use Rattle.matching.specs.State.{State, Blossom, price_at, root_at, blossom_at, weight, yz, paired_in}
use Rattle.matching.specs.Mates.{mate, is_none}
use Rattle.matching.specs.Sums.{below}
use Rattle.faults.specs.Checks.{or_else, unless}
use Rattle.steps.specs.Searches.{first_below, some_below}

-- the label of the member v: 0 none, 1 out, 2 in
abbrev pub label_at : List ℕ → ℕ → ℕ
label_at ls v = slice_index ls v

-- whether w lies in the root of v, and is labelled otherwise than v, over 2, or loose and not out
abbrev pub offends : State → List ℕ → ℕ → ℕ → Bool
offends s ls v w =
    (root_at s w == root_at s v)
    && (not (label_at ls w == label_at ls v)
    || (nat_lt 2 (label_at ls w)
    || (is_none (mate s.mates w) && not (label_at ls w == 1))))

-- the label of a root: that of its lowest member, and 0 of a node that is no root
abbrev pub label_of : List ℕ → Option ℕ → ℕ
label_of ls None = 0
label_of ls (Some v) = label_at ls v

abbrev pub root_label : State → List ℕ → ℕ → ℕ
root_label s ls p = label_of ls (first_below (λ v. nat_eq (root_at s v) p) s.members)

-- a price in ticks, by the label: out members lose a tick, in members gain one
abbrev pub moved : ℕ → ℕ → ℕ
moved l y = cond (l == 1) (y - 1) (cond (l == 2) (y + 1) y)

-- an out root blossom gains 2, an in root blossom loses 2
abbrev pub moved_blossom : ℕ → ℕ → ℕ
moved_blossom l z = cond (l == 1) (z + 2) (cond (l == 2) (z - 2) z)

abbrev pub repriced : ℕ → Blossom → Blossom
repriced l b = record {
  used = b.used;
  price = moved_blossom l b.price;
  parts = b.parts;
  joins = b.joins;
  holds = b.holds;
}

-- the state after the step: the floor falls by 1
abbrev pub adjusted : State → List ℕ → State
adjusted s ls = record {
  members = s.members;
  rows = s.rows;
  top = s.top;
  begun = s.begun;
  floor = s.floor - 1;
  prices = map (λ v. moved (label_at ls v) (price_at s v)) (below 200);
  mates = s.mates;
  roots = s.roots;
  blossoms = map (λ i. repriced (root_label s ls (200 + i)) (blossom_at s i)) (below 100);
}

-- whether e is an offer of the list
abbrev pub among : ℕ → List ℕ → Bool
among e [] = false
among e (d ∷ ds) = d == e || among e ds

-- whether the offer e joins two parts of a blossom in use
abbrev pub joins_parts : State → ℕ → Bool
joins_parts s e = some_below (λ i. (blossom_at s i).used && among e (blossom_at s i).joins) 100

-- whether yz of the offer e is at least W - 2, and at most W if the offer is paired or joins parts of a blossom
abbrev pub in_bounds : State → ℕ → Bool
in_bounds s e = nat_le (weight s e) (yz s e + 2) && (not (paired_in s e || joins_parts s e) || nat_le (yz s e) (weight s e))

-- the wrong number of labels; or the lowest member whose root is labelled wrongly
abbrev pub label_fault : State → List ℕ → Option BoardFault
label_fault s ls =
    or_else (unless (length ls == s.members) (BadLabels (length ls)))
    (option_map BadLabels (first_below (λ v. some_below (offends s ls v) s.members) s.members))

-- an in root blossom of price 0
abbrev pub zero_fault : State → List ℕ → Option BoardFault
zero_fault s ls = option_map (λ i. InAtZero (200 + i)) (first_below (λ i. (blossom_at s i).used && (root_label s ls (200 + i) == 2 && (blossom_at s i).price == 0)) 100)

-- an offer outside its bounds after the step
abbrev pub bound_fault : State → List ℕ → Option BoardFault
bound_fault s ls = option_map OutOfBounds (first_below (λ e. not (in_bounds (adjusted s ls) e)) (length s.rows))

-- what stands against the step, by rising number of the fault
abbrev pub adjust_fault : State → List ℕ → Option BoardFault
adjust_fault s ls =
    or_else (unless (is_some s.begun) NotBegun)
    (or_else (label_fault s ls)
    (or_else (unless (not (s.floor == 0)) FloorZero)
    (or_else (zero_fault s ls)
    (bound_fault s ls))))
