-- What every state of a board keeps. Assumes nothing.
use Rattle.std.specs.Prelude.{◌≡◌, ℕ, ◌+◌, ◌-◌, ◌*◌, ◌%◌, ◌<◌, ◌≤◌, Bool, true, false, cond, not, ◌&&◌, ◌≢◌, ◌⊎◌, length, Some, None, Option, nat_lt, slice_index}
use Rattle.matching.specs.Rows.{AllSound}
use Rattle.matching.specs.Pairings.{Different}
use Rattle.matching.specs.Mates.{mate}
use Rattle.matching.specs.Sums.{count, below}
use Rattle.matching.specs.State.{State, Blossom, k_in, first_of, second_of, weight, price_at, root_at, blossom_at, InUse, inside, node_holds, spans, yz, paired_in}

-- at most 200 members, 4,000 offers and a top of 100,000; 200 places for prices, mates and roots, and 100 for blossoms
pub record Sized (s : State) : Type 0 where
  pub few : s.members ≤ 200
  pub short : length s.rows ≤ 4000
  pub low : s.top ≤ 100000
  pub prices : length s.prices ≡ 200
  pub mates : length s.mates ≡ 200
  pub roots : length s.roots ≡ 200
  pub blossoms : length s.blossoms ≡ 100

-- before begin nothing is priced or paired, and no blossom is in use
pub record Unbegun (s : State) : Type 0 where
  pub floor : s.floor ≡ 0
  pub prices : (v : ℕ) → v < s.members → price_at s v ≡ 0
  pub mates : (v : ℕ) → v < s.members → mate s.mates v ≡ None
  pub blossoms : (i : ℕ) → InUse s i → ⊥

-- what begin asks of k and the top
pub record Begun (s : State) (k : ℕ) : Type 0 where
  pub positive : 1 ≤ k
  pub small : k ≤ 32
  pub top : s.top ≤ 1000

-- the offer e names the member v, and is the mate of both members that it names
pub record Mated (s : State) (v e : ℕ) : Type 0 where
  pub known : e < length s.rows
  pub names : (v ≡ first_of s e) ⊎ (v ≡ second_of s e)
  pub first : mate s.mates (first_of s e) ≡ Some e
  pub second : mate s.mates (second_of s e) ≡ Some e

-- no price lies under the floor, and a loose member's price is the floor
pub record Floored (s : State) : Type 0 where
  pub above : (v : ℕ) → v < s.members → s.floor ≤ price_at s v
  pub loose : (v : ℕ) → v < s.members → mate s.mates v ≡ None → price_at s v ≡ s.floor

-- every offer's yz is at least W - 2, and that of every paired offer and every ring offer is at most W
pub record Fair (s : State) : Type 0 where
  pub all : (e : ℕ) → e < length s.rows → weight s e ≤ yz s e + 2
  pub paired : (e : ℕ) → e < length s.rows → paired_in s e ≡ true → yz s e ≤ weight s e
  pub ring : (i j : ℕ) → InUse s i → j < length (blossom_at s i).joins → yz s (slice_index (blossom_at s i).joins j) ≤ weight s (slice_index (blossom_at s i).joins j)

-- the node p is a member, or a blossom in use
abbrev pub Node : State → ℕ → Type 0
Node s p = (p < s.members) ⊎ ((200 ≤ p) × InUse s (p - 200))

-- the part at place j of a ring, and the one after it, round the ring
abbrev pub part_at : Blossom → ℕ → ℕ
part_at b j = slice_index b.parts j

abbrev pub part_after : Blossom → ℕ → ℕ
part_after b j = part_at b (cond (nat_lt (j + 1) (length b.parts)) (j + 1) 0)

-- the offer e has one member in the node p and the other in the node q
abbrev pub Between : State → ℕ → ℕ → ℕ → Type 0
Between s e p q =
    ((node_holds s p (first_of s e) ≡ true) × (node_holds s q (second_of s e) ≡ true))
    ⊎ ((node_holds s p (second_of s e) ≡ true) × (node_holds s q (first_of s e) ≡ true))

-- how many members the node p holds
abbrev pub size : State → ℕ → ℕ
size s p = count (node_holds s p) (below s.members)

-- a blossom is an odd ring of at least three different nodes, each joined to the next by an offer
pub record Ring (s : State) (b : Blossom) : Type 0 where
  pub odd : length b.parts % 2 ≡ 1
  pub three : 3 ≤ length b.parts
  pub different : Different b.parts
  pub nodes : (j : ℕ) → j < length b.parts → Node s (part_at b j)
  pub joins : length b.joins ≡ length b.parts
  pub offers : (j : ℕ) → j < length b.joins → slice_index b.joins j < length s.rows
  pub joined : (j : ℕ) → j < length b.joins → Between s (slice_index b.joins j) (part_at b j) (part_after b j)
  -- it holds only members, and what it holds lies in exactly one of its parts: the parts share no member
  pub members : (v : ℕ) → inside b v ≡ true → v < s.members
  pub split : (v : ℕ) → v < s.members → count (λ p. node_holds s p v) b.parts ≡ cond (inside b v) 1 0

-- the node p is a part of no blossom in use
abbrev pub Outermost : State → ℕ → Type 0
Outermost s p = (i j : ℕ) → InUse s i → j < length (blossom_at s i).parts → part_at (blossom_at s i) j ≢ p

-- blossoms lie one inside another or apart, and each member lies in one root
pub record Nested (s : State) : Type 0 where
  pub rings : (i : ℕ) → InUse s i → Ring s (blossom_at s i)
  -- no node is a part of two blossoms
  pub one_parent : (h i j l : ℕ) → InUse s h → InUse s i → j < length (blossom_at s h).parts → l < length (blossom_at s i).parts →
      part_at (blossom_at s h) j ≡ part_at (blossom_at s i) l → h ≡ i
  -- a part holds fewer members than its blossom, so that no blossom lies inside itself
  pub smaller : (i j : ℕ) → InUse s i → j < length (blossom_at s i).parts → size s (part_at (blossom_at s i) j) < size s (200 + i)
  -- the root of a member holds it and is a part of nothing, and no other node is so
  pub root_holds : (v : ℕ) → v < s.members → node_holds s (root_at s v) v ≡ true
  pub root_outermost : (v : ℕ) → v < s.members → Outermost s (root_at s v)
  pub root_only : (v p : ℕ) → v < s.members → node_holds s p v ≡ true → Outermost s p → p ≡ root_at s v

-- whether a member with this mate is paired inside the blossom b
abbrev pub met : State → Blossom → Option ℕ → Bool
met s b None = false
met s b (Some e) = spans s b e

-- how many members of the blossom b are not paired inside it
abbrev pub bare : State → Blossom → ℕ
bare s b = count (λ v. inside b v && not (met s b (mate s.mates v))) (below s.members)

-- the bounds that keep prices small
pub record Small (s : State) : Type 0 where
  pub floor : s.floor ≤ 2 * k_in s * s.top
  pub members : (v : ℕ) → v < s.members → price_at s v + s.floor ≤ 4 * k_in s * s.top
  pub blossoms : (i : ℕ) → InUse s i → (blossom_at s i).price + 2 * s.floor ≤ 4 * k_in s * s.top

pub record Kept (s : State) : Type 0 where
  pub sized : Sized s
  -- each offer names two different members and shows no more than the top
  pub rows : AllSound s.members s.top s.rows
  pub unbegun : s.begun ≡ None → Unbegun s
  pub begun : (k : ℕ) → s.begun ≡ Some k → Begun s k
  -- the pairing is mutual
  pub mates : (v e : ℕ) → v < s.members → mate s.mates v ≡ Some e → Mated s v e
  pub floored : Floored s
  pub fair : Fair s
  -- blossom prices are even
  pub even : (i : ℕ) → InUse s i → (blossom_at s i).price % 2 ≡ 0
  pub nested : Nested s
  -- exactly one member of each blossom is not paired inside it
  pub one_bare : (i : ℕ) → InUse s i → bare s (blossom_at s i) ≡ 1
  -- the prices of the members of one blossom are all even or all odd
  pub one_parity : (i v w : ℕ) → inside (blossom_at s i) v ≡ true → inside (blossom_at s i) w ≡ true → price_at s v % 2 ≡ price_at s w % 2
  pub small : Small s
