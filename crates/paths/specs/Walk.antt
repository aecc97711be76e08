-- Walks from root to root by a list of offers. Assumes nothing.
use Rattle.std.specs.Prelude.{ℕ, ◌+◌, Bool, cond, not, ◌&&◌, ◌||◌, List, [], ◌∷◌, length, Some, None, Ok, Err, Option, Result, ◌==◌, nat_eq, nat_lt}
use Rattle.matching.specs.State.{State, first_of, second_of, root_at, paired_in, eligible}
use Rattle.matching.specs.Mates.{mate, is_none}
use Rattle.steps.specs.Searches.{some_below}
use Rattle.steps.specs.Adjust.{among}

-- whether the node p is the root of a member
abbrev pub is_root : State → ℕ → Bool
is_root s p = some_below (λ v. nat_eq (root_at s v) p) s.members

-- whether the root p has a loose member
abbrev pub is_loose : State → ℕ → Bool
is_loose s p = some_below (λ v. (root_at s v == p) && is_none (mate s.mates v)) s.members

-- the root that the offer e leads to from the root r
abbrev pub across : State → ℕ → ℕ → ℕ
across s e r = cond (root_at s (first_of s e) == r) (root_at s (second_of s e)) (root_at s (first_of s e))

-- whether the offer e has one end in the root r and the other in another root
abbrev pub leaves : State → ℕ → ℕ → Bool
leaves s e r = (root_at s (first_of s e) == r || root_at s (second_of s e) == r) && not (across s e r == r)

-- whether a walk may come to the root q, with these offers still to go: to one not used yet, but at the end of a walk back to the first root only to that
abbrev pub may_come : Option ℕ → List ℕ → List ℕ → ℕ → Bool
may_come None used es q = not (among q used)
may_come (Some first) used [] q = q == first
may_come (Some first) used (e ∷ es) q = not (among q used)

-- whether a walk may go on from the root r by the offer e, a paired one if it is the turn of one
abbrev pub may_go : State → Bool → ℕ → ℕ → Bool
may_go s turn r e = nat_lt e (length s.rows) && (leaves s e r && (eligible s e && cond turn (paired_in s e) (not (paired_in s e))))

-- the root that a walk comes to by these offers, or the position of the first that it may not go by. It stands at the root r and at position i,
-- has used these roots, and goes by turns by an unpaired and a paired offer; `back` is the first root if the last offer has to lead back to it
abbrev pub walk : State → Option ℕ → Bool → List ℕ → ℕ → ℕ → List ℕ → Result ℕ ℕ
walk s back turn used i r [] = Ok r
walk s back turn used i r (e ∷ es) =
    cond (may_go s turn r e && may_come back used es (across s e r))
    (walk s back (not turn) (across s e r ∷ used) (i + 1) (across s e r) es)
    (Err i)
