-- Dissolve: when it is a step, and what it leaves. Assumes nothing.
use Rattle.std.specs.Prelude.{ℕ, ◌-◌, cond, ◌&&◌, List, [], ◌∷◌, map, is_some, Option, ◌==◌, nat_le, nat_lt, slice_set}
use Rattle.faults.specs.declared.layers.BoardFault.{BoardFault}
use Rattle.faults.specs.declared.layers.BoardFault.TheVariants.{NotBegun, NotRoot, Priced}
use Rattle.faults.specs.Checks.{or_else, unless}
use Rattle.matching.specs.State.{State, Blossom, no_blossom, root_at, blossom_at, node_holds}
use Rattle.matching.specs.Sums.{below}
use Rattle.paths.specs.Walk.{is_root}
use Rattle.rings.specs.Shrink.{with_blossoms}

-- what stands against the step, by rising number of the fault
abbrev pub dissolve_fault : State → ℕ → Option BoardFault
dissolve_fault s p =
    or_else (unless (is_some s.begun) NotBegun)
    (or_else (unless (nat_le 200 p && is_root s p) (NotRoot p))
    (unless ((blossom_at s (p - 200)).price == 0) (Priced p)))

-- the first of the parts that holds the member v
abbrev pub holder : State → List ℕ → ℕ → ℕ
holder s [] v = v
holder s (q ∷ qs) v = cond (node_holds s q v) q (holder s qs v)

-- the state after the step, with b left at the place of the blossom p: the parts of p are roots
abbrev pub dissolved_leaving : State → ℕ → Blossom → State
dissolved_leaving s p b =
    with_blossoms s
    (map (λ v. cond (nat_lt v s.members && root_at s v == p) (holder s (blossom_at s (p - 200)).parts v) (root_at s v)) (below 200))
    (slice_set s.blossoms (p - 200) b)

-- the state after the step: at the place of the blossom p there is none
abbrev pub dissolved : State → ℕ → State
dissolved s p = dissolved_leaving s p no_blossom
