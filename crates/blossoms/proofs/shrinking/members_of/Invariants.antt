use Rattle.std.proofs.Common.{ℕ, false, ◌&&◌, ltb, get_or}
use Rattle.matching.specs.State.{root_at}
use Rattle.tables.specs.States.{state}
use Rattle.blossoms.proofs.Filling.{Filled}
use Rattle.blossoms.proofs.shrinking.members_of.Given as goal

abbrev pub invariant-loop-v : goal.invariant-loop-v
invariant-loop-v l =
    Filled false
    (λ (u : ℕ). ltb u l.view.tables.now.members && get_or l.marks (root_at (state l.view.tables.now) u) false)
    (λ (u : ℕ). false)
    l.v l.holds
