use Rattle.matching.specs.State.{root_at}
use Rattle.tables.specs.States.{state}
use Rattle.blossoms.proofs.Filling.{Filled}
use Rattle.blossoms.specs.Steps.{parted}
use Rattle.blossoms.proofs.dissolving.roots_of_parts.Given as goal

abbrev pub invariant-loop-v : goal.invariant-loop-v
invariant-loop-v l = Filled 0 (parted (state l.view.tables.now) l.node) (root_at (state l.view.tables.now)) l.v l.roots
