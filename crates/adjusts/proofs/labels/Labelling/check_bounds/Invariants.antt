use Rattle.std.proofs.Common.{◌≡◌, ℕ, ◌<◌, false, not}
use Rattle.steps.specs.Adjust.{in_bounds, adjusted}
use Rattle.tables.specs.States.{state}
use Rattle.adjusts.proofs.labels.Labelling.check_bounds.Given as goal

abbrev pub invariant-loop-e : goal.invariant-loop-e
invariant-loop-e l = (u : ℕ) → u < l.e → not (in_bounds (adjusted (state l.self.view.tables.now) l.self.labels.now) u) ≡ false
