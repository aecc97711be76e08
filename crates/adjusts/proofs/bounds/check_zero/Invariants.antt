use Rattle.std.proofs.Common.{◌≡◌, ℕ, ◌<◌, false}
use Rattle.adjusts.proofs.Bounding.{in_zero}
use Rattle.adjusts.proofs.bounds.check_zero.Given as goal

abbrev pub invariant-loop-i : goal.invariant-loop-i
invariant-loop-i l = (u : ℕ) → u < l.i → in_zero l.tables.blossoms l.common u ≡ false
