-- To which roots a walk may come, and what stops it. Assumes nothing.
use Rattle.std.specs.Prelude.{ℕ, Bool, cond, not, Some, None, Ok, Err, Option, Result, ◌==◌}
use Rattle.faults.specs.declared.layers.BoardFault.{BoardFault}
use Rattle.faults.specs.declared.layers.BoardFault.TheVariants.{BadOffer}

-- to the root q, which was used or not, by the last offer or an earlier one
abbrev pub comes : Option ℕ → Bool → Bool → ℕ → Bool
comes None last used q = not used
comes (Some first) last used q = cond last (q == first) (not used)

-- the root that a walk comes to, or the fault of the offer at the position where it stops
abbrev pub walked : Result ℕ ℕ → Result ℕ BoardFault
walked (Ok q) = Ok q
walked (Err i) = Err (BadOffer i)
