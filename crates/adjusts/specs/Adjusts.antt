-- The check of an adjust. Assumes nothing.
use Rattle.std.specs.Prelude.{◌≡◌, ℕ, List, Some, None, Ok, Err, Result}
use Rattle.faults.specs.declared.layers.BoardFault.{BoardFault}
use Rattle.matching.specs.State.{State}
use Rattle.steps.specs.Adjust.{adjust_fault}
use Rattle.adjusts.specs.Labels.{RootLabels}

-- nothing stands against the labels, and these are those of the roots
pub record Ready (s : State) (ls common : List ℕ) : Type 0 where
  pub none : adjust_fault s ls ≡ None
  pub roots : RootLabels s ls common

-- the first fault, or the labels of the roots
abbrev pub Judges : State → List ℕ → Result (List ℕ) BoardFault → Type 0
Judges s ls (Err f) = adjust_fault s ls ≡ Some f
Judges s ls (Ok common) = Ready s ls common
