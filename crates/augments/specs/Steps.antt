-- What stands against an augment, or the mates after it. Assumes nothing.
use Rattle.std.specs.Prelude.{◌≡◌, ℕ, List, Some, None, Ok, Err, Option, Result}
use Rattle.faults.specs.declared.layers.BoardFault.{BoardFault}
use Rattle.matching.specs.State.{State}
use Rattle.paths.specs.Augment.{augment_fault, Exchanged}

-- nothing stands against the step, and these are the mates after it
pub record Ready (s : State) (r : ℕ) (es : List ℕ) (m : List (Option ℕ)) : Type 0 where
  pub none : augment_fault s r es ≡ None
  pub mates : Exchanged s r es m

abbrev pub Augments : State → ℕ → List ℕ → Result (List (Option ℕ)) BoardFault → Type 0
Augments s r es (Err f) = augment_fault s r es ≡ Some f
Augments s r es (Ok m) = Ready s r es m
