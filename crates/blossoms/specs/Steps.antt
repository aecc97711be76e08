-- The checks of shrink and dissolve, and what they find. Assumes nothing.
use Rattle.std.specs.Prelude.{◌≡◌, ℕ, ◌-◌, ◌<◌, Bool, false, cond, ◌&&◌, List, Some, None, Ok, Err, Result, ◌==◌, nat_lt, slice_index_or}
use Rattle.faults.specs.declared.layers.BoardFault.{BoardFault}
use Rattle.matching.specs.State.{State, root_at, blossom_at}
use Rattle.steps.specs.Adjust.{among}
use Rattle.rings.specs.Shrink.{shrink_fault, passed, ring_of, shrunk}
use Rattle.rings.specs.Dissolve.{dissolve_fault, dissolved, holder}
use Rattle.tables.specs.States.{blossom_of}
use Rattle.blossoms.specs.declared.Ring.{Ring}

-- the marks of the nodes tell which are in the list
abbrev pub Marks : List Bool → List ℕ → Type 0
Marks marks ps = (p : ℕ) → p < 300 → slice_index_or marks p false ≡ among p ps

-- nothing stands against a shrink, and no blossom is at place i
pub record Free (s : State) (r : ℕ) (es : List ℕ) (i : ℕ) : Type 0 where
  pub none : shrink_fault s r es ≡ None
  pub low : i < 100
  pub free : (blossom_at s i).used ≡ false

-- the first fault, or a free place
abbrev pub Places : State → ℕ → List ℕ → Result ℕ BoardFault → Type 0
Places s r es (Err f) = shrink_fault s r es ≡ Some f
Places s r es (Ok i) = Free s r es i

-- nothing stands against the shrink, and this is the new blossom at a free place
pub record Made (s : State) (r : ℕ) (es : List ℕ) (x : Ring) : Type 0 where
  pub none : shrink_fault s r es ≡ None
  pub low : x.place < 100
  pub free : (blossom_at s x.place).used ≡ false
  pub blossom : blossom_of (Some x.blossom) ≡ ring_of s (passed s r es) es
  pub roots : x.roots ≡ (shrunk s r es x.place).roots

-- the first fault, or the new blossom
abbrev pub Shrinks : State → ℕ → List ℕ → Result Ring BoardFault → Type 0
Shrinks s r es (Err f) = shrink_fault s r es ≡ Some f
Shrinks s r es (Ok x) = Made s r es x

-- the root of the member v, once the parts of the blossom p are roots
abbrev pub parted : State → ℕ → ℕ → ℕ
parted s p v = cond (nat_lt v s.members && root_at s v == p) (holder s (blossom_at s (p - 200)).parts v) (root_at s v)

-- nothing stands against the dissolve, and these are the roots after it
pub record Split (s : State) (p : ℕ) (rs : List ℕ) : Type 0 where
  pub none : dissolve_fault s p ≡ None
  pub roots : rs ≡ (dissolved s p).roots

-- the first fault, or the roots after it
abbrev pub Dissolves : State → ℕ → Result (List ℕ) BoardFault → Type 0
Dissolves s p (Err f) = dissolve_fault s p ≡ Some f
Dissolves s p (Ok rs) = Split s p rs
