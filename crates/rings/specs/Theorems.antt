-- That a shrink and a dissolve leave a state that keeps what every state keeps. Assumes nothing.
use Rattle.std.specs.Prelude.{◌≡◌, ℕ, ◌<◌, false, List, None}
use Rattle.matching.specs.State.{State, Blossom, blossom_at, yz}
use Rattle.matching.specs.Kept.{Kept}
use Rattle.rings.specs.Shrink.{shrink_fault, shrunk}
use Rattle.rings.specs.Dissolve.{dissolve_fault, dissolved_leaving}

abbrev pub ShrinkKeeps : Type 0
ShrinkKeeps = (s : State) (r : ℕ) (es : List ℕ) (i : ℕ) → Kept s → shrink_fault s r es ≡ None → i < 100 → (blossom_at s i).used ≡ false → Kept (shrunk s r es i)

-- whatever is left at the place, if only it is not used
abbrev pub DissolveKeeps : Type 0
DissolveKeeps = (s : State) (p : ℕ) (b : Blossom) → Kept s → dissolve_fault s p ≡ None → b.used ≡ false → Kept (dissolved_leaving s p b)

-- neither step moves yz of an offer
abbrev pub ShrinkStays : Type 0
ShrinkStays = (s : State) (r : ℕ) (es : List ℕ) (i e : ℕ) → Kept s → i < 100 → (blossom_at s i).used ≡ false → yz (shrunk s r es i) e ≡ yz s e

abbrev pub DissolveStays : Type 0
DissolveStays = (s : State) (p e : ℕ) (b : Blossom) → Kept s → dissolve_fault s p ≡ None → b.used ≡ false → yz (dissolved_leaving s p b) e ≡ yz s e
