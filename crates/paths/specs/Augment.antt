-- Augment: when it is a step, and the pairing that it leaves. Assumes nothing.
use Rattle.std.specs.Prelude.{◌≡◌, ℕ, ◌%◌, false, List, [], ◌∷◌, length, is_some, Some, None, Ok, Err, Option, Result, ◌==◌}
use Rattle.faults.specs.declared.layers.BoardFault.{BoardFault}
use Rattle.faults.specs.declared.layers.BoardFault.TheVariants.{NotBegun, NotRoot, WrongCount, BadOffer, NotLoose}
use Rattle.faults.specs.Checks.{or_else, unless}
use Rattle.matching.specs.State.{State}
use Rattle.paths.specs.Walk.{is_root, is_loose, across, walk}
use Rattle.paths.specs.Bare.{Link, by_twos, joined, piled, Laid}

-- what stands against an augment whose walk from the root r ends so: the position of an offer, the first root, the last root
abbrev pub path_fault : State → ℕ → Result ℕ ℕ → Option BoardFault
path_fault s r (Err i) = Some (BadOffer i)
path_fault s r (Ok q) = or_else (unless (is_loose s r) (NotLoose r)) (unless (is_loose s q) (NotLoose q))

-- what stands against the step, by rising number of the fault
abbrev pub augment_fault : State → ℕ → List ℕ → Option BoardFault
augment_fault s r es =
    or_else (unless (is_some s.begun) NotBegun)
    (or_else (unless (is_root s r) (NotRoot r))
    (or_else (unless (length es % 2 == 1) (WrongCount (length es)))
    (path_fault s r (walk s None false (r ∷ []) 0 r es))))

-- the roots that the offers lead through, each with the offer that leads on
abbrev pub way : State → ℕ → List ℕ → List Link
way s r [] = record { part = r; offer = 0 } ∷ []
way s r (e ∷ es) = record { part = r; offer = e } ∷ way s (across s e r) es

-- the state with other mates
abbrev pub with_mates : State → List (Option ℕ) → State
with_mates s m = record {
  members = s.members;
  rows = s.rows;
  top = s.top;
  begun = s.begun;
  floor = s.floor;
  prices = s.prices;
  mates = m;
  roots = s.roots;
  blossoms = s.blossoms;
}

-- the mates m after the step: the first, third, .. offer of the list is paired, and each root on the way is laid bare where its newly paired offer ends
abbrev pub Exchanged : State → ℕ → List ℕ → List (Option ℕ) → Type 0
Exchanged s r es m = Laid s (piled s (by_twos (way s r es)) []) (joined s (by_twos (way s r es)) s.mates) m

-- the state t after the step: only mates have changed
pub record Augmented (s : State) (r : ℕ) (es : List ℕ) (t : State) : Type 0 where
  pub mates : Exchanged s r es t.mates
  pub rest : t ≡ with_mates s t.mates
