-- Augment, shrink and dissolve on the tables: the state that they leave, and that it keeps what every board keeps. Assumes nothing.
use Rattle.std.proofs.Common.{◌≡◌, ℕ, ◌-◌, ◌<◌, true, false, ◌&&◌, leb, List, set, is_some, None, Option, sym, refl, ap, ◌∙◌, subst, inl, inr, arith}
use mathlib.Core.Bool.{Bool-set}
use mathlib.Core.Logic.{∥∥₁_elim, ∥∥₁_map}
use Rattle.std.proofs.lemmas.List.{map-set}
use Rattle.std.proofs.lemmas.Bool.{and_parts, both_ways, cases_lt}
use Rattle.faults.specs.Checks.{unless}
use Rattle.faults.specs.declared.layers.BoardFault.TheVariants.{NotBegun, NotRoot}
use Rattle.matching.specs.State.{State, no_blossom, blossom_at}
use Rattle.matching.specs.Kept.{Kept}
use Rattle.steps.proofs.Searches.{or_else_none, unless_none}
use Rattle.paths.specs.Walk.{is_root}
use Rattle.paths.specs.Augment.{augment_fault, Exchanged, Augmented}
use Rattle.paths.proofs.Keeps.{augment_keeps}
use Rattle.rings.specs.Shrink.{shrink_fault, passed, ring_of, with_blossoms, shrunk}
use Rattle.rings.specs.Dissolve.{dissolve_fault, dissolved}
use Rattle.rings.proofs.Shrinks.{shrink_keeps}
use Rattle.rings.proofs.Dissolves.{dissolve_keeps}
use Rattle.tables.specs.declared.tables.Blossom.{Blossom}
use Rattle.tables.specs.declared.tables.Tables.{Tables}
use Rattle.tables.specs.States.{blossom_of, state}
use Rattle.tables.specs.Kept.{Keeps}
use Rattle.walks.proofs.Telling.{no_number}
use Rattle.board.specs.Steps.{mated_anew, ringed_anew}

pub augmented_is : (t : Tables) (r : ℕ) (es : List ℕ) (m : List (Option ℕ)) → Exchanged (state t) r es m → Augmented (state t) r es (state (mated_anew t m))
augmented_is t r es m h = record { mates = h; rest = refl }

pub augment_held : (t : Tables) (r : ℕ) (es : List ℕ) (m : List (Option ℕ)) → Keeps t → augment_fault (state t) r es ≡ None → Exchanged (state t) r es m → Keeps (mated_anew t m)
augment_held t r es m k none h = ∥∥₁_map k (λ held. record {
  short = held.short;
  full = held.full;
  kept = augment_keeps (state t) (state (mated_anew t m)) r es held.kept none (augmented_is t r es m h);
})

-- the state of tables with other roots and another blossom
ringed_state : (t : Tables) (roots : List ℕ) (i : ℕ) (b : Option Blossom) → state (ringed_anew t roots i b) ≡ with_blossoms (state t) roots (set (state t).blossoms i (blossom_of b))
ringed_state t roots i b = ap (with_blossoms (state t) roots) (map-set blossom_of t.blossoms i b)

ringed_held : (t : Tables) (roots : List ℕ) (i : ℕ) (b : Option Blossom) (s : State) → state (ringed_anew t roots i b) ≡ s → (Kept (state t) → Kept s) → Keeps t → Keeps (ringed_anew t roots i b)
ringed_held t roots i b s e keeps k = ∥∥₁_map k (λ held. record { short = held.short; full = held.full; kept = subst Kept (sym e) (keeps held.kept) })

module _ (t : Tables) (r : ℕ) (es : List ℕ) (i : ℕ) (b : Option Blossom) (roots : List ℕ) (is : blossom_of b ≡ ring_of (state t) (passed (state t) r es) es) (to : roots ≡ (shrunk (state t) r es i).roots) where
  pub shrunk_is : state (ringed_anew t roots i b) ≡ shrunk (state t) r es i
  shrunk_is = ringed_state t roots i b ∙ ap (λ x. with_blossoms (state t) roots (set (state t).blossoms i x)) is ∙ ap (λ x. with_blossoms (state t) x (set (state t).blossoms i (ring_of (state t) (passed (state t) r es) es))) to

  pub shrink_held : Keeps t → shrink_fault (state t) r es ≡ None → i < 100 → (blossom_at (state t) i).used ≡ false → Keeps (ringed_anew t roots i b)
  shrink_held k none low free = ringed_held t roots i b (shrunk (state t) r es i) shrunk_is (λ kept. shrink_keeps (state t) r es i kept none low free) k

module _ (t : Tables) (p : ℕ) (roots : List ℕ) (to : roots ≡ (dissolved (state t) p).roots) where
  pub dissolved_is : state (ringed_anew t roots (p - 200) None) ≡ dissolved (state t) p
  dissolved_is = ringed_state t roots (p - 200) None ∙ ap (λ x. with_blossoms (state t) x (set (state t).blossoms (p - 200) no_blossom)) to

  pub dissolve_held : Keeps t → dissolve_fault (state t) p ≡ None → Keeps (ringed_anew t roots (p - 200) None)
  dissolve_held k none = ringed_held t roots (p - 200) None (dissolved (state t) p) dissolved_is (λ kept. dissolve_keeps (state t) p no_blossom kept none refl) k

  -- the node is the number of a place
  module _ (none : dissolve_fault (state t) p ≡ None) where
    blossom_root : (leb 200 p && is_root (state t) p) ≡ true
    blossom_root =
        let begun = or_else_none (unless (is_some t.begun) NotBegun) _ none in
        unless_none (leb 200 p && is_root (state t) p) (NotRoot p) (or_else_none (unless (leb 200 p && is_root (state t) p) (NotRoot p)) _ begun.1).0

    pub dissolve_low : Keeps t → p - 200 < 100
    dissolve_low k = elim (cases_lt p 300) [
      | inl l ↦ omega arith
      | inr l ↦ absurd (both_ways (is_root (state t) p) (sym (∥∥₁_elim k (Bool-set _ _) (λ h. no_number (state t) h.kept p l))) (and_parts (leb 200 p) (is_root (state t) p) blossom_root).1)
    ]
