-- The members and the roots of the blossom that a shrink makes. Assumes nothing.
use Rattle.std.proofs.Common.{◌≡◌, ℕ, Bool, true, false, cond, ◌&&◌, ltb, List, map, length, get_or, sym, ap, ◌∙◌, ⊎_elim}
use mathlib.Core.Logic.{∥∥₁_elim}
use native.Mathlib.Nat.{ℕ_set}
use Rattle.std.proofs.lemmas.Bool.{cases_lt, le-ltb}
use Rattle.matching.specs.State as model
use Rattle.matching.specs.State.{root_at}
use Rattle.matching.specs.Sums.{below}
use Rattle.steps.specs.Adjust.{among}
use Rattle.rings.specs.Shrink.{lies_in, ring_of}
use Rattle.tables.specs.declared.tables.Tables.{Tables}
use Rattle.tables.specs.States.{blossom_of, state}
use lib.ListN.{length-map}
use Rattle.tables.specs.Kept.{Keeps}
use Rattle.tables.proofs.Keeping.{root_low}
use Rattle.blossoms.specs.Steps.{Marks}
use Rattle.blossoms.proofs.Filling.{placed_same, getD_placed}

pub places_long : (t : Tables) → Keeps t → length t.blossoms ≡ 100
places_long t k = ∥∥₁_elim k (ℕ_set _ _) (λ h. sym (length-map t.blossoms blossom_of) ∙ h.kept.sized.blossoms)

module _ (t : Tables) (k : Keeps t) (ps : List ℕ) (marks : List Bool) (marked : Marks marks ps) where
  lies : (v : ℕ) → (ltb v t.members && get_or marks (root_at (state t) v) false) ≡ lies_in (state t) ps v
  lies v = ⊎_elim
      (λ l. ap (λ b. ltb v t.members && b) (marked (root_at (state t) v) (root_low t k v l)))
      (λ l.
      ap (λ b. b && get_or marks (root_at (state t) v) false) (le-ltb v t.members l)
      ∙ sym (ap (λ b. b && among (root_at (state t) v) ps) (le-ltb v t.members l)))
      (cases_lt v t.members)

  module _ (holds : List Bool) (is : holds ≡ map (λ v. ltb v t.members && get_or marks (root_at (state t) v) false) (below 200)) where
    pub holds_is : holds ≡ map (lies_in (state t) ps) (below 200)
    holds_is = is ∙ placed_same (λ v. ltb v t.members && get_or marks (root_at (state t) v) false) (lies_in (state t) ps) 200 false (λ v _. lies v)

    pub roots_is : (p : ℕ) → map (λ v. cond (get_or holds v false) p (root_at (state t) v)) (below 200) ≡ map (λ v. cond (lies_in (state t) ps v) p (root_at (state t) v)) (below 200)
    roots_is p = placed_same (λ v. cond (get_or holds v false) p (root_at (state t) v)) (λ v. cond (lies_in (state t) ps v) p (root_at (state t) v)) 200 0
        (λ v l. ap (λ (h : List Bool). cond (get_or h v false) p (root_at (state t) v)) holds_is ∙ ap (λ b. cond b p (root_at (state t) v)) (getD_placed (lies_in (state t) ps) 200 v false l))

-- a blossom by its tables
pub ring_told : (s : model.State) (ps es parts joins : List ℕ) (holds : List Bool) → parts ≡ ps → joins ≡ es → holds ≡ map (lies_in s ps) (below 200) →
    ◌≡◌ {A = model.Blossom} (record { used = true; price = 0; parts = parts; joins = joins; holds = holds }) (ring_of s ps es)
ring_told s ps es parts joins holds p j h =
    ap (λ (x : List ℕ). record { used = true; price = 0; parts = x; joins = joins; holds = holds }) p
    ∙ ap (λ (x : List ℕ). record { used = true; price = 0; parts = ps; joins = x; holds = holds }) j
    ∙ ap (λ (x : List Bool). record { used = true; price = 0; parts = ps; joins = es; holds = x }) h
