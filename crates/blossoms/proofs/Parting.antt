-- The roots after a dissolve: of each member the first part that holds it. Assumes nothing.
use Rattle.std.proofs.Common.{◌≡◌, ℕ, ◌-◌, ◌<◌, ◌≤◌, Bool, Option, Some, None, unwrap_or, true, false, cond, ◌&&◌, eqb, ltb, List, [], ◌∷◌, sym, refl, ap, ◌∙◌}
use Rattle.std.specs.List.{find}
use Rattle.std.proofs.lemmas.Bool.{eq-eqb, ne_eqb, lt-ltb, le-ltb}
use Rattle.matching.specs.State as model
use Rattle.matching.specs.State.{State, root_at, blossom_at, node_holds}
use Rattle.rings.specs.Dissolve.{holder}
use Rattle.tables.specs.declared.tables.Blossom.{Blossom}
use Rattle.tables.specs.declared.tables.Tables.{Tables}
use Rattle.tables.specs.States.{parts_in, ring_in, blossom_of, state, place}
use Rattle.tables.proofs.Keeping.{blossom_there}
use Rattle.blossoms.specs.Steps.{parted}

part_or : (b : Bool) (p d : ℕ) (o : Option ℕ) → unwrap_or (cond b (Some p) o) d ≡ cond b p (unwrap_or o d)
part_or true p d o = refl
part_or false p d o = refl

module _ (s : State) (v : ℕ) where
  pub holder_found : (ps : List ℕ) → unwrap_or (find (λ q. node_holds s q v) ps) v ≡ holder s ps v
  holder_found [] = refl
  holder_found (p ∷ ps) = part_or (node_holds s p v) p v (find (λ q. node_holds s q v) ps) ∙ ap (cond (node_holds s p v) p) (holder_found ps)

-- the parts of a blossom, by the tables
parts_by : (b : Option Blossom) → (blossom_of b).parts ≡ parts_in (ring_in b)
parts_by None = refl
parts_by (Some b) = refl

pub parts_there : (t : Tables) (i : ℕ) → (blossom_at (state t) i).parts ≡ parts_in (ring_in (place t i))
parts_there t i = ap (λ (b : model.Blossom). b.parts) (blossom_there t i) ∙ parts_by (place t i)

-- the root of one member
module _ (s : State) (p v : ℕ) (l : v < s.members) where
  pub parted_in : root_at s v ≡ p → holder s (blossom_at s (p - 200)).parts v ≡ parted s p v
  parted_in e = sym (ap (λ b. cond (b && eqb (root_at s v) p) (holder s (blossom_at s (p - 200)).parts v) (root_at s v)) (lt-ltb v s.members l)
      ∙ ap (λ b. cond b (holder s (blossom_at s (p - 200)).parts v) (root_at s v)) (eq-eqb (root_at s v) p e))

  pub parted_out : (root_at s v ≡ p → ⊥) → root_at s v ≡ parted s p v
  parted_out d = sym (ap (λ b. cond (b && eqb (root_at s v) p) (holder s (blossom_at s (p - 200)).parts v) (root_at s v)) (lt-ltb v s.members l)
      ∙ ap (λ b. cond b (holder s (blossom_at s (p - 200)).parts v) (root_at s v)) (ne_eqb (root_at s v) p d))

pub parted_past : (s : State) (p v : ℕ) → s.members ≤ v → root_at s v ≡ parted s p v
parted_past s p v l = sym (ap (λ b. cond (b && eqb (root_at s v) p) (holder s (blossom_at s (p - 200)).parts v) (root_at s v)) (le-ltb v s.members l))
