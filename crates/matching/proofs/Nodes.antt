-- Which members a node holds. Assumes nothing.
use Rattle.std.proofs.Common.{◌≡◌, ℕ, ◌+◌, ◌-◌, ◌<◌, true, false, eqb, ltb, ◌⊎◌, length, get_or, sym, refl, ap, ◌∙◌, inl, inr, arith}
use mathlib.Core.Path.{fun_ext}
use Rattle.std.proofs.lemmas.List.{get_or_past}
use Rattle.std.proofs.lemmas.Bool.{and_parts, cases_lt, cond-true, cond-false, lt-ltb, le-ltb, eqb-true, eq-eqb, false≢true}
use Rattle.matching.specs.Sums.{count, below}
use Rattle.matching.specs.State.{State, Blossom, no_blossom, blossom_at, InUse, inside, node_holds}
use Rattle.matching.specs.Kept.{Outermost, part_at, size}

pub inside_used : (b : Blossom) (v : ℕ) → inside b v ≡ true → b.used ≡ true
inside_used b v h = (and_parts b.used (get_or b.holds v false) h).0

module _ (s : State) where
  -- a place past the last is not in use
  pub used_known : (i : ℕ) → InUse s i → i < length s.blossoms
  used_known i u = elim (cases_lt i (length s.blossoms)) [
    | inl l ↦ l
    | inr l ↦ absurd (false≢true (sym (ap (λ (b : Blossom). b.used) (get_or_past s.blossoms i no_blossom l)) ∙ u))
  ]

  pub holds_itself : (v : ℕ) → v < 200 → node_holds s v v ≡ true
  holds_itself v l = cond-true (ltb v 200) (eqb v v) (inside (blossom_at s (v - 200)) v) (lt-ltb v 200 l) ∙ eq-eqb v v refl

  pub holds_inside : (i v : ℕ) → node_holds s (200 + i) v ≡ inside (blossom_at s i) v
  holds_inside i v =
      cond-false (ltb (200 + i) 200) (eqb (200 + i) v) (inside (blossom_at s (200 + i - 200)) v) (le-ltb (200 + i) 200 (omega arith))
      ∙ ap (λ j. inside (blossom_at s j) v) (let e : 200 + i - 200 ≡ i = omega arith in e)

  -- a member alone holds itself only
  pub node_alone : (p v : ℕ) → p < 200 → node_holds s p v ≡ true → p ≡ v
  node_alone p v l h = eqb-true p v (sym (cond-true (ltb p 200) (eqb p v) (inside (blossom_at s (p - 200)) v) (lt-ltb p 200 l)) ∙ h)

  -- a node that holds a member is that member, or a blossom
  pub holds_cases : (p v : ℕ) → node_holds s p v ≡ true → (p ≡ v) ⊎ ((i : ℕ) × (p ≡ 200 + i) × (inside (blossom_at s i) v ≡ true))
  holds_cases p v h = elim (cases_lt p 200) [
    | inl l ↦ inl (node_alone p v l h)
    | inr l ↦ inr (p - 200, omega arith, sym (cond-false (ltb p 200) (eqb p v) (inside (blossom_at s (p - 200)) v) (le-ltb p 200 l)) ∙ h)
  ]

  pub size_inside : (i : ℕ) → size s (200 + i) ≡ count (inside (blossom_at s i)) (below s.members)
  size_inside i = ap (λ p. count p (below s.members)) (fun_ext (holds_inside i))

-- the node p is a part of a blossom in use
pub record Part (s : State) (p : ℕ) : Type 0 where
  pub place : ℕ
  pub at : ℕ
  pub used : InUse s place
  pub there : at < length (blossom_at s place).parts
  pub is : part_at (blossom_at s place) at ≡ p

pub part_not : (s : State) (p : ℕ) → Part s p → Outermost s p → ⊥
part_not s p i free = free i.place i.at i.used i.there i.is
