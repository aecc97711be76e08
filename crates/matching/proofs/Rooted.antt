-- States whose members all lie in one blossom. Assumes nothing.
use Rattle.std.proofs.Common.{◌≡◌, ℕ, ◌+◌, ◌%◌, ◌<◌, true, ◌⊎◌, length, sym, ap, ◌∙◌, subst, inl, inr, arith}
use Rattle.matching.specs.State.{State, price_at, blossom_at, InUse, inside, node_holds}
use Rattle.matching.specs.Kept.{Ring, Outermost, part_at}
use Rattle.matching.proofs.Nodes.{Part, part_not, holds_cases, inside_used}

-- where all members lie in the blossom at place t, and it alone is no part
pub only_root : (s : State) (t : ℕ) → ((v : ℕ) → v < s.members → Part s v) → ((i : ℕ) → InUse s i → (i ≡ t) ⊎ Part s (200 + i)) →
    (v p : ℕ) → v < s.members → node_holds s p v ≡ true → Outermost s p → p ≡ 200 + t
only_root s t members places v p lt h free = elim (holds_cases s p v h) [
  | inl same ↦ absurd (part_not s p (subst (Part s) (sym same) (members v lt)) free)
  | inr b ↦ elim (places b.0 (inside_used (blossom_at s b.0) v b.2)) [
    | inl e ↦ omega (arith, b.1)
    | inr i ↦ absurd (part_not s p (subst (Part s) (sym b.1) i) free)
  ]
]

-- a rule that tells the place of a node's blossom from the node
pub parent_by : (s : State) (parent : ℕ → ℕ) → ((i : ℕ) → InUse s i → (j : ℕ) → j < length (blossom_at s i).parts → parent (part_at (blossom_at s i) j) ≡ i) →
    (h i j l : ℕ) → InUse s h → InUse s i → j < length (blossom_at s h).parts → l < length (blossom_at s i).parts →
    part_at (blossom_at s h) j ≡ part_at (blossom_at s i) l → h ≡ i
parent_by s parent tells h i j l u w lj ll e = sym (tells h u j lj) ∙ ap parent e ∙ tells i w l ll

-- where all prices have one parity
pub parity_by : (s : State) (c : ℕ) → ((i : ℕ) → InUse s i → Ring s (blossom_at s i)) → ((v : ℕ) → v < s.members → price_at s v % 2 ≡ c) →
    (i v w : ℕ) → inside (blossom_at s i) v ≡ true → inside (blossom_at s i) w ≡ true → price_at s v % 2 ≡ price_at s w % 2
parity_by s c rings all i v w hv hw =
    let r = rings i (inside_used (blossom_at s i) v hv) in
    all v (r.members v hv) ∙ sym (all w (r.members w hw))
