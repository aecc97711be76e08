-- Two nodes that share a member lie one inside the other. Assumes nothing.
use Rattle.std.proofs.Common.{◌≡◌, ℕ, zero, suc, ◌<◌, ◌≤◌, Bool, true, false, ◌⊎◌, sym, refl, ◌∙◌, subst, inl, inr, ⊎_elim, arith}
use Rattle.matching.specs.State.{State, node_holds}
use Rattle.matching.specs.Kept.{Node, size}
use Rattle.matching.specs.Sums.{below}
use Rattle.matching.proofs.Sums.{total_zero, total_below_less, total_below_le}
use Rattle.paths.specs.Bare.{Link, ring}
use Rattle.paths.proofs.Lists.{In, bit, crowd_find, bit_of}
use Rattle.paths.proofs.Rings.{IsBlossom, Rings, Lies, same, down}
use Rattle.paths.proofs.Laid.{part_holds}

bit_mono : (a b : Bool) → (a ≡ true → b ≡ true) → bit a ≤ bit b
bit_mono true b h = let e = bit_of b (h refl) in omega arith
bit_mono false b h = omega arith

pub size_pos : (s : State) (p v : ℕ) → v < s.members → node_holds s p v ≡ true → 0 < size s p
size_pos s p v l h =
    let more = total_below_less (λ k. 0) (λ k. bit (node_holds s p k)) v s.members l (omega (arith, bit_of _ h)) (λ k z. omega arith) in
    omega (arith, more, total_zero (below s.members))

-- the same as Lies, from the inside out
data Up (s : State) (p : ℕ) : ℕ → Type 0 where
  top : Up s p p
  up : {c : ℕ} (d : ℕ) (y : Link) → IsBlossom s d → In y (ring s d) → y.part ≡ c → Up s p d → Up s p c

snoc : (s : State) (p : ℕ) (x : Link) → IsBlossom s p → In x (ring s p) → {a c : ℕ} → Up s a c → a ≡ x.part → Up s p c
snoc s p x b i top q = up p x b i (sym q) top
snoc s p x b i (up d y b' i' q' u) q = up d y b' i' q' (snoc s p x b i u q)

up_of : {s : State} {c p : ℕ} → Lies s c p → Up s p c
up_of same = top
up_of {s} (down {p = p} x b i w) = snoc s p x b i (up_of w) refl

part_lies : {s : State} {d p : ℕ} (y : Link) → IsBlossom s d → In y (ring s d) → Lies s d p → Lies s y.part p
part_lies y b i same = down y b i same
part_lies y b i (down x b' i' w) = down x b' i' (part_lies y b i w)

lies_of : {s : State} {p c : ℕ} → Up s p c → Lies s c p
lies_of top = same
lies_of {s} {p} (up d y b i q u) = subst (λ (z : ℕ). Lies s z p) q (part_lies y b i (lies_of u))

up_cases : {s : State} {p c : ℕ} → Up s p c → (c ≡ p) ⊎ ((d : ℕ) × (y : Link) × IsBlossom s d × In y (ring s d) × (y.part ≡ c) × Up s p d)
up_cases top = inl refl
up_cases (up d y b i q u) = inr (d, y, b, i, q, u)

-- what is a part of nothing lies in itself alone
pub root_lies : {s : State} {r p : ℕ} → Lies s r p → ((d : ℕ) (y : Link) → IsBlossom s d → In y (ring s d) → y.part ≡ r → ⊥) → r ≡ p
root_lies w free = ⊎_elim (λ q. q) (λ r. absurd (free r.0 r.1 r.2 r.3 r.4)) (up_cases (up_of w))

module _ (s : State) (nest : Rings s) where
  -- a node that holds v has v at its bottom
  down_to : (k p v : ℕ) → size s p ≤ k → Node s p → node_holds s p v ≡ true → Lies s v p
  down_to zero p v le node h = absurd (omega (arith, size_pos s p v (nest.below p v node h) h))
  down_to (suc k) p v le (inl a) h = subst (λ (z : ℕ). Lies s z p) (sym (nest.alone p v (omega (arith, nest.few)) h)) same
  down_to (suc k) p v le (inr b) h =
      let r = nest.rings p b in
      let e = bit_of _ h in
      let f = crowd_find s (ring s p) v (omega (arith, r.splits v)) in
      let lt = nest.smaller p f.0 b f.1 in
      down f.0 b f.1 (down_to k f.0.part v (omega arith) (r.nodes _ f.1) f.2)

  share : {p q v : ℕ} → Up s p v → Up s q v → Lies s p q ⊎ Lies s q p
  share top u = inl (lies_of u)
  share {p} {q} (up d y b i e u) w = elim (up_cases w) [
    | inl is ↦ inr (subst (λ (z : ℕ). Lies s z p) (e ∙ is) (part_lies y b i (lies_of u)))
    | inr r ↦ let one : r.0 ≡ d = nest.once _ _ r.1 y r.2 b r.3 i (r.4 ∙ sym e) in share u (subst (λ (z : ℕ). Up s q z) one r.5)
  ]

  pub laminar : (p q v : ℕ) → Node s p → Node s q → node_holds s p v ≡ true → node_holds s q v ≡ true → Lies s p q ⊎ Lies s q p
  laminar p q v a b hp hq = share (up_of (down_to (size s p) p v (omega arith) a hp)) (up_of (down_to (size s q) q v (omega arith) b hq))

  -- what lies in p is held by p
  pub lies_holds : {c p : ℕ} → Lies s c p → (v : ℕ) → node_holds s c v ≡ true → node_holds s p v ≡ true
  lies_holds same v h = h
  lies_holds (down {p = p} x b i w) v h = part_holds s p (nest.rings p b) x i v (lies_holds w v h)

  lies_size : {c p : ℕ} → Lies s c p → (c ≡ p) ⊎ (size s c < size s p)
  lies_size same = inl refl
  lies_size (down {p = p} x b i w) =
      let l = nest.smaller p x b i in
      inr (elim (lies_size w) [ inl q ↦ subst (λ (z : ℕ). size s z < size s p) (sym q) l | inr k ↦ omega arith ])

  -- a node whose members are all in p lies in p
  pub lies_from : (c p v : ℕ) → Node s c → Node s p → node_holds s c v ≡ true → ((w : ℕ) → node_holds s c w ≡ true → node_holds s p w ≡ true) → Lies s c p
  lies_from c p v node-c node-p h all = elim (laminar c p v node-c node-p h (all v h)) [
    | inl w ↦ w
    | inr w ↦ elim (lies_size w) [
      | inl q ↦ subst (λ (z : ℕ). Lies s c z) (sym q) same
      | inr lt ↦ absurd (omega (arith, total_below_le (λ z. bit (node_holds s c z)) (λ z. bit (node_holds s p z)) s.members (λ z l. bit_mono _ _ (all z))))
    ]
  ]
