-- Blossoms lie inside roots. Assumes nothing.
use Rattle.std.proofs.Common.{◌≡◌, ℕ, zero, suc, ◌+◌, ◌<◌, ◌≤◌, Bool, true, false, cond, ◌≢◌, ◌⊎◌, length, get_or, sym, refl, ap, ◌∙◌, subst, inl, inr, arith}
use Rattle.std.proofs.lemmas.Bool.{cases_Bool, cases_eq, both_ways}
use Rattle.matching.specs.Rows.{AllSound}
use Rattle.matching.specs.Sums.{count, below}
use Rattle.matching.specs.State.{State, first_of, second_of, blossom_at, InUse, inside, node_holds, root_at}
use Rattle.matching.specs.Kept.{Ring, Nested, Outermost, part_at, size}
use Rattle.matching.specs.Theorems.{OneRoot, PartsSmaller}
use Rattle.matching.proofs.Sums.{length_below, total_below_less}
use Rattle.matching.proofs.Counts.{count_at, count_two, count_most}
use Rattle.matching.proofs.Search.{search_below}
use Rattle.matching.proofs.Nodes.{Part, inside_used, used_known, holds_inside}

-- a node is a part of some blossom in use, or of none
part_or_none : (s : State) (p : ℕ) → Part s p ⊎ Outermost s p
part_or_none s p = elim (search_below (λ i. InUse s i × In i) places (length s.blossoms)) [
  | inl f ↦ inl (record { place = f.0; at = f.2.1.0; used = f.2.0; there = f.2.1.1; is = f.2.1.2 })
  | inr none ↦ inr (λ i j u l e. none i (used_known s i u) (u, (j, l, e)))
]
  where
    In : ℕ → Type 0
    In i = (j : ℕ) × (j < length (blossom_at s i).parts) × (part_at (blossom_at s i) j ≡ p)

    parts : (i : ℕ) → In i ⊎ (In i → ⊥)
    parts i = elim (search_below (λ j. part_at (blossom_at s i) j ≡ p) (λ j. cases_eq (part_at (blossom_at s i) j) p) (length (blossom_at s i).parts)) [
      | inl f ↦ inl f
      | inr none ↦ inr (λ f. none f.0 f.1 f.2)
    ]

    places : (i : ℕ) → (InUse s i × In i) ⊎ (InUse s i × In i → ⊥)
    places i = elim (cases_Bool (blossom_at s i).used) [
      | inr unused ↦ inr (λ f. both_ways (blossom_at s i).used unused f.0)
      | inl u ↦ elim (parts i) [ inl f ↦ inl (u, f) | inr none ↦ inr (λ f. none f.1) ]
    ]

module _ (s : State) (rings : (i : ℕ) → InUse s i → Ring s (blossom_at s i)) where
  -- what a part holds, its blossom holds
  pub part_inside : (i j v : ℕ) → InUse s i → j < length (blossom_at s i).parts → v < s.members → node_holds s (part_at (blossom_at s i) j) v ≡ true → inside (blossom_at s i) v ≡ true
  part_inside i j v u l lt h = go (inside (blossom_at s i) v) refl
    where
      some : 1 ≤ count (λ p. node_holds s p v) (blossom_at s i).parts
      some = count_at (λ p. node_holds s p v) (blossom_at s i).parts j 0 l h

      go : (b : Bool) → inside (blossom_at s i) v ≡ b → b ≡ true
      go true e = refl
      go false e = absurd (let none : ◌≡◌ {A = ℕ} (cond (inside (blossom_at s i) v) 1 0) 0 = ap (λ b. cond b 1 0) e in omega (arith, some, none, (rings i u).split v lt))

  -- no member lies in two parts
  pub parts_apart : (i h j v : ℕ) → InUse s i → h < length (blossom_at s i).parts → j < length (blossom_at s i).parts → h ≢ j → v < s.members →
      node_holds s (part_at (blossom_at s i) h) v ≡ true → node_holds s (part_at (blossom_at s i) j) v ≡ true → ⊥
  parts_apart i h j v u lh lj ne lt eh ej =
      omega (arith, one_most (inside (blossom_at s i) v), (rings i u).split v lt, count_two (λ p. node_holds s p v) (blossom_at s i).parts h j 0 lh lj ne eh ej)
    where
      one_most : (b : Bool) → cond b 1 0 ≤ 1
      one_most true = omega arith
      one_most false = omega arith

  -- each part holds a member: its ring offer ends there
  pub part_member : AllSound s.members s.top s.rows → (i j : ℕ) → InUse s i → j < length (blossom_at s i).parts → (v : ℕ) × (v < s.members) × (node_holds s (part_at (blossom_at s i) j) v ≡ true)
  part_member sound i j u l =
      let r = rings i u in
      let lj : j < length (blossom_at s i).joins = omega (arith, r.joins) in
      let row = sound (get_or (blossom_at s i).joins j 0) (r.offers j lj) in
      elim (r.joined j lj) [
        | inl h ↦ (first_of s (get_or (blossom_at s i).joins j 0), row.first_in, h.0)
        | inr h ↦ (second_of s (get_or (blossom_at s i).joins j 0), row.second_in, h.0)
      ]

  -- a part holds fewer members than its blossom, since the next part holds some
  pub part_smaller : AllSound s.members s.top s.rows → (i j : ℕ) → InUse s i → j < length (blossom_at s i).parts → size s (part_at (blossom_at s i) j) < size s (200 + i)
  part_smaller sound i j u l = elim (cases_eq j 0) [
    | inl e ↦ by 1 (omega (arith, (rings i u).three)) (λ q. omega arith)
    | inr d ↦ by 0 (omega (arith, (rings i u).three)) (λ q. d (sym q))
  ]
    where
      le : (x y : Bool) → (x ≡ true → y ≡ true) → cond x 1 0 ≤ cond y 1 0
      le true y h = let e : ◌≡◌ {A = ℕ} (cond y 1 0) 1 = ap (λ b. cond b 1 0) (h refl) in omega arith
      le false y h = omega arith

      less : (x y : Bool) → (x ≡ true → ⊥) → y ≡ true → cond x 1 0 < cond y 1 0
      less true y h e = absurd (h refl)
      less false y h e = let q : ◌≡◌ {A = ℕ} (cond y 1 0) 1 = ap (λ b. cond b 1 0) e in omega arith

      by : (h : ℕ) → h < length (blossom_at s i).parts → h ≢ j → size s (part_at (blossom_at s i) j) < size s (200 + i)
      by h lh ne =
          let m = part_member sound i h u lh in
          total_below_less (λ v. cond (node_holds s (part_at (blossom_at s i) j) v) 1 0) (λ v. cond (node_holds s (200 + i) v) 1 0) m.0 s.members m.1
          (less (node_holds s (part_at (blossom_at s i) j) m.0) (node_holds s (200 + i) m.0)
          (λ e. parts_apart i h j m.0 u lh l ne m.1 m.2 e)
          (holds_inside s i m.0 ∙ part_inside i h m.0 u lh m.1 m.2))
          (λ v lt. le (node_holds s (part_at (blossom_at s i) j) v) (node_holds s (200 + i) v) (λ e. holds_inside s i v ∙ part_inside i j v u l lt e))

module _ (s : State) (nested : Nested s) where
  -- the blossom around a part holds what the part holds, and more
  around_holds : (p v : ℕ) (q : Part s p) → v < s.members → node_holds s p v ≡ true → node_holds s (200 + q.place) v ≡ true
  around_holds p v q lt h =
      holds_inside s q.place v
      ∙ part_inside s nested.rings q.place q.at v q.used q.there lt (subst (λ x. node_holds s x v ≡ true) (sym q.is) h)

  around_more : (p : ℕ) (q : Part s p) → size s p < size s (200 + q.place)
  around_more p q = subst (λ x. size s x < size s (200 + q.place)) q.is (nested.smaller q.place q.at q.used q.there)

  size_most : (p : ℕ) → size s p ≤ s.members
  size_most p = omega (arith, count_most (node_holds s p) (below s.members), length_below s.members)

  -- two members of a node lie in one root: the nodes around it hold more and more members, and so come to an end
  up : (more p v w : ℕ) → s.members ≤ size s p + more → v < s.members → w < s.members → node_holds s p v ≡ true → node_holds s p w ≡ true → root_at s v ≡ root_at s w
  up zero p v w room lv lw hv hw = elim (part_or_none s p) [
    | inr free ↦ sym (nested.root_only v p lv hv free) ∙ nested.root_only w p lw hw free
    | inl q ↦ absurd (omega (arith, around_more p q, size_most (200 + q.place)))
  ]
  up (suc more) p v w room lv lw hv hw = elim (part_or_none s p) [
    | inr free ↦ sym (nested.root_only v p lv hv free) ∙ nested.root_only w p lw hw free
    | inl q ↦ up more (200 + q.place) v w (omega (arith, around_more p q)) lv lw (around_holds p v q lv hv) (around_holds p w q lw hw)
  ]

pub one_root : OneRoot
one_root s i v w kept hv hw =
    let ring = kept.nested.rings i (inside_used (blossom_at s i) v hv) in
    up s kept.nested s.members (200 + i) v w (omega arith) (ring.members v hv) (ring.members w hw) (holds_inside s i v ∙ hv) (holds_inside s i w ∙ hw)

pub parts_smaller : PartsSmaller
parts_smaller s i j sound rings u l = part_smaller s rings sound i j u l
