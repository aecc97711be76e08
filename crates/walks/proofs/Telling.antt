-- Which nodes are roots, told from the tables. Assumes nothing.
use Rattle.std.proofs.Common.{◌≡◌, ℕ, zero, suc, ◌-◌, ◌<◌, ◌≤◌, Bool, true, false, cond, eqb, ltb, length, get_or, take, Some, sym, refl, ap, ◌∙◌, subst, ⊎_elim, arith}
use lib.ListN.{length-map}
use Rattle.std.proofs.lemmas.List.{get_or-map, get_or-take}
use Rattle.std.proofs.lemmas.Bool.{both_ways, false_from_ne_true, cond_both, eqb-true, eq-eqb}
use Rattle.matching.specs.State.{State, Blossom, first_of, root_at, blossom_at, InUse, inside}
use Rattle.matching.specs.Kept.{Kept}
use Rattle.matching.proofs.Nodes.{inside_used, used_known, holds_cases}
use Rattle.matching.proofs.Nesting.{one_root, part_inside}
use Rattle.steps.proofs.Searches.{some_below_true}
use Rattle.paths.specs.Walk.{is_root}
use Rattle.paths.proofs.Walks.{Root, root_from, root_holds_it}
use Rattle.tables.specs.declared.tables.Link.{Link}
use Rattle.tables.specs.declared.tables.Blossom.{Blossom as Entry}
use Rattle.tables.specs.declared.tables.Tables.{Tables}
use Rattle.tables.specs.States.{joins_in, blossom_of, state, place}
use Rattle.tables.specs.Kept.{Held}
use Rattle.tables.proofs.Keeping.{blossom_there}

-- two tests that pass together are the same
pub alike : (a b : Bool) → (a ≡ true → b ≡ true) → (b ≡ true → a ≡ true) → a ≡ b
alike true b f g = sym (f refl)
alike false true f g = g refl
alike false false f g = refl

module _ (s : State) (kept : Kept s) where
  pub root_by : (p v : ℕ) → v < s.members → root_at s v ≡ p → is_root s p ≡ true
  root_by p v lt e = some_below_true (λ v. eqb (root_at s v) p) s.members v lt (eq-eqb (root_at s v) p e)

  -- a member that is a root holds itself alone
  root_alone : (p : ℕ) → p < 200 → (r : Root s p) → r.member ≡ p
  root_alone p l r = ⊎_elim (λ e. sym e) (λ b. absurd (omega (arith, b.1))) (holds_cases s p r.member (root_holds_it s kept p r.member r.below r.is))

  pub member_root : (p : ℕ) → p < 200 → p < s.members → eqb (root_at s p) p ≡ is_root s p
  member_root p l lt = alike (eqb (root_at s p) p) (is_root s p)
      (λ h. root_by p p lt (eqb-true (root_at s p) p h))
      (λ h. let r = root_from s p h in eq-eqb (root_at s p) p (ap (root_at s) (sym (root_alone p l r)) ∙ r.is))

  pub past_root : (p : ℕ) → p < 200 → s.members ≤ p → false ≡ is_root s p
  past_root p l le = sym (false_from_ne_true (is_root s p) (λ h. let r = root_from s p h in omega (arith, root_alone p l r, r.below)))

  -- a root of 200 and more is a blossom in use
  root_blossom : (p : ℕ) → 200 ≤ p → (r : Root s p) → inside (blossom_at s (p - 200)) r.member ≡ true
  root_blossom p l r = ⊎_elim
      (λ e. absurd (omega (arith, e, r.below, kept.sized.few)))
      (λ b.
      let i = b.0 in
      let q : i ≡ p - 200 = omega (arith, b.1) in
      subst (λ i. inside (blossom_at s i) r.member ≡ true) q b.2)
      (holds_cases s p r.member (root_holds_it s kept p r.member r.below r.is))

  pub no_number : (p : ℕ) → 300 ≤ p → false ≡ is_root s p
  no_number p l = sym (false_from_ne_true (is_root s p) (λ h.
      let r = root_from s p h in
      let known = used_known s (p - 200) (inside_used (blossom_at s (p - 200)) r.member (root_blossom p (omega arith) r)) in
      omega (arith, known, kept.sized.blossoms)))

  pub unused_root : (p : ℕ) → 200 ≤ p → (blossom_at s (p - 200)).used ≡ false → false ≡ is_root s p
  unused_root p l u = sym (false_from_ne_true (is_root s p) (λ h.
      let r = root_from s p h in
      both_ways (blossom_at s (p - 200)).used u (inside_used (blossom_at s (p - 200)) r.member (root_blossom p l r))))

  -- an end of a blossom's first ring offer lies inside it
  pub record FirstJoin (i : ℕ) : Type 0 where
    pub known : get_or (blossom_at s i).joins 0 0 < length s.rows
    pub first_in : first_of s (get_or (blossom_at s i).joins 0 0) < s.members
    pub first_held : inside (blossom_at s i) (first_of s (get_or (blossom_at s i).joins 0 0)) ≡ true

  pub first_join : (i : ℕ) → InUse s i → FirstJoin i
  first_join i u =
      let b = blossom_at s i in
      let ring = kept.nested.rings i u in
      let e = get_or b.joins 0 0 in
      let some : 0 < length b.joins = omega (arith, ring.joins, ring.three) in
      let known = ring.offers 0 some in
      let row = kept.rows e known in
      let next : 1 < length b.parts = omega (arith, ring.three) in
      record {
        known = known;
        first_in = row.first_in;
        first_held = ⊎_elim
            (λ h. part_inside s kept.nested.rings i 0 (first_of s e) u (omega arith) row.first_in h.0)
            (λ h. part_inside s kept.nested.rings i (cond (ltb 1 (length b.parts)) 1 0) (first_of s e) u (cond_both (ltb 1 (length b.parts)) 1 0 (λ j. j < length b.parts) (λ _. next) (λ _. omega arith)) row.first_in h.1)
            (ring.joined 0 some);
      }

  pub blossom_root : (p : ℕ) → 200 ≤ p → (u : InUse s (p - 200)) → eqb (root_at s (first_of s (get_or (blossom_at s (p - 200)).joins 0 0))) p ≡ is_root s p
  blossom_root p l u =
      let f = first_join (p - 200) u in
      let v = first_of s (get_or (blossom_at s (p - 200)).joins 0 0) in
      alike (eqb (root_at s v) p) (is_root s p)
      (λ h. root_by p v f.first_in (eqb-true (root_at s v) p h))
      (λ h. let r = root_from s p h in eq-eqb (root_at s v) p (one_root s (p - 200) v r.member kept f.first_held (root_blossom p l r) ∙ r.is))

-- a blossom's first ring offer, and what a read past the last link gives
abbrev pub no_link : Link
no_link = record { part = 0; join = 0 }

abbrev pub first_join_of : Entry → ℕ
first_join_of b = (get_or b.links 0 no_link).join

module _ (t : Tables) (h : Held t) (i : ℕ) (b : Entry) (is : place t i ≡ Some b) where
  blossom_is : blossom_at (state t) i ≡ blossom_of (Some b)
  blossom_is = blossom_there t i ∙ ap blossom_of is

  in_use : InUse (state t) i
  in_use = ap (λ (c : Blossom). c.used) blossom_is

  -- the first ring offer stands first in its table
  first_offer : get_or (blossom_at (state t) i).joins 0 0 ≡ first_join_of b
  first_offer = ap (λ (c : Blossom). get_or c.joins 0 0) blossom_is ∙ some b.len refl
    where
      ring : 3 ≤ length (blossom_at (state t) i).joins
      ring = let r = h.kept.nested.rings i in_use in omega (arith, r.three, r.joins)

      some : (n : ℕ) → b.len ≡ n → get_or (joins_in (take b.len b.links)) 0 0 ≡ first_join_of b
      some zero e = absurd (omega (arith, ring, ap (λ (c : Blossom). length c.joins) blossom_is, ap (λ n. length (joins_in (take n b.links))) e))
      some (suc n) e =
          let less : 0 < length (take b.len b.links) = omega (arith, ring, ap (λ (c : Blossom). length c.joins) blossom_is, length-map (take b.len b.links) (λ (l : Link). l.join)) in
          get_or-map (λ (l : Link). l.join) (take b.len b.links) 0 no_link 0 less ∙ ap (λ (l : Link). l.join) (get_or-take b.len b.links 0 no_link (omega (arith, e)))

  pub end_told : (p : ℕ) → 200 ≤ p → p - 200 ≡ i → eqb (root_at (state t) (first_of (state t) (first_join_of b))) p ≡ is_root (state t) p
  end_told p l e =
      ap (λ d. eqb (root_at (state t) (first_of (state t) d)) p) (sym first_offer)
      ∙ subst (λ i. eqb (root_at (state t) (first_of (state t) (get_or (blossom_at (state t) i).joins 0 0))) p ≡ is_root (state t) p) e (blossom_root (state t) h.kept p l (subst (InUse (state t)) (sym e) in_use))
