-- The law of laying bare one member of one node. Assumes nothing.
use Rattle.std.proofs.Common.{◌≡◌, ℕ, ◌+◌, ◌-◌, ◌<◌, Bool, true, false, cond, not, ◌&&◌, eqb, List, [], Some, None, Option, sym, refl, ap, ◌∙◌, subst, inl, inr, arith}
use Rattle.std.proofs.lemmas.Bool.{and_parts, and_from, not-true, not_from_false, both_ways, cases_eq, cases_Bool, eq-eqb, ne_eqb}
use Rattle.matching.specs.Mates.{mate}
use Rattle.matching.specs.Sums.{count, below}
use Rattle.matching.specs.State.{State, Blossom, first_of, second_of, blossom_at, InUse, inside, node_holds}
use Rattle.matching.specs.Kept.{met, bare}
use Rattle.matching.proofs.Sums.{total_below_same, point}
use Rattle.matching.proofs.Nodes.{holds_inside}
use Rattle.paths.specs.Augment.{with_mates}
use Rattle.paths.specs.Theorems.{BareLaw, PairedWithin}
use Rattle.paths.proofs.Lists.{here, cons_each, bit_no, bit_le1}
use Rattle.paths.proofs.Rings.{IsBlossom, Rings, rings_of, place_of, holds_blossom}
use Rattle.paths.proofs.Laid.{did, OneBare, PairedIn, Inside}
use Rattle.paths.proofs.Nest.{lies_from, lies_holds}

-- where one number below n passes and no other, they count 1
pub count_one : (f : ℕ → Bool) (n v : ℕ) → v < n → f v ≡ true → ((u : ℕ) → u < n → f u ≡ true → u ≡ v) → count f (below n) ≡ 1
count_one f n v lt h only = total_below_same (λ u. cond (f u) 1 0) (λ u. cond (eqb v u) 1 0) n each ∙ point (λ u. 1) v n lt
  where
    each : (u : ℕ) → u < n → ◌≡◌ {A = ℕ} (cond (f u) 1 0) (cond (eqb v u) 1 0)
    each u l = ap (λ b. cond b 1 0) (elim (cases_eq v u) [
      | inl e ↦ ap f (sym e) ∙ h ∙ sym (eq-eqb v u e)
      | inr d ↦ elim (cases_Bool (f u)) [ inl t ↦ absurd (d (sym (only u l t))) | inr z ↦ z ∙ sym (ne_eqb v u d) ]
    ])

-- the blossom at place i, as a node
pub node_of : (s : State) (i : ℕ) → InUse s i → IsBlossom s (200 + i)
node_of s i u = (omega arith, subst (λ (k : ℕ). InUse s k) (let e : i ≡ 200 + i - 200 = omega arith in e) u)

-- the blossom at place i with the mates m
module _ (s : State) (m : List (Option ℕ)) (i : ℕ) where
  abbrev bl : Blossom
  bl = blossom_at s i

  met_inside : (v : ℕ) → Inside s m (200 + i) v → met s bl (mate m v) ≡ true
  met_inside v r =
      ap (met s bl) r.by
      ∙ and_from (inside bl (first_of s r.offer)) (inside bl (second_of s r.offer))
      (sym (holds_inside s i (first_of s r.offer)) ∙ r.first) (sym (holds_inside s i (second_of s r.offer)) ∙ r.second)

  unmet_leaves : (o : Option ℕ) → ((e : ℕ) → o ≡ Some e → node_holds s (200 + i) (first_of s e) ≡ true → node_holds s (200 + i) (second_of s e) ≡ true → ⊥) → met s bl o ≡ false
  unmet_leaves None h = refl
  unmet_leaves (Some e) h = elim (cases_Bool (met s bl (Some e))) [
    | inl t ↦ let both = and_parts (inside bl (first_of s e)) (inside bl (second_of s e)) t in
        absurd (h e refl (holds_inside s i (first_of s e) ∙ both.0) (holds_inside s i (second_of s e) ∙ both.1))
    | inr f ↦ f
  ]

  -- where one member is not paired inside it and every other one is, it has one bare member
  pub bare_one : Rings s → InUse s i → OneBare s m (200 + i) → bare (with_mates s m) bl ≡ 1
  bare_one nest u r = count_one (λ v. inside bl v && not (met s bl (mate m v))) s.members r.member (nest.below (200 + i) r.member (inr (node_of s i u)) r.held) here_bare only
    where
      here_bare : (inside bl r.member && not (met s bl (mate m r.member))) ≡ true
      here_bare = and_from (inside bl r.member) (not (met s bl (mate m r.member)))
          (sym (holds_inside s i r.member) ∙ r.held) (not_from_false (met s bl (mate m r.member)) (unmet_leaves (mate m r.member) r.leaves))

      only : (v : ℕ) → v < s.members → (inside bl v && not (met s bl (mate m v))) ≡ true → v ≡ r.member
      only v l t = elim (cases_eq v r.member) [
        | inl e ↦ e
        | inr d ↦ let both = and_parts (inside bl v) (not (met s bl (mate m v))) t in
            absurd (both_ways (met s bl (mate m v)) (not-true (met s bl (mate m v)) both.1) (met_inside v (r.others v (holds_inside s i v ∙ both.0) d)))
      ]

paired_within : (s : State) → Rings s → (m : List (Option ℕ)) (p v : ℕ) → PairedIn s m p v → PairedWithin s m p v
paired_within s nest m p v r =
    let n = r.inner.blossom in
    let b = r.inner.is in
    let at = place_of (blossom_at s (n - 200)).parts (blossom_at s (n - 200)).joins r.inner.link r.inner.rings in
    record {
      offer = r.offer;
      by = r.by;
      names = r.ends;
      first = r.first;
      second = r.second;
      first_in = r.inner.first;
      second_in = r.inner.second;
      place = n - 200;
      within = record { used = b.1; holds = λ w h. lies_holds s nest r.inner.within w (holds_blossom s n w b.0 ∙ h) };
      at = at.at;
      there = at.joins;
      rings = at.offer ∙ r.inner.offers;
    }

pub law : BareLaw
law s p u m m' kept len node held laid =
    let nest = rings_of s kept in
    let d = did s nest laid (omega (arith, nest.few)) (cons_each _ (record { node = p; member = u }) [] (node, held) (λ y i. elim i [ ])) (λ v. omega (arith, bit_le1 (node_holds s p v))) in
    let b = d.bare (record { node = p; member = u }) here in
    record {
      outside = λ v h. d.outside v (omega (arith, bit_no _ h));
      kept = b.kept;
      others = λ v h ne. paired_within s nest m' p v (b.others v h ne);
      one_bare = λ leaves i w.
          let c = node_of s i w.used in
          let v = nest.some (200 + i) c in
          let lies = lies_from s nest (200 + i) p v.0 (inr c) node v.1 (λ z h. w.holds z (sym (holds_inside s i z) ∙ h)) in
          bare_one s m' i nest w.used (b.inside leaves (200 + i) c lies);
    }
