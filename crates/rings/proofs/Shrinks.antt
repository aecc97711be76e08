-- An accepted shrink keeps what every state keeps, and moves the yz of no offer. Assumes nothing.
use Rattle.std.proofs.Common.{◌≡◌, ℕ, ◌+◌, ◌-◌, ◌*◌, ◌%◌, ◌<◌, ◌≤◌, Bool, true, false, cond, ◌&&◌, ◌≢◌, List, length, get_or, sym, refl, ap, ◌∙◌, subst, inl, inr, ⊎_elim, mul_assoc, arith}
use Rattle.std.proofs.lemmas.Bool.{and_from, and_left, both_ways, cases_Bool, cases_eq, cond-true, cond-false, lt-ltb}
use Rattle.matching.specs.State.{State, Blossom, k_in, price_at, root_at, blossom_at, InUse, inside, node_holds, spans, first_of, yz, weight}
use Rattle.matching.specs.Kept.{Kept, Nested, Fair, Node, Ring, Outermost, part_at, bare}
use Rattle.matching.proofs.Nodes.{inside_used}
use Rattle.matching.proofs.Nesting.{parts_smaller}
use Rattle.steps.specs.Adjust.{among}
use Rattle.steps.proofs.Searches.{among_at, among_place}
use Rattle.steps.proofs.Offers.{share}
use Rattle.paths.proofs.Walks.{root_node, root_outermost}
use Rattle.rings.specs.Shrink.{passed, lies_in, shrunk}
use Rattle.rings.specs.Theorems.{ShrinkKeeps, ShrinkStays}
use Rattle.rings.proofs.Places.{root_read, blossom_there, blossom_else, holds_there, holds_else, yz_same, bare_same, used_was, ring_else, kept_placed}
use Rattle.rings.proofs.Closed.{Closed, closed, length_passed, step_at, new_ring, part_root, inside_lies, ring}
use Rattle.rings.proofs.Bares.{ring_bare}
use Rattle.rings.proofs.Parities.{ring_even}

-- the root of a member after the step
abbrev new_root : State → ℕ → List ℕ → ℕ → ℕ → ℕ
new_root s r es i v = cond (lies_in s (passed s r es) v) (200 + i) (root_at s v)

module _ (s : State) (kept : Kept s) (r : ℕ) (es : List ℕ) (i : ℕ) (low : i < 100) (free : (blossom_at s i).used ≡ false) where
  yz_stays : (e : ℕ) → yz (shrunk s r es i) e ≡ yz s e
  yz_stays e = yz_same s (new_root s r es i) i (new_ring s r es) kept.sized.blossoms low e (none (spans s (new_ring s r es) e) ∙ sym unused)
    where
      none : (b : Bool) → ◌≡◌ {A = ℕ} (cond b 0 0) 0
      none true = refl
      none false = refl

      out : (v : ℕ) → inside (blossom_at s i) v ≡ false
      out v = and_left (blossom_at s i).used _ free

      unused : share s e i ≡ 0
      unused = cond-false (spans s (blossom_at s i) e) (blossom_at s i).price 0 (and_left (inside (blossom_at s i) (first_of s e)) _ (out (first_of s e)))

  -- no node has the number of a free place
  away : (p : ℕ) → Node s p → p ≢ 200 + i
  away p (inl l) e = omega (arith, kept.sized.few)
  away p (inr h) e =
      let same : p - 200 ≡ i = omega arith in
      both_ways (blossom_at s i).used free (subst (InUse s) same h.1)

  in_use_else : (h : ℕ) → InUse s h → h ≢ i
  in_use_else h u e = both_ways (blossom_at s i).used free (subst (InUse s) e u)

  module _ (c : Closed s r es) where
    abbrev t : State
    t = shrunk s r es i

    room : i < length s.blossoms
    room = omega (arith, kept.sized.blossoms)

    there : blossom_at t i ≡ new_ring s r es
    there = blossom_there s (new_root s r es i) i (new_ring s r es) room

    else_same : (h : ℕ) → h ≢ i → blossom_at t h ≡ blossom_at s h
    else_same = blossom_else s (new_root s r es i) i (new_ring s r es)

    was : (h : ℕ) → h ≢ i → InUse t h → InUse s h
    was = used_was s (new_root s r es i) i (new_ring s r es)

    carry : (b : Blossom) → Ring s b → Ring t b
    carry b k = ring_else s (new_root s r es i) i (new_ring s r es) b (λ j l. away (part_at b j) (k.nodes j l)) k

    -- what holds of the new blossom and of all that were, holds of all
    by_place : (P : ℕ → Blossom → Type 0) → P i (new_ring s r es) → ((h : ℕ) → InUse s h → P h (blossom_at s h)) → (h : ℕ) → InUse t h → P h (blossom_at t h)
    by_place P new old h u = ⊎_elim
        (λ e. subst (λ (k : ℕ). P k (blossom_at t k)) (sym e) (subst (P i) (sym there) new))
        (λ d. subst (P h) (sym (else_same h d)) (old h (was h d u)))
        (cases_eq h i)

    rings : (h : ℕ) → InUse t h → Ring t (blossom_at t h)
    rings = by_place (λ h b. Ring t b) (carry _ (ring s kept r es c)) (λ h u. carry _ (kept.nested.rings h u))

    -- every part is a node that was
    parts_were : (h : ℕ) → InUse t h → (j : ℕ) → j < length (blossom_at t h).parts → Node s (part_at (blossom_at t h) j)
    parts_were = by_place (λ h b. (j : ℕ) → j < length b.parts → Node s (part_at b j)) (ring s kept r es c).nodes (λ h u. (kept.nested.rings h u).nodes)

    part_outer : (j : ℕ) → j < length (passed s r es) → Outermost s (part_at (new_ring s r es) j)
    part_outer j l = root_outermost s kept _ (part_root s kept r es c j (omega (arith, length_passed s r es)))

    -- the parts of two blossoms, one of which is new
    not_shared : (h j l : ℕ) → InUse s h → j < length (blossom_at s h).parts → l < length (passed s r es) → part_at (blossom_at s h) j ≢ part_at (new_ring s r es) l
    not_shared h j l u lj ll = part_outer l ll h j u lj

    one_parent : (g h j l : ℕ) → InUse t g → InUse t h → j < length (blossom_at t g).parts → l < length (blossom_at t h).parts →
        part_at (blossom_at t g) j ≡ part_at (blossom_at t h) l → g ≡ h
    one_parent g h j l ug uh = by_place
        (λ g b. j < length b.parts → l < length (blossom_at t h).parts → part_at b j ≡ part_at (blossom_at t h) l → g ≡ h)
        (by_place (λ h b. j < length (passed s r es) → l < length b.parts → part_at (new_ring s r es) j ≡ part_at b l → i ≡ h)
        (λ lj ll e. refl)
        (λ h u lj ll e. absurd (not_shared h l j u ll lj (sym e))) h uh)
        (λ g v. by_place (λ h b. j < length (blossom_at s g).parts → l < length b.parts → part_at (blossom_at s g) j ≡ part_at b l → g ≡ h)
        (λ lj ll e. absurd (not_shared g j l v lj ll e))
        (λ h u lj ll e. kept.nested.one_parent g h j l v u lj ll e) h uh)
        g ug

    -- what the new blossom holds has it for its root, and other members keep their root
    root_in : (v : ℕ) → v < s.members → among (root_at s v) (passed s r es) ≡ true → root_at t v ≡ 200 + i
    root_in v l h =
        root_read s (new_root s r es i) i (new_ring s r es) v (omega (arith, kept.sized.few))
        ∙ cond-true (lies_in s (passed s r es) v) (200 + i) (root_at s v) (and_from _ _ (lt-ltb v s.members l) h)

    root_out : (v : ℕ) → v < s.members → among (root_at s v) (passed s r es) ≡ false → root_at t v ≡ root_at s v
    root_out v l h =
        root_read s (new_root s r es i) i (new_ring s r es) v (omega (arith, kept.sized.few))
        ∙ cond-false (lies_in s (passed s r es) v) (200 + i) (root_at s v) (ap (λ (b : Bool). b && among (root_at s v) (passed s r es)) (lt-ltb v s.members l) ∙ h)

    by_root : (P : ℕ → Type 0) (v : ℕ) → v < s.members → (among (root_at s v) (passed s r es) ≡ true → P (200 + i)) → (among (root_at s v) (passed s r es) ≡ false → P (root_at s v)) → P (root_at t v)
    by_root P v l new old = ⊎_elim
        (λ h. subst P (sym (root_in v l h)) (new h))
        (λ h. subst P (sym (root_out v l h)) (old h))
        (cases_Bool (among (root_at s v) (passed s r es)))

    root_was : (v : ℕ) → v < s.members → Node s (root_at s v)
    root_was v l = root_node s kept (root_at s v) (record { member = v; below = l; is = refl })

    new_holds : (v : ℕ) → node_holds t (200 + i) v ≡ inside (new_ring s r es) v
    new_holds = holds_there s (new_root s r es i) i (new_ring s r es) room

    old_holds : (p v : ℕ) → p ≢ 200 + i → node_holds t p v ≡ node_holds s p v
    old_holds = holds_else s (new_root s r es i) i (new_ring s r es)

    root_holds : (v : ℕ) → v < s.members → node_holds t (root_at t v) v ≡ true
    root_holds v l = by_root (λ p. node_holds t p v ≡ true) v l
        (λ h. new_holds v ∙ inside_lies s kept r es c v l ∙ h)
        (λ h. old_holds (root_at s v) v (away (root_at s v) (root_was v l)) ∙ kept.nested.root_holds v l)

    new_outer : Outermost t (200 + i)
    new_outer h j u l e = away (part_at (blossom_at t h) j) (parts_were h u j l) e

    old_outer : (v : ℕ) → v < s.members → among (root_at s v) (passed s r es) ≡ false → Outermost t (root_at s v)
    old_outer v l out h j u = by_place (λ h b. j < length b.parts → part_at b j ≢ root_at s v)
        (λ lj e. both_ways (among (root_at s v) (passed s r es)) out (subst (λ (p : ℕ). among p (passed s r es) ≡ true) e (among_at (passed s r es) j lj)))
        (λ h u lj e. kept.nested.root_outermost v l h j u lj e)
        h u

    -- a node that is a part of nothing now, was so before
    outer_was : (p : ℕ) → Outermost t p → Outermost s p
    outer_was p outer h j u l e =
        let same = sym (else_same h (in_use_else h u)) in
        outer h j (subst (λ (b : Blossom). b.used ≡ true) same u) (subst (λ (b : Blossom). j < length b.parts) same l) (sym (ap (λ (b : Blossom). part_at b j) same) ∙ e)

    root_only : (v p : ℕ) → v < s.members → node_holds t p v ≡ true → Outermost t p → p ≡ root_at t v
    root_only v p l h outer = ⊎_elim
        (λ e.
        let lies = sym (inside_lies s kept r es c v l) ∙ sym (new_holds v) ∙ subst (λ (q : ℕ). node_holds t q v ≡ true) e h in
        e ∙ sym (root_in v l lies))
        (λ d.
        let is = kept.nested.root_only v p l (sym (old_holds p v d) ∙ h) (outer_was p outer) in
        by_root (λ q. p ≡ q) v l
        (λ lies.
        let place = among_place (root_at s v) (passed s r es) lies in
        let same = sym there in
        absurd (outer i place.at (subst (λ (b : Blossom). b.used ≡ true) same refl) (subst (λ (b : Blossom). place.at < length b.parts) same place.there)
        (sym (ap (λ (b : Blossom). part_at b place.at) same) ∙ place.is ∙ sym is)))
        (λ out. is))
        (cases_eq p (200 + i))

    nested : Nested t
    nested = record {
      rings = rings;
      one_parent = one_parent;
      smaller = λ h j u l. parts_smaller t h j kept.rows rings u l;
      root_holds = root_holds;
      root_outermost = λ v l. by_root (Outermost t) v l (λ h. new_outer) (old_outer v l);
      root_only = root_only;
    }

    -- the offers of the walk are tight
    ring_fair : (j : ℕ) → j < length es → yz s (get_or es j 0) ≤ weight s (get_or es j 0)
    ring_fair j l = omega (arith, (step_at s false r es j c.steps l).tight)

    fair : Fair t
    fair = record {
      all = λ e l. omega (arith, yz_stays e, kept.fair.all e l);
      paired = λ e l h. omega (arith, yz_stays e, kept.fair.paired e l h);
      ring = λ h j u l.
          let e = get_or (blossom_at t h).joins j 0 in
          let was-fair = by_place (λ h b. j < length b.joins → yz s (get_or b.joins j 0) ≤ weight s (get_or b.joins j 0)) (ring_fair j) (λ h u lj. kept.fair.ring h j u lj) h u l in
          omega (arith, yz_stays e, was-fair);
    }

    new_small : 0 + 2 * s.floor ≤ 4 * k_in s * s.top
    new_small = omega (arith, kept.small.floor, mul_assoc 2 (k_in s) s.top, mul_assoc 4 (k_in s) s.top)

    same_bare : (b : Blossom) → bare t b ≡ bare s b
    same_bare = bare_same s (new_root s r es i) i (new_ring s r es)

    keeps : Kept t
    keeps = kept_placed s (new_root s r es i) i (new_ring s r es) kept (record {
      begun = c.begun;
      fair = fair;
      nested = nested;
      even = by_place (λ h b. b.price % 2 ≡ 0) refl kept.even;
      one_bare = by_place (λ h b. bare t b ≡ 1) (same_bare (new_ring s r es) ∙ ring_bare s kept r es c) (λ h u. same_bare (blossom_at s h) ∙ kept.one_bare h u);
      one_parity = λ h v w hv. by_place
          (λ h b. inside b v ≡ true → inside b w ≡ true → price_at s v % 2 ≡ price_at s w % 2)
          (ring_even s kept r es c v w) (λ h u. kept.one_parity h v w) h (inside_used (blossom_at t h) v hv) hv;
      small = by_place (λ h b. b.price + 2 * s.floor ≤ 4 * k_in s * s.top) new_small kept.small.blossoms;
    })

pub shrink_keeps : ShrinkKeeps
shrink_keeps s r es i kept none low free = keeps s kept r es i low free (closed s r es kept none)

pub shrink_stays : ShrinkStays
shrink_stays s r es i e kept low free = yz_stays s kept r es i low free e
