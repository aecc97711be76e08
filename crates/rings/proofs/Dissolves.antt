-- An accepted dissolve keeps what every state keeps, and moves the yz of no offer. Assumes nothing.
use Rattle.std.proofs.Common.{◌≡◌, ℕ, suc, ◌+◌, ◌-◌, ◌*◌, ◌%◌, ◌<◌, ◌≤◌, Bool, true, false, cond, ◌&&◌, eqb, ltb, leb, ◌≢◌, List, [], ◌∷◌, length, get_or, is_some, None, sym, refl, ap, ◌∙◌, subst, inl, inr, ⊎_elim, arith}
use Rattle.std.proofs.lemmas.Bool.{and_from, and_parts, both_ways, cases_Bool, cases_eq, cond-true, cond-false, lt-ltb, leb-true, eqb-true, eq-eqb, ne_eqb}
use Rattle.faults.specs.declared.layers.BoardFault.TheVariants.{NotBegun, NotRoot, Priced}
use Rattle.faults.specs.Checks.{unless}
use Rattle.matching.specs.Sums.{count}
use Rattle.matching.specs.State.{State, Blossom, k_in, price_at, root_at, blossom_at, InUse, inside, node_holds, spans, first_of, second_of, yz, weight}
use Rattle.matching.specs.Kept.{Kept, Nested, Fair, Ring, Outermost, part_at, bare}
use Rattle.matching.proofs.Sums.{total_nil, total_cons}
use Rattle.matching.proofs.Nodes.{inside_used, used_known}
use Rattle.matching.proofs.Nesting.{parts_smaller, part_inside, parts_apart}
use Rattle.steps.specs.Adjust.{among}
use Rattle.steps.proofs.Searches.{or_else_none, unless_none, among_at, among_place}
use Rattle.paths.specs.Walk.{is_root}
use Rattle.paths.proofs.Rings.{holds_blossom}
use Rattle.paths.proofs.Walks.{Root, root_from, root_node, root_outermost, root_of_held, root_holds_it}
use Rattle.rings.specs.Dissolve.{dissolve_fault, holder, dissolved_leaving}
use Rattle.rings.specs.Theorems.{DissolveKeeps, DissolveStays}
use Rattle.rings.proofs.Places.{root_read, blossom_there, blossom_else, holds_there, holds_else, yz_same, bare_same, used_else, used_was, ring_else, kept_placed}

-- the checks of a dissolve, one by one
record Ripe (s : State) (p : ℕ) : Type 0 where
  begun : is_some s.begun ≡ true
  blossom : 200 ≤ p
  root : Root s p
  unpriced : (blossom_at s (p - 200)).price ≡ 0

ripe : (s : State) (p : ℕ) → dissolve_fault s p ≡ None → Ripe s p
ripe s p h =
    let a = or_else_none (unless (is_some s.begun) NotBegun) _ h in
    let b = or_else_none (unless (leb 200 p && is_root s p) (NotRoot p)) _ a.1 in
    let c = and_parts (leb 200 p) (is_root s p) (unless_none (leb 200 p && is_root s p) (NotRoot p) b.0) in
    record {
      begun = unless_none (is_some s.begun) NotBegun a.0;
      blossom = leb-true 200 p c.0;
      root = root_from s p c.1;
      unpriced = eqb-true _ _ (unless_none (eqb (blossom_at s (p - 200)).price 0) (Priced p) b.1);
    }

-- the holder of v stands among the parts, and holds it
record Held (s : State) (qs : List ℕ) (v : ℕ) : Type 0 where
  at : ℕ
  there : at < length qs
  is : get_or qs at 0 ≡ holder s qs v
  holds : node_holds s (get_or qs at 0) v ≡ true

held : (s : State) (qs : List ℕ) (v : ℕ) → 1 ≤ count (λ q. node_holds s q v) qs → Held s qs v
held s [] v some = absurd (omega (arith, total_nil (λ q. cond (node_holds s q v) 1 0)))
held s (q ∷ qs) v some = elim (cases_Bool (node_holds s q v)) [
  | inl h ↦ record { at = 0; there = omega arith; is = sym (cond-true (node_holds s q v) q (holder s qs v) h); holds = h }
  | inr h ↦
      let gone : ◌≡◌ {A = ℕ} (cond (node_holds s q v) 1 0) 0 = ap (λ b. cond b 1 0) h in
      let r = held s qs v (omega (arith, gone, total_cons (λ q. cond (node_holds s q v) 1 0) q qs)) in
      record { at = suc r.at; there = omega (arith, r.there); is = r.is ∙ sym (cond-false (node_holds s q v) q (holder s qs v) h); holds = r.holds }
]

-- the root of a member after the step
abbrev new_root : State → ℕ → ℕ → ℕ
new_root s p v = cond (ltb v s.members && eqb (root_at s v) p) (holder s (blossom_at s (p - 200)).parts v) (root_at s v)

-- f is what is left at the place
module _ (s : State) (kept : Kept s) (p : ℕ) (r : Ripe s p) (f : Blossom) (off : f.used ≡ false) where
  abbrev i : ℕ
  i = p - 200

  abbrev b : Blossom
  b = blossom_at s i

  abbrev t : State
  t = dissolved_leaving s p f

  is_p : 200 + i ≡ p
  is_p = omega (arith, r.blossom)

  used : InUse s i
  used = ⊎_elim (λ l. absurd (omega (arith, r.blossom, kept.sized.few))) (λ h. h.1) (root_node s kept p r.root)

  room : i < length s.blossoms
  room = used_known s i used

  nothing_inside : (v : ℕ) → inside f v ≡ false
  nothing_inside v = ap (λ (x : Bool). x && get_or f.holds v false) off

  spans_none : (e : ℕ) → spans s f e ≡ false
  spans_none e = ap (λ (x : Bool). x && inside f (second_of s e)) (nothing_inside (first_of s e))

  yz_stays : (e : ℕ) → yz t e ≡ yz s e
  yz_stays e = yz_same s (new_root s p) i f kept.sized.blossoms (omega (arith, room, kept.sized.blossoms)) e
      (ap (λ x. cond x f.price 0) (spans_none e) ∙ sym (none (spans s b e)))
    where
      none : (x : Bool) → cond x b.price 0 ≡ 0
      none true = r.unpriced
      none false = refl

  there : blossom_at t i ≡ f
  there = blossom_there s (new_root s p) i f room

  else_same : (h : ℕ) → h ≢ i → blossom_at t h ≡ blossom_at s h
  else_same = blossom_else s (new_root s p) i f

  unused : InUse t i → ⊥
  unused u = both_ways (blossom_at t i).used (ap (λ (a : Blossom). a.used) there ∙ off) u

  -- what holds of all other blossoms that were, holds of all
  by_place : (P : ℕ → Blossom → Type 0) → ((h : ℕ) → h ≢ i → InUse s h → P h (blossom_at s h)) → (h : ℕ) → InUse t h → P h (blossom_at t h)
  by_place P old h u = ⊎_elim
      (λ e. absurd (unused (subst (InUse t) e u)))
      (λ d. subst (P h) (sym (else_same h d)) (old h d (used_was s (new_root s p) i f h d u)))
      (cases_eq h i)

  -- the blossom p was a part of nothing
  away : (h j : ℕ) → InUse s h → j < length (blossom_at s h).parts → part_at (blossom_at s h) j ≢ 200 + i
  away h j u l e = root_outermost s kept p r.root h j u l (e ∙ is_p)

  rings : (h : ℕ) → InUse t h → Ring t (blossom_at t h)
  rings = by_place (λ h a. Ring t a) (λ h d u. ring_else s (new_root s p) i f (blossom_at s h) (λ j l. away h j u l) (kept.nested.rings h u))

  one_parent : (g h j l : ℕ) → InUse t g → InUse t h → j < length (blossom_at t g).parts → l < length (blossom_at t h).parts →
      part_at (blossom_at t g) j ≡ part_at (blossom_at t h) l → g ≡ h
  one_parent g h j l ug uh = by_place
      (λ g a. j < length a.parts → l < length (blossom_at t h).parts → part_at a j ≡ part_at (blossom_at t h) l → g ≡ h)
      (λ g dg v. by_place (λ h a. j < length (blossom_at s g).parts → l < length a.parts → part_at (blossom_at s g) j ≡ part_at a l → g ≡ h)
      (λ h dh u. kept.nested.one_parent g h j l v u) h uh)
      g ug

  -- a member of the blossom lies in one of its parts
  part : (v : ℕ) → v < s.members → root_at s v ≡ p → Held s b.parts v
  part v l e =
      let h = sym (holds_blossom s p v r.blossom) ∙ root_holds_it s kept p v l e in
      let one : ◌≡◌ {A = ℕ} (cond (inside b v) 1 0) 1 = ap (λ x. cond x 1 0) h in
      held s b.parts v (omega (arith, one, (kept.nested.rings i used).split v l))

  -- and has it for its root now; other members keep their root
  root_in : (v : ℕ) (l : v < s.members) (e : root_at s v ≡ p) → root_at t v ≡ part_at b (part v l e).at
  root_in v l e =
      root_read s (new_root s p) i f v (omega (arith, kept.sized.few))
      ∙ cond-true (ltb v s.members && eqb (root_at s v) p) (holder s b.parts v) (root_at s v) (and_from _ _ (lt-ltb v s.members l) (eq-eqb _ _ e))
      ∙ sym (part v l e).is

  root_out : (v : ℕ) → v < s.members → root_at s v ≢ p → root_at t v ≡ root_at s v
  root_out v l d =
      root_read s (new_root s p) i f v (omega (arith, kept.sized.few))
      ∙ cond-false (ltb v s.members && eqb (root_at s v) p) (holder s b.parts v) (root_at s v)
      (ap (λ (x : Bool). x && eqb (root_at s v) p) (lt-ltb v s.members l) ∙ ne_eqb _ _ d)

  by_root : (P : ℕ → Type 0) (v : ℕ) → v < s.members →
      ((j : ℕ) → root_at s v ≡ p → j < length b.parts → node_holds s (part_at b j) v ≡ true → P (part_at b j)) → (root_at s v ≢ p → P (root_at s v)) → P (root_at t v)
  by_root P v l new old = ⊎_elim
      (λ e. subst P (sym (root_in v l e)) (new (part v l e).at e (part v l e).there (part v l e).holds))
      (λ d. subst P (sym (root_out v l d)) (old d))
      (cases_eq (root_at s v) p)

  old_holds : (q v : ℕ) → q ≢ 200 + i → node_holds t q v ≡ node_holds s q v
  old_holds = holds_else s (new_root s p) i f

  root_holds : (v : ℕ) → v < s.members → node_holds t (root_at t v) v ≡ true
  root_holds v l = by_root (λ q. node_holds t q v ≡ true) v l
      (λ j e lj h. old_holds (part_at b j) v (away i j used lj) ∙ h)
      (λ d. old_holds (root_at s v) v (λ e. d (e ∙ is_p)) ∙ kept.nested.root_holds v l)

  root_outer : (v : ℕ) → v < s.members → Outermost t (root_at t v)
  root_outer v l = by_root (Outermost t) v l
      (λ m e lm hm h j u. by_place (λ h a. j < length a.parts → part_at a j ≢ part_at b m) (λ h d w lj q. d (kept.nested.one_parent h i j m w used lj lm q)) h u)
      (λ d h j u. by_place (λ h a. j < length a.parts → part_at a j ≢ root_at s v) (λ h d w. kept.nested.root_outermost v l h j w) h u)

  -- the blossom p holds nothing now
  not_p : (q v : ℕ) → node_holds t q v ≡ true → q ≢ 200 + i
  not_p q v h e = both_ways (node_holds t (200 + i) v) (holds_there s (new_root s p) i f room v ∙ nothing_inside v) (subst (λ (x : ℕ). node_holds t x v ≡ true) e h)

  -- a node that is a part of nothing now, and was no part of p, was a part of nothing
  outer_was : (q : ℕ) → among q b.parts ≡ false → Outermost t q → Outermost s q
  outer_was q out outer h j u l e = ⊎_elim
      (λ x.
      let lb = subst (λ (k : ℕ). j < length (blossom_at s k).parts) x l in
      let eb = subst (λ (k : ℕ). part_at (blossom_at s k) j ≡ q) x e in
      both_ways (among q b.parts) out (subst (λ (k : ℕ). among k b.parts ≡ true) eb (among_at b.parts j lb)))
      (λ d.
      let same = sym (else_same h d) in
      outer h j (used_else s (new_root s p) i f h d u) (subst (λ (a : Blossom). j < length a.parts) same l) (sym (ap (λ (a : Blossom). part_at a j) same) ∙ e))
      (cases_eq h i)

  root_only : (v q : ℕ) → v < s.members → node_holds t q v ≡ true → Outermost t q → q ≡ root_at t v
  root_only v q l h outer = ⊎_elim
      (λ one.
      let at = among_place q b.parts one in
      let here = subst (λ (x : ℕ). node_holds s x v ≡ true) (sym at.is) was in
      let in_p = holds_blossom s p v r.blossom ∙ part_inside s kept.nested.rings i at.at v used at.there l here in
      let is = sym (root_of_held s kept p v r.root in_p) in
      by_root (λ x. q ≡ x) v l
      (λ j e lj hj. ⊎_elim
      (λ same. sym at.is ∙ ap (part_at b) same)
      (λ d. absurd (parts_apart s kept.nested.rings i at.at j v used at.there lj d l here hj))
      (cases_eq at.at j))
      (λ d. absurd (d is)))
      (λ out.
      let is = kept.nested.root_only v q l was (outer_was q out outer) in
      is ∙ sym (root_out v l (λ e. not_p q v h (is ∙ e ∙ sym is_p))))
      (cases_Bool (among q b.parts))
    where
      was : node_holds s q v ≡ true
      was = sym (old_holds q v (not_p q v h)) ∙ h

  nested : Nested t
  nested = record {
    rings = rings;
    one_parent = one_parent;
    smaller = λ h j u l. parts_smaller t h j kept.rows rings u l;
    root_holds = root_holds;
    root_outermost = root_outer;
    root_only = root_only;
  }

  fair : Fair t
  fair = record {
    all = λ e l. omega (arith, yz_stays e, kept.fair.all e l);
    paired = λ e l h. omega (arith, yz_stays e, kept.fair.paired e l h);
    ring = λ h j u l.
        let e = get_or (blossom_at t h).joins j 0 in
        let was-fair = by_place (λ h a. j < length a.joins → yz s (get_or a.joins j 0) ≤ weight s (get_or a.joins j 0)) (λ h d w lj. kept.fair.ring h j w lj) h u l in
        omega (arith, yz_stays e, was-fair);
  }

  keeps : Kept t
  keeps = kept_placed s (new_root s p) i f kept (record {
    begun = r.begun;
    fair = fair;
    nested = nested;
    even = by_place (λ h a. a.price % 2 ≡ 0) (λ h d. kept.even h);
    one_bare = by_place (λ h a. bare t a ≡ 1) (λ h d u. bare_same s (new_root s p) i f (blossom_at s h) ∙ kept.one_bare h u);
    one_parity = λ h v w hv. by_place
        (λ h a. inside a v ≡ true → inside a w ≡ true → price_at s v % 2 ≡ price_at s w % 2)
        (λ h d u. kept.one_parity h v w) h (inside_used (blossom_at t h) v hv) hv;
    small = by_place (λ h a. a.price + 2 * s.floor ≤ 4 * k_in s * s.top) (λ h d. kept.small.blossoms h);
  })

pub dissolve_keeps : DissolveKeeps
dissolve_keeps s p b kept none off = keeps s kept p (ripe s p none) b off

pub dissolve_stays : DissolveStays
dissolve_stays s p e b kept none off = yz_stays s kept p (ripe s p none) b off e
