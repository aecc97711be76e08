-- The roots that a shrink passes, one by one; there are at most 200. Assumes nothing.
use Rattle.std.proofs.Common.{◌≡◌, ℕ, suc, ◌+◌, ◌<◌, ◌≤◌, Bool, true, false, ◌||◌, eqb, ◌≢◌, List, [], ◌∷◌, length, get_or, take, drop, set, replicate, None, sym, refl, ap, ◌∙◌, subst, ⊎_elim, arith}
use mathlib.Core.Logic.{∥∥₁_elim}
use native.Mathlib.Bridge.{le_prop}
use Rattle.std.specs.List.{AllByRecursion as All}
use Rattle.std.proofs.ByRecursion.{All-from_get_or}
use lib.ListN.{length-map}
use Rattle.std.proofs.lemmas.List.{get_or-map, length-set, get_or-set_same, get_or-set_other, get_or-replicate, length-replicate, get_or-take, length-take-le, ext_get_or, at_drop_more, at_drop_all}
use Rattle.std.proofs.Math.Bool.{or-false, or-true}
use Rattle.std.proofs.lemmas.Bool.{cases_eq, cases_lt, eq-eqb, ne_eqb}
use Rattle.matching.specs.Pairings.{Different}
use Rattle.matching.specs.State.{State, root_at}
use Rattle.matching.proofs.Pairs.{at_most}
use Rattle.steps.specs.Adjust.{among}
use Rattle.paths.specs.Walk.{across}
use Rattle.paths.proofs.Walks.{Root}
use Rattle.rings.specs.Shrink.{shrink_fault, passed}
use Rattle.rings.proofs.Closed.{closed, length_passed, part_root}
use Rattle.tables.specs.declared.tables.Link.{Link}
use Rattle.tables.specs.declared.tables.Tables.{Tables}
use Rattle.tables.specs.States.{parts_in, joins_in, state}
use Rattle.walks.proofs.Telling.{no_link}
use Rattle.tables.specs.Kept.{Held, Keeps}
use Rattle.tables.proofs.Keeping.{root_low}

-- a member of each of some roots
module _ (s : State) where
  abbrev picked : (ps : List ℕ) → All (Root s) ps → List ℕ
  picked [] a = []
  picked (p ∷ ps) a = a.0.member ∷ picked ps a.1

  length_picked : (ps : List ℕ) (a : All (Root s) ps) → length (picked ps a) ≡ length ps
  length_picked [] a = refl
  length_picked (p ∷ ps) a = omega (arith, length_picked ps a.1)

  picked_below : (ps : List ℕ) (a : All (Root s) ps) → All (λ v. v < s.members) (picked ps a)
  picked_below [] a = tt
  picked_below (p ∷ ps) a = (a.0.below, picked_below ps a.1)

  picked_new : (v : ℕ) (ps : List ℕ) (a : All (Root s) ps) → All (λ q. root_at s v ≢ q) ps → All (λ w. v ≢ w) (picked ps a)
  picked_new v [] a n = tt
  picked_new v (p ∷ ps) a n = (λ e. n.0 (ap (root_at s) e ∙ a.0.is), picked_new v ps a.1 n.1)

  picked_apart : (ps : List ℕ) (a : All (Root s) ps) → Different ps → Different (picked ps a)
  picked_apart [] a d = tt
  picked_apart (p ∷ ps) a d = (picked_new a.0.member ps a.1 (subst (λ x. All (λ q. x ≢ q) ps) (sym a.0.is) d.0), picked_apart ps a.1 d.1)

  -- there are no more different roots than members
  few_roots : (ps : List ℕ) → All (Root s) ps → Different ps → length ps ≤ s.members
  few_roots ps a d = omega (arith, length_picked ps a, at_most s.members (picked ps a) (picked_below ps a) (picked_apart ps a d))

module _ (t : Tables) (k : Keeps t) (r : ℕ) (es : List ℕ) (fine : shrink_fault (state t) r es ≡ None) where
  pub few_offers : length es ≤ 200
  few_offers = ∥∥₁_elim k le_prop by
    where
      by : Held t → length es ≤ 200
      by h =
          let s = state t in
          let c = closed s r es h.kept fine in
          let roots = All-from_get_or (Root s) (passed s r es) 0 (λ j l. part_root s h.kept r es c j (omega (arith, length_passed s r es))) in
          omega (arith, few_roots s (passed s r es) roots c.different, length_passed s r es, h.kept.sized.few)

  pub first_low : r < 300
  first_low = ∥∥₁_elim k le_prop (λ h. let c = closed (state t) r es h.kept fine in omega (arith, root_low t k c.root.member c.root.below, c.root.is))

  part_low : (j : ℕ) → j < length es → get_or (passed (state t) r es) j 0 < 300
  part_low j l = ∥∥₁_elim k le_prop by
    where
      by : Held t → get_or (passed (state t) r es) j 0 < 300
      by h = let p = part_root (state t) h.kept r es (closed (state t) r es h.kept fine) j l in omega (arith, root_low t k p.member p.below, p.is)

-- the tables before position i, where the root `at` is left next
pub record Sofar (s : State) (r : ℕ) (es : List ℕ) (i at : ℕ) (links : List Link) (marks : List Bool) : Type 0 where
  pub long : length links ≡ 200
  pub wide : length marks ≡ 300
  pub done : (j : ℕ) → j < i → get_or links j no_link ≡ record { part = get_or (passed s r es) j 0; join = get_or es j 0 }
  pub rest : (j : ℕ) → get_or (passed s r es) (i + j) 0 ≡ get_or (passed s at (drop i es)) j 0
  pub marked : (p : ℕ) → p < 300 → (get_or marks p false || among p (passed s at (drop i es))) ≡ among p (passed s r es)

module _ (s : State) (r : ℕ) (es : List ℕ) where
  pub sofar_none : Sofar s r es 0 r (replicate 200 no_link) (replicate 300 false)
  sofar_none = record {
    long = length-replicate {A = Link} 200 no_link;
    wide = length-replicate 300 false;
    done = λ j l. absurd (omega arith);
    rest = λ j. ap (λ n. get_or (passed s r es) n 0) (let e : 0 + j ≡ j = omega arith in e);
    marked = λ p l. ap (λ b. b || among p (passed s r es)) (get_or-replicate 300 p false false l);
  }

  module _ (i at : ℕ) (links : List Link) (marks : List Bool) (h : Sofar s r es i at links marks) where
    module _ (less : i < length es) where
      -- the root left next is the next one passed
      here : passed s at (drop i es) ≡ at ∷ passed s (across s (get_or es i 0) at) (drop (i + 1) es)
      here = at_drop_more (passed s at) es i 0 less

      at_is : get_or (passed s r es) i 0 ≡ at
      at_is = ap (λ n. get_or (passed s r es) n 0) (let e : i ≡ i + 0 = omega arith in e) ∙ h.rest 0 ∙ ap (λ (l : List ℕ). get_or l 0 0) here

      sofar_more : i < 200 → at < 300 → Sofar s r es (i + 1) (across s (get_or es i 0) at) (set links i (record { part = at; join = get_or es i 0 })) (set marks at true)
      sofar_more few low = record {
        long = length-set links i _ ∙ h.long;
        wide = length-set marks at true ∙ h.wide;
        done = λ j l. ⊎_elim
            (λ (q : j ≡ i).
            ap (λ k. get_or (set links i (record { part = at; join = get_or es i 0 })) k no_link) q
            ∙ get_or-set_same links i (record { part = at; join = get_or es i 0 }) no_link (omega (arith, h.long))
            ∙ ap (λ (x : ℕ). record { part = x; join = get_or es i 0 }) (sym at_is)
            ∙ ap (λ (k : ℕ). record { part = get_or (passed s r es) k 0; join = get_or es k 0 }) (sym q))
            (λ (n : j ≡ i → ⊥). get_or-set_other links i j (record { part = at; join = get_or es i 0 }) no_link n ∙ h.done j (⊎_elim (λ k. k) (λ k. absurd (n (omega arith))) (cases_lt j i)))
            (cases_eq j i);
        rest = λ j. ap (λ n. get_or (passed s r es) n 0) (let e : i + 1 + j ≡ i + suc j = omega arith in e) ∙ h.rest (suc j) ∙ ap (λ (l : List ℕ). get_or l (suc j) 0) here;
        marked = λ p l.
            let was : (get_or marks p false || (eqb at p || among p (passed s (across s (get_or es i 0) at) (drop (i + 1) es)))) ≡ among p (passed s r es) =
            ap (λ ps. get_or marks p false || among p ps) (sym here) ∙ h.marked p l in
            ⊎_elim
            (λ (q : p ≡ at).
            ap (λ b. b || among p (passed s (across s (get_or es i 0) at) (drop (i + 1) es))) (ap (λ k. get_or (set marks at true) k false) q ∙ get_or-set_same marks at true false (omega (arith, h.wide)))
            ∙ sym (or-true (get_or marks p false))
            ∙ ap (λ b. get_or marks p false || (b || among p (passed s (across s (get_or es i 0) at) (drop (i + 1) es)))) (sym (eq-eqb at p (sym q)))
            ∙ was)
            (λ (n : p ≡ at → ⊥).
            ap (λ b. b || among p (passed s (across s (get_or es i 0) at) (drop (i + 1) es))) (get_or-set_other marks at p true false n)
            ∙ ap (λ b. get_or marks p false || (b || among p (passed s (across s (get_or es i 0) at) (drop (i + 1) es)))) (sym (ne_eqb at p (λ q. n (sym q))))
            ∙ was)
            (cases_eq p at);
      }

      pub sofar_next : (next : ℕ) → next ≡ across s (get_or es i 0) at → i < 200 → at < 300 → Sofar s r es (i + 1) next (set links i (record { part = at; join = get_or es i 0 })) (set marks at true)
      sofar_next next e few low = subst (λ q. Sofar s r es (i + 1) q (set links i (record { part = at; join = get_or es i 0 })) (set marks at true)) (sym e) (sofar_more few low)

    module _ (e : i ≡ length es) (few : length es ≤ 200) where
      long : length (take (length es) links) ≡ length es
      long = length-take-le (length es) links (omega (arith, h.long, few))

      there : (j : ℕ) → j < length es → get_or (take (length es) links) j no_link ≡ record { part = get_or (passed s r es) j 0; join = get_or es j 0 }
      there j l = get_or-take (length es) links j no_link l ∙ h.done j (omega (arith, e))

      pub parts_all : parts_in (take (length es) links) ≡ passed s r es
      parts_all = ext_get_or 0 (parts_in (take (length es) links)) (passed s r es) (length-map (take (length es) links) (λ (l : Link). l.part) ∙ long ∙ sym (length_passed s r es))
          (λ j l.
          let less : j < length es = omega (arith, long, length-map (take (length es) links) (λ (l : Link). l.part)) in
          get_or-map (λ (l : Link). l.part) (take (length es) links) j no_link 0 (omega (arith, long)) ∙ ap (λ (l : Link). l.part) (there j less))

      pub joins_all : joins_in (take (length es) links) ≡ es
      joins_all = ext_get_or 0 (joins_in (take (length es) links)) es (length-map (take (length es) links) (λ (l : Link). l.join) ∙ long)
          (λ j l.
          let less : j < length es = omega (arith, long, length-map (take (length es) links) (λ (l : Link). l.join)) in
          get_or-map (λ (l : Link). l.join) (take (length es) links) j no_link 0 (omega (arith, long)) ∙ ap (λ (l : Link). l.join) (there j less))

    pub marks_all : i ≡ length es → (p : ℕ) → p < 300 → get_or marks p false ≡ among p (passed s r es)
    marks_all e p l =
        let gone : among p (passed s at (drop i es)) ≡ false = at_drop_all (λ ds. among p (passed s at ds)) es i (omega arith) in
        sym (or-false (get_or marks p false)) ∙ ap (λ b. get_or marks p false || b) (sym gone) ∙ h.marked p l

pub at_low : (t : Tables) → Keeps t → (r : ℕ) (es : List ℕ) → shrink_fault (state t) r es ≡ None → (i at : ℕ) (links : List Link) (marks : List Bool) → Sofar (state t) r es i at links marks → i < length es → at < 300
at_low t k r es fine i at links marks h less = omega (arith, at_is (state t) r es i at links marks h less, part_low t k r es fine i less)
