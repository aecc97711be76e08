-- A walk, offer by offer. Assumes nothing.
use Rattle.std.proofs.Common.{◌≡◌, ℕ, ◌+◌, ◌<◌, ◌≤◌, Bool, true, false, cond, not, ◌&&◌, ◌||◌, eqb, List, [], ◌∷◌, length, get_or, drop, set, replicate, Some, None, Ok, Err, Option, sym, refl, ap, ◌∙◌, ⊎_elim, arith}
use Rattle.std.proofs.lemmas.List.{length-set, get_or-set_same, get_or-set_other, get_or-replicate, length-replicate, length-drop, at_drop_more, at_drop_all}
use Rattle.std.proofs.lemmas.Bool.{cases_eq, eq-eqb, ne_eqb}
use Rattle.matching.specs.State.{State}
use Rattle.matching.proofs.Finite.{none_some, some_is}
use Rattle.steps.specs.Adjust.{among}
use Rattle.paths.specs.Walk.{across, may_go, may_come, walk}
use Rattle.walks.specs.Coming.{comes}

-- the marks of the nodes tell which are in the list
pub record Marks (marks : List Bool) (used : List ℕ) : Type 0 where
  pub long : length marks ≡ 300
  pub marked : (p : ℕ) → p < 300 → get_or marks p false ≡ among p used

pub marks_more : (marks : List Bool) (used : List ℕ) (q : ℕ) → q < 300 → Marks marks used → Marks (set marks q true) (q ∷ used)
marks_more marks used q l m = record {
  long = length-set marks q true ∙ m.long;
  marked = λ p lp. ⊎_elim
      (λ (e : p ≡ q). ap (λ k. get_or (set marks q true) k false) e ∙ get_or-set_same marks q true false (omega (arith, m.long)) ∙ sym (ap (λ b. b || among p used) (eq-eqb q p (sym e))))
      (λ (d : p ≡ q → ⊥). get_or-set_other marks q p true false d ∙ m.marked p lp ∙ sym (ap (λ b. b || among p used) (ne_eqb q p (λ e. d (sym e)))))
      (cases_eq p q);
}

-- what is left of a walk by the offers es from r: it stands at the root `at` before position i
pub record Sofar (s : State) (back : Option ℕ) (r : ℕ) (es : List ℕ) (i at : ℕ) (turn : Bool) (marks : List Bool) : Type 0 where
  pub used : List ℕ
  pub marked : Marks marks used
  pub rest : walk s back false (r ∷ []) 0 r es ≡ walk s back turn used i at (drop i es)

pub marks_none : Marks (replicate 300 false) []
marks_none = record { long = length-replicate 300 false; marked = λ p l. get_or-replicate 300 p false false l }

-- a node of 300 and more has no mark
pub marks_past : (marks : List Bool) (q : ℕ) → 300 ≤ q → Marks marks [] → Marks marks (q ∷ [])
marks_past marks q l m = record {
  long = m.long;
  marked = λ p lp. m.marked p lp ∙ sym (ap (λ b. b || false) (ne_eqb q p (λ e. omega arith)));
}

-- whether an offer is the last
comes_is : (back : Option ℕ) (used es : List ℕ) (q : ℕ) (last mark : Bool) → mark ≡ among q used → last ≡ eqb (length es) 0 → comes back last mark q ≡ may_come back used es q
comes_is None used es q last mark m l = ap not m
comes_is (Some first) used [] q last mark m l = ap (λ b. cond b (eqb q first) (not mark)) l
comes_is (Some first) used (e ∷ es) q last mark m l = ap (λ b. cond b (eqb q first) (not mark)) (l ∙ ne_eqb (length (e ∷ es)) 0 (λ z. omega arith)) ∙ ap not m

came : (b : Bool) (q : ℕ) → ◌≡◌ {A = Option ℕ} None (cond b (Some q) None) → b ≡ false
came true q h = absurd (none_some h)
came false q h = refl

went : (b : Bool) (q n : ℕ) → ◌≡◌ {A = Option ℕ} (Some n) (cond b (Some q) None) → (b ≡ true) × (n ≡ q)
went true q n h = (refl, some_is h)
went false q n h = absurd (none_some (sym h))

module _ (s : State) (back : Option ℕ) (r : ℕ) (es : List ℕ) (i at : ℕ) (turn : Bool) (marks : List Bool) (sofar : Sofar s back r es i at turn marks) where
  pub arrived : length es ≤ i → Ok at ≡ walk s back false (r ∷ []) 0 r es
  arrived l =
      let end : walk s back turn sofar.used i at (drop i es) ≡ Ok at = at_drop_all (walk s back turn sofar.used i at) es i l in
      sym (sofar.rest ∙ end)

  module _ (less : i < length es) where
    e : ℕ
    e = get_or es i 0

    ahead : List ℕ
    ahead = drop (i + 1) es

    on : walk s back false (r ∷ []) 0 r es
        ≡ cond (may_go s turn at (get_or es i 0) && may_come back sofar.used (drop (i + 1) es) (across s (get_or es i 0) at))
        (walk s back (not turn) (across s (get_or es i 0) at ∷ sofar.used) (i + 1) (across s (get_or es i 0) at) (drop (i + 1) es))
        (Err i)
    on =
        let more : walk s back turn sofar.used i at (drop i es)
        ≡ cond (may_go s turn at (get_or es i 0) && may_come back sofar.used (drop (i + 1) es) (across s (get_or es i 0) at))
        (walk s back (not turn) (across s (get_or es i 0) at ∷ sofar.used) (i + 1) (across s (get_or es i 0) at) (drop (i + 1) es))
        (Err i) = at_drop_more (walk s back turn sofar.used i at) es i 0 less in
        sofar.rest ∙ more

    by : (b : Bool) → (may_go s turn at (get_or es i 0) && may_come back sofar.used (drop (i + 1) es) (across s (get_or es i 0) at)) ≡ b →
        walk s back false (r ∷ []) 0 r es ≡ cond b (walk s back (not turn) (across s (get_or es i 0) at ∷ sofar.used) (i + 1) (across s (get_or es i 0) at) (drop (i + 1) es)) (Err i)
    by b h = on ∙ ap (λ b. cond b (walk s back (not turn) (across s (get_or es i 0) at ∷ sofar.used) (i + 1) (across s (get_or es i 0) at) (drop (i + 1) es)) (Err i)) h

    -- the offer is none to go by
    pub stuck : None ≡ cond (may_go s turn at (get_or es i 0)) (Some (across s (get_or es i 0) at)) None → Err i ≡ walk s back false (r ∷ []) 0 r es
    stuck h = sym (by false (ap (λ b. b && may_come back sofar.used (drop (i + 1) es) (across s (get_or es i 0) at)) (came _ _ h)))

    module _ (next : ℕ) (low : next < 300) (h : Some next ≡ cond (may_go s turn at (get_or es i 0)) (Some (across s (get_or es i 0) at)) None) (last came' : Bool) (is_last : last ≡ eqb (i + 1) (length es))
        (told : came' ≡ comes back last (get_or marks next false) next) where
      gone : may_go s turn at (get_or es i 0) ≡ true
      gone = (went _ _ _ h).0

      there : next ≡ across s (get_or es i 0) at
      there = (went _ _ _ h).1

      ended : last ≡ eqb (length (drop (i + 1) es)) 0
      ended = is_last ∙ ⊎_elim
          (λ (q : i + 1 ≡ length es). eq-eqb (i + 1) (length es) q ∙ sym (eq-eqb (length (drop (i + 1) es)) 0 (omega (arith, length-drop (i + 1) es))))
          (λ (d : i + 1 ≡ length es → ⊥). ne_eqb (i + 1) (length es) d ∙ sym (ne_eqb (length (drop (i + 1) es)) 0 (λ z. d (omega (arith, length-drop (i + 1) es, less)))))
          (cases_eq (i + 1) (length es))

      coming : came' ≡ may_come back sofar.used (drop (i + 1) es) (across s (get_or es i 0) at)
      coming = told ∙ comes_is back sofar.used (drop (i + 1) es) next last (get_or marks next false) (sofar.marked.marked next low) ended ∙ ap (may_come back sofar.used (drop (i + 1) es)) there

      -- the root is none to come to
      pub barred : came' ≡ false → Err i ≡ walk s back false (r ∷ []) 0 r es
      barred f = sym (by false (ap (λ b. b && may_come back sofar.used (drop (i + 1) es) (across s (get_or es i 0) at)) gone ∙ sym coming ∙ f))

      pub onward : came' ≡ true → Sofar s back r es (i + 1) next (not turn) (set marks next true)
      onward f = record {
        used = next ∷ sofar.used;
        marked = marks_more marks sofar.used next low sofar.marked;
        rest = by true (ap (λ b. b && may_come back sofar.used (drop (i + 1) es) (across s (get_or es i 0) at)) gone ∙ sym coming ∙ f)
            ∙ ap (λ q. walk s back (not turn) (q ∷ sofar.used) (i + 1) q (drop (i + 1) es)) (sym there);
      }
