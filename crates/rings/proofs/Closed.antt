-- The roots that a closed walk passes form a ring. Assumes nothing.
use Rattle.std.proofs.Common.{◌≡◌, ℕ, zero, suc, ◌+◌, ◌%◌, ◌<◌, ◌≤◌, Bool, true, false, cond, not, ◌&&◌, eqb, ltb, leb, List, [], ◌∷◌, ◌++◌, map, length, get_or, is_some, Some, None, Ok, Err, Result, sym, refl, ap, ◌∙◌, subst, ⊎_elim, arith}
use Rattle.std.specs.List.{AllByRecursion as All}
use Rattle.std.proofs.ByRecursion.{All-get_or, All-from_get_or}
use Rattle.std.proofs.lemmas.List.{get_or-map, get_or_past, length-map}
use Rattle.std.proofs.lemmas.Bool.{and_parts, or_parts, both_ways, cases_Bool, cases_eq, cases_lt, eqb-true, eq-eqb, ne_eqb, leb-true, lt-ltb, ltb-true, not-true}
use Rattle.faults.specs.declared.layers.BoardFault.TheVariants.{NotBegun, NotRoot, WrongCount}
use Rattle.faults.specs.Checks.{unless}
use Rattle.matching.specs.Pairings.{Different}
use Rattle.matching.specs.Sums.{count, below}
use Rattle.matching.specs.State.{State, Blossom, root_at, inside, node_holds}
use Rattle.matching.specs.Kept.{Kept, Between, Ring, part_at, part_after}
use Rattle.matching.proofs.Sums.{total_nil, total_cons, total_same, length_below, getD_below}
use Rattle.matching.proofs.Counts.{times, once, count_at}
use Rattle.steps.specs.Adjust.{among}
use Rattle.steps.proofs.Searches.{or_else_none, unless_none, among_place}
use Rattle.paths.specs.Walk.{is_root, across, may_go, walk}
use Rattle.paths.proofs.Rings.{next_is}
use Rattle.paths.proofs.Walks.{Root, Step, Steps, last_root, root_from, root_node, root_holds_it, root_of_held, go_step, cond_ok, not_among}
use Rattle.rings.specs.Shrink.{walk_fault, shrink_fault, passed, lies_in, ring_of}

-- what a walk back to its first root has gone by: the roots after the first one are different, and only the last of them was used before
record Back (s : State) (turn : Bool) (used : List ℕ) (r first e : ℕ) (es : List ℕ) : Type 0 where
  pub steps : Steps s turn r (e ∷ es)
  pub back : last_root s (across s e r) es ≡ first
  pub new : All (λ p. among p used ≡ false) (passed s (across s e r) es)
  pub different : Different (passed s (across s e r) es)

went_back : (s : State) → Kept s → (turn : Bool) (used : List ℕ) (i r first e : ℕ) (es : List ℕ) (q : ℕ) →
    walk s (Some first) turn used i r (e ∷ es) ≡ Ok q → Back s turn used r first e es
went_back s kept turn used i r first e [] q h =
    let a = cond_ok _ _ i q h in
    let b = and_parts (may_go s turn r e) (eqb (across s e r) first) a.0 in
    record { steps = (go_step s kept turn r e b.0, tt); back = eqb-true _ _ b.1; new = tt; different = tt }
went_back s kept turn used i r first e (f ∷ es) q h =
    let a = cond_ok _ _ i q h in
    let b = and_parts (may_go s turn r e) (not (among (across s e r) used)) a.0 in
    let k = went_back s kept (not turn) (across s e r ∷ used) (i + 1) (across s e r) first f es q a.1 in
    let n = not_among (across s e r) used (passed s (across s f (across s e r)) es) k.new in
    record {
      steps = (go_step s kept turn r e b.0, k.steps);
      back = k.back;
      new = (not-true _ b.1, n.1);
      different = (n.0, k.different);
    }

-- the checks of a shrink, one by one
pub record Closed (s : State) (r : ℕ) (es : List ℕ) : Type 0 where
  pub begun : is_some s.begun ≡ true
  pub root : Root s r
  pub odd : length es % 2 ≡ 1
  pub three : 3 ≤ length es
  pub steps : Steps s false r es
  pub back : last_root s r es ≡ r
  pub different : Different (passed s r es)

closed_to : (s : State) (r : ℕ) (es : List ℕ) → Kept s → is_some s.begun ≡ true → Root s r → length es % 2 ≡ 1 → 3 ≤ length es →
    (o : Result ℕ ℕ) → walk s (Some r) false (r ∷ []) 0 r es ≡ o → walk_fault o ≡ None → Closed s r es
closed_to s r es kept begun root odd three (Err i) e h = let z : ◌≡◌ {A = ℕ} 0 1 = cc in absurd (omega arith)
closed_to s r [] kept begun root odd three (Ok q) e h = absurd (omega arith)
closed_to s r (d ∷ es) kept begun root odd three (Ok q) e h =
    let w = went_back s kept false (r ∷ []) 0 r r d es q e in
    let n = not_among r [] (passed s (across s d r) es) w.new in
    record { begun = begun; root = root; odd = odd; three = three; steps = w.steps; back = w.back; different = (n.0, w.different) }

pub closed : (s : State) (r : ℕ) (es : List ℕ) → Kept s → shrink_fault s r es ≡ None → Closed s r es
closed s r es kept h =
    let a = or_else_none (unless (is_some s.begun) NotBegun) _ h in
    let b = or_else_none (unless (is_root s r) (NotRoot r)) _ a.1 in
    let c = or_else_none (unless (eqb (length es % 2) 1 && leb 3 (length es)) (WrongCount (length es))) _ b.1 in
    let d = or_else_none (walk_fault (walk s (Some r) false (r ∷ []) 0 r es)) _ c.1 in
    let counted = and_parts (eqb (length es % 2) 1) (leb 3 (length es)) (unless_none _ (WrongCount (length es)) c.0) in
    closed_to s r es kept
    (unless_none (is_some s.begun) NotBegun a.0)
    (root_from s r (unless_none (is_root s r) (NotRoot r) b.0))
    (eqb-true _ _ counted.0) (leb-true _ _ counted.1)
    (walk s (Some r) false (r ∷ []) 0 r es) refl d.0

-- the roots passed, by their places
pub length_passed : (s : State) (r : ℕ) (es : List ℕ) → length (passed s r es) ≡ length es
length_passed s r [] = refl
length_passed s r (e ∷ es) = ap suc (length_passed s (across s e r) es)

-- whose turn it is after so many steps
abbrev pub turn_at : Bool → ℕ → Bool
turn_at turn zero = turn
turn_at turn (suc j) = turn_at (not turn) j

pub turn_odd : (j : ℕ) → j % 2 ≡ 1 → turn_at false j ≡ true
turn_odd zero h = absurd (omega arith)
turn_odd (suc zero) h = refl
turn_odd (suc (suc j)) h = turn_odd j (omega arith)

pub step_at : (s : State) (turn : Bool) (r : ℕ) (es : List ℕ) (j : ℕ) → Steps s turn r es → j < length es →
    Step s (turn_at turn j) (get_or (passed s r es) j 0) (get_or es j 0)
step_at s turn r [] j k l = absurd (omega arith)
step_at s turn r (e ∷ es) zero k l = k.0
step_at s turn r (e ∷ es) (suc j) k l = step_at s (not turn) (across s e r) es j k.1 (omega arith)

next_at : (s : State) (r : ℕ) (es : List ℕ) (j : ℕ) → j < length es →
    across s (get_or es j 0) (get_or (passed s r es) j 0) ≡ get_or (passed s r es ++ last_root s r es ∷ []) (suc j) 0
next_at s r [] j l = absurd (omega arith)
next_at s r (e ∷ []) zero l = refl
next_at s r (e ∷ []) (suc j) l = absurd (omega arith)
next_at s r (e ∷ (f ∷ es)) zero l = refl
next_at s r (e ∷ (f ∷ es)) (suc j) l = next_at s (across s e r) (f ∷ es) j (omega arith)

roots_passed : (s : State) (turn : Bool) (r : ℕ) (es : List ℕ) → Root s r → Steps s turn r es → All (Root s) (passed s r es)
roots_passed s turn r [] root k = tt
roots_passed s turn r (e ∷ es) root k = (root, roots_passed s (not turn) (across s e r) es k.0.to k.1)

-- a number stands in a list of different numbers once or not at all
times_none : (q : ℕ) (ps : List ℕ) → among q ps ≡ false → times q ps ≡ 0
unfolding times
times_none q [] h = total_nil (λ p. cond (eqb p q) 1 0)
times_none q (p ∷ ps) h =
    let a = or_parts (eqb p q) (among q ps) h in
    let gone : ◌≡◌ {A = ℕ} (cond (eqb p q) 1 0) 0 = ap (λ (b : Bool). cond b 1 0) a.0 in
    omega (arith, gone, total_cons (λ p. cond (eqb p q) 1 0) p ps, times_none q ps a.1)

times_among : (q : ℕ) (ps : List ℕ) → Different ps → count (λ p. eqb p q) ps ≡ cond (among q ps) 1 0
unfolding times
times_among q ps d = ⊎_elim
    (λ h.
    let place = among_place q ps h in
    let some = count_at (λ p. eqb p q) ps place.at 0 place.there (eq-eqb _ _ place.is) in
    let one : ◌≡◌ {A = ℕ} (cond (among q ps) 1 0) 1 = ap (λ (b : Bool). cond b 1 0) h in
    omega (arith, one, some, once q ps d))
    (λ h. times_none q ps h ∙ sym (ap (λ (b : Bool). cond b 1 0) h))
    (cases_Bool (among q ps))

-- the ring of a shrink
abbrev pub new_ring : State → ℕ → List ℕ → Blossom
new_ring s r es = ring_of s (passed s r es) es

module _ (s : State) (kept : Kept s) (r : ℕ) (es : List ℕ) (c : Closed s r es) where
  pub part_root : (j : ℕ) → j < length es → Root s (part_at (new_ring s r es) j)
  part_root j l = All-get_or (Root s) (passed s r es) j 0 (omega (arith, length_passed s r es)) (roots_passed s false r es c.root c.steps)

  -- the first part is the first root
  pub part_first : part_at (new_ring s r es) 0 ≡ r
  part_first = go es c.three
    where
      go : (ds : List ℕ) → 3 ≤ length ds → get_or (passed s r ds) 0 0 ≡ r
      go [] l = absurd (omega arith)
      go (d ∷ ds) l = refl

  pub next_part : (j : ℕ) → j < length es → across s (get_or es j 0) (part_at (new_ring s r es) j) ≡ part_after (new_ring s r es) j
  next_part j l =
      next_at s r es j l
      ∙ ap (λ (q : ℕ). get_or (passed s r es ++ q ∷ []) (suc j) 0) (c.back ∙ sym part_first)
      ∙ sym (next_is (new_ring s r es) j (omega (arith, length_passed s r es)))

  -- the ring holds the members whose root is one of its parts
  inside_low : (v : ℕ) → v < 200 → inside (new_ring s r es) v ≡ lies_in s (passed s r es) v
  inside_low v l =
      get_or-map (lies_in s (passed s r es)) (below 200) v 0 false (omega (arith, length_below 200))
      ∙ ap (lies_in s (passed s r es)) (getD_below 200 v 0 l)

  pub inside_lies : (v : ℕ) → v < s.members → inside (new_ring s r es) v ≡ among (root_at s v) (passed s r es)
  inside_lies v l =
      inside_low v (omega (arith, kept.sized.few))
      ∙ ap (λ (b : Bool). b && among (root_at s v) (passed s r es)) (lt-ltb v s.members l)

  pub inside_member : (v : ℕ) → inside (new_ring s r es) v ≡ true → v < s.members
  inside_member v h = ⊎_elim
      (λ l. ltb-true _ _ (and_parts (ltb v s.members) (among (root_at s v) (passed s r es)) (sym (inside_low v l) ∙ h)).0)
      (λ l. absurd (both_ways (inside (new_ring s r es) v)
      (get_or_past (map (lies_in s (passed s r es)) (below 200)) v false (omega (arith, length-map (below 200) (lies_in s (passed s r es)), length_below 200)))
      h))
      (cases_lt v 200)

  -- a root holds the members whose root it is
  root_test : (p v : ℕ) → Root s p → v < s.members → node_holds s p v ≡ eqb p (root_at s v)
  root_test p v root l = ⊎_elim
      (λ e. root_holds_it s kept p v l (sym e) ∙ sym (eq-eqb _ _ e))
      (λ d. ⊎_elim (λ h. absurd (d (root_of_held s kept p v root h))) (λ h. h ∙ sym (ne_eqb _ _ d)) (cases_Bool (node_holds s p v)))
      (cases_eq p (root_at s v))

  pub ring : Ring s (new_ring s r es)
  ring = record {
    odd = ap (λ (n : ℕ). n % 2) (length_passed s r es) ∙ c.odd;
    three = omega (arith, length_passed s r es, c.three);
    different = c.different;
    nodes = λ j l. root_node s kept _ (part_root j (omega (arith, length_passed s r es)));
    joins = sym (length_passed s r es);
    offers = λ j l. (step_at s false r es j c.steps l).known;
    joined = λ j l. subst (Between s (get_or es j 0) (part_at (new_ring s r es) j)) (next_part j l) (step_at s false r es j c.steps l).between;
    members = inside_member;
    split = λ v l.
        total_same (λ p. cond (node_holds s p v) 1 0) (λ p. cond (eqb p (root_at s v)) 1 0) (passed s r es)
        (All-from_get_or (λ p. ◌≡◌ {A = ℕ} (cond (node_holds s p v) 1 0) (cond (eqb p (root_at s v)) 1 0)) (passed s r es) 0
        (λ j lj. ap (λ (b : Bool). cond b 1 0) (root_test _ v (part_root j (omega (arith, length_passed s r es))) l)))
        ∙ times_among (root_at s v) (passed s r es) c.different
        ∙ sym (ap (λ (b : Bool). cond b 1 0) (inside_lies v l));
  }
