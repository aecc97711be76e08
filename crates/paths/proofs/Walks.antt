-- What is known of the offers and roots of an accepted walk. Assumes nothing.
use Rattle.std.proofs.Common.{◌≡◌, ℕ, zero, suc, ◌+◌, ◌-◌, ◌%◌, ◌<◌, ◌≤◌, Bool, true, false, cond, not, ◌&&◌, ◌||◌, eqb, ltb, ◌≢◌, List, [], ◌∷◌, ◌++◌, length, get_or, is_some, Some, None, Ok, Err, Option, Result, sym, refl, ap, ◌∙◌, subst, inl, inr, ⊎_elim, arith}
use Rattle.std.specs.List.{AllByRecursion as All}
use Rattle.std.proofs.lemmas.Bool.{and_parts, or_cases, or_parts, both_ways, cases_Bool, cond-true, cond-false, ltb-true, eqb-true, eqb-false, not-true}
use Rattle.faults.specs.declared.layers.BoardFault.TheVariants.{NotBegun, NotRoot, WrongCount, NotLoose}
use Rattle.faults.specs.Checks.{unless}
use Rattle.matching.specs.Pairings.{Different}
use Rattle.matching.specs.Mates.{mate, is_none}
use Rattle.matching.specs.State.{State, first_of, second_of, weight, root_at, blossom_at, InUse, node_holds, yz, paired_in, eligible}
use Rattle.matching.specs.Kept.{Kept, Node, Between, Outermost}
use Rattle.matching.proofs.Mates.{some_from}
use Rattle.matching.proofs.Nodes.{holds_cases, inside_used}
use Rattle.steps.specs.Searches.{some_below}
use Rattle.steps.specs.Adjust.{among}
use Rattle.steps.proofs.Searches.{cases_below, or_else_none, unless_none, some_not_none}
use Rattle.paths.specs.Walk.{is_root, is_loose, across, leaves, may_go, walk}
use Rattle.paths.specs.Bare.{Link, Join, by_twos}
use Rattle.paths.specs.Augment.{path_fault, augment_fault, way}
use Rattle.paths.proofs.Lists.{In, here, there, bit_of, bit_no, bit_le1, crowd, crowd_find}
use Rattle.paths.proofs.Links.{Chain, Wed}
use Rattle.paths.proofs.Rings.{rings_of}

-- a search that tells of a number finds one
found_below : (p : ℕ → Bool) (n : ℕ) → some_below p n ≡ true → (v : ℕ) × (v < n) × (p v ≡ true)
found_below p n h = ⊎_elim (λ none. absurd (some_not_none _ h none)) (λ r. (r.0, r.1.1, r.1.2)) (cases_below p n)

-- the node p is the root of a member
pub record Root (s : State) (p : ℕ) : Type 0 where
  pub member : ℕ
  pub below : member < s.members
  pub is : root_at s member ≡ p

pub root_from : (s : State) (p : ℕ) → is_root s p ≡ true → Root s p
root_from s p h =
    let f = found_below (λ v. eqb (root_at s v) p) s.members h in
    record { member = f.0; below = f.1; is = eqb-true _ _ f.2 }

-- a loose member of the root p
pub record Loose (s : State) (p : ℕ) : Type 0 where
  pub member : ℕ
  pub below : member < s.members
  pub is : root_at s member ≡ p
  pub unpaired : mate s.mates member ≡ None

none_from : (o : Option ℕ) → is_none o ≡ true → o ≡ None
none_from None h = refl
none_from (Some e) h = absurd (both_ways true (sym h) refl)

pub loose_from : (s : State) (p : ℕ) → is_loose s p ≡ true → Loose s p
loose_from s p h =
    let f = found_below (λ v. eqb (root_at s v) p && is_none (mate s.mates v)) s.members h in
    let both = and_parts (eqb (root_at s f.0) p) (is_none (mate s.mates f.0)) f.2 in
    record { member = f.0; below = f.1; is = eqb-true _ _ both.0; unpaired = none_from _ both.1 }

module _ (s : State) (kept : Kept s) where
  pub root_holds_it : (p v : ℕ) → v < s.members → root_at s v ≡ p → node_holds s p v ≡ true
  root_holds_it p v lt e = subst (λ (q : ℕ). node_holds s q v ≡ true) e (kept.nested.root_holds v lt)

  pub root_node : (p : ℕ) → Root s p → Node s p
  root_node p r = ⊎_elim
      (λ e. inl (subst (λ (q : ℕ). q < s.members) (sym e) r.below))
      (λ b.
      let i = b.0 in
      let e = b.1 in
      let q : i ≡ p - 200 = omega arith in
      inr (omega arith, subst (λ (i : ℕ). InUse s i) q (inside_used (blossom_at s i) r.member b.2)))
      (holds_cases s p r.member (root_holds_it p r.member r.below r.is))

  pub root_outermost : (p : ℕ) → Root s p → Outermost s p
  root_outermost p r = subst (λ (q : ℕ). Outermost s q) r.is (kept.nested.root_outermost r.member r.below)

  -- a root is the root of what it holds
  pub root_of_held : (p v : ℕ) → Root s p → node_holds s p v ≡ true → p ≡ root_at s v
  root_of_held p v r h = kept.nested.root_only v p ((rings_of s kept).below p v (root_node p r) h) h (root_outermost p r)

-- the offer e leads from the root r to another one, and is paired if it is the turn of a paired one
pub record Step (s : State) (turn : Bool) (r e : ℕ) : Type 0 where
  pub known : e < length s.rows
  pub between : Between s e r (across s e r)
  pub to : Root s (across s e r)
  pub two_roots : root_at s (first_of s e) ≢ root_at s (second_of s e)
  pub turns : paired_in s e ≡ turn
  pub tight : yz s e + cond turn 0 2 ≡ weight s e

abbrev pub Steps : State → Bool → ℕ → List ℕ → Type 0
Steps s turn r [] = Unit {0}
Steps s turn r (e ∷ es) = Step s turn r e × Steps s (not turn) (across s e r) es

-- the roots that come after the first one
abbrev pub onward : State → ℕ → List ℕ → List ℕ
onward s r [] = []
onward s r (e ∷ es) = across s e r ∷ onward s (across s e r) es

abbrev pub last_root : State → ℕ → List ℕ → ℕ
last_root s r [] = r
last_root s r (e ∷ es) = last_root s (across s e r) es

by_turn : (turn paired : Bool) → cond turn paired (not paired) ≡ true → paired ≡ turn
by_turn true paired h = h
by_turn false paired h = not-true paired h

module _ (s : State) (kept : Kept s) where
  pub go_step : (turn : Bool) (r e : ℕ) → may_go s turn r e ≡ true → Step s turn r e
  go_step turn r e h =
      let a = and_parts (ltb e (length s.rows)) _ h in
      let b = and_parts (leaves s e r) _ a.1 in
      let c = and_parts (eligible s e) _ b.1 in
      let l = and_parts (eqb (root_at s (first_of s e)) r || eqb (root_at s (second_of s e)) r) _ b.0 in
      let g = and_parts (not (eqb (root_at s (first_of s e)) (root_at s (second_of s e)))) _ c.0 in
      let lt = ltb-true _ _ a.0 in
      let first_in = (kept.rows e lt).first_in in
      let second_in = (kept.rows e lt).second_in in
      let turned = by_turn turn (paired_in s e) c.1 in
      let first_held = kept.nested.root_holds _ first_in in
      let second_held = kept.nested.root_holds _ second_in in
      let made : ((to : ℕ) → across s e r ≡ to → Between s e r to → Root s to → Step s turn r e) = λ to q bt rt. record {
        known = lt;
        between = subst (λ (q : ℕ). Between s e r q) (sym q) bt;
        to = subst (λ (q : ℕ). Root s q) (sym q) rt;
        two_roots = eqb-false _ _ (not-true _ g.0);
        turns = turned;
        tight = subst (λ (b : Bool). yz s e + cond b 0 2 ≡ weight s e) turned (eqb-true _ _ g.1);
      } in
      ⊎_elim
      (λ here. made (root_at s (second_of s e)) (cond-true (eqb (root_at s (first_of s e)) r) _ _ here)
      (inl (root_holds_it s kept r _ first_in (eqb-true _ _ here), second_held))
      (record { member = second_of s e; below = second_in; is = refl }))
      (λ gone. made (root_at s (first_of s e)) (cond-false (eqb (root_at s (first_of s e)) r) _ _ gone)
      (inr (
        root_holds_it s kept r _ second_in
            (⊎_elim (λ here. absurd (both_ways _ gone here)) (λ here. eqb-true _ _ here) (or_cases (eqb (root_at s (first_of s e)) r) (eqb (root_at s (second_of s e)) r) l.0)),
        first_held,
      ))
      (record { member = first_of s e; below = first_in; is = refl }))
      (cases_Bool (eqb (root_at s (first_of s e)) r))

pub cond_ok : (b : Bool) (x : Result ℕ ℕ) (i q : ℕ) → cond b x (Err i) ≡ Ok q → (b ≡ true) × (x ≡ Ok q)
cond_ok true x i q h = (refl, h)
cond_ok false x i q h = let z : ◌≡◌ {A = ℕ} 0 1 = cc in absurd (omega arith)

-- what a walk that comes to q has gone by: the roots after the first are different, and none of them was used before
pub record Walked (s : State) (turn : Bool) (used : List ℕ) (r : ℕ) (es : List ℕ) (q : ℕ) : Type 0 where
  pub steps : Steps s turn r es
  pub comes : last_root s r es ≡ q
  pub new : All (λ p. among p used ≡ false) (onward s r es)
  pub different : Different (onward s r es)

ok_same : (p q : ℕ) → ◌≡◌ {A = Result ℕ ℕ} (Ok p) (Ok q) → p ≡ q
ok_same p q h = cc

pub not_among : (q : ℕ) (used ps : List ℕ) → All (λ p. among p (q ∷ used) ≡ false) ps → All (λ p. q ≢ p) ps × All (λ p. among p used ≡ false) ps
not_among q used [] h = (tt, tt)
not_among q used (x ∷ ps) h =
    let a = or_parts (eqb q x) (among x used) h.0 in
    let r = not_among q used ps h.1 in
    ((eqb-false _ _ a.0, r.0), (a.1, r.1))

pub walked : (s : State) → Kept s → (turn : Bool) (used : List ℕ) (i r : ℕ) (es : List ℕ) (q : ℕ) → walk s None turn used i r es ≡ Ok q → Walked s turn used r es q
walked s kept turn used i r [] q h = record { steps = tt; comes = ok_same _ _ h; new = tt; different = tt }
walked s kept turn used i r (e ∷ es) q h =
    let a = cond_ok _ _ i q h in
    let b = and_parts (may_go s turn r e) (not (among (across s e r) used)) a.0 in
    let k = walked s kept (not turn) (across s e r ∷ used) (i + 1) (across s e r) es q a.1 in
    let n = not_among (across s e r) used (onward s (across s e r) es) k.new in
    record {
      steps = (go_step s kept turn r e b.0, k.steps);
      comes = k.comes;
      new = (not-true _ b.1, n.1);
      different = (n.0, k.different);
    }

-- the checks of an augment, one by one
pub record Accepted (s : State) (r : ℕ) (es : List ℕ) : Type 0 where
  pub begun : is_some s.begun ≡ true
  pub root : Root s r
  pub odd : length es % 2 ≡ 1
  pub steps : Steps s false r es
  pub different : Different (r ∷ onward s r es)
  pub start : Loose s r
  pub finish : Loose s (last_root s r es)

accepted_to : (s : State) (r : ℕ) (es : List ℕ) → Kept s → is_some s.begun ≡ true → Root s r → length es % 2 ≡ 1 →
    (o : Result ℕ ℕ) → walk s None false (r ∷ []) 0 r es ≡ o → path_fault s r o ≡ None → Accepted s r es
accepted_to s r es kept begun root odd (Err i) e h = let z : ◌≡◌ {A = ℕ} 0 1 = cc in absurd (omega arith)
accepted_to s r es kept begun root odd (Ok q) e h =
    let w = walked s kept false (r ∷ []) 0 r es q e in
    let n = not_among r [] (onward s r es) w.new in
    let both = or_else_none (unless (is_loose s r) (NotLoose r)) _ h in
    record {
      begun = begun;
      root = root;
      odd = odd;
      steps = w.steps;
      different = (n.0, w.different);
      start = loose_from s r (unless_none (is_loose s r) (NotLoose r) both.0);
      finish = subst (λ (p : ℕ). Loose s p) (sym w.comes) (loose_from s q (unless_none (is_loose s q) (NotLoose q) both.1));
    }

pub accepted : (s : State) (r : ℕ) (es : List ℕ) → Kept s → augment_fault s r es ≡ None → Accepted s r es
accepted s r es kept h =
    let a = or_else_none (unless (is_some s.begun) NotBegun) _ h in
    let b = or_else_none (unless (is_root s r) (NotRoot r)) _ a.1 in
    let c = or_else_none (unless (eqb (length es % 2) 1) (WrongCount (length es))) _ b.1 in
    accepted_to s r es kept
    (unless_none (is_some s.begun) NotBegun a.0)
    (root_from s r (unless_none (is_root s r) (NotRoot r) b.0))
    (eqb-true _ _ (unless_none (eqb (length es % 2) 1) (WrongCount (length es)) c.0))
    (walk s None false (r ∷ []) 0 r es) refl c.1

-- a path of links: the first, those between, the last
abbrev pub path : Link → List Link → Link → List Link
path x mid z = x ∷ (mid ++ (z ∷ []))

-- from a loose member of x's root to one of z's, by offers that are in turn unpaired and paired
pub record Path (s : State) (x : Link) (mid : List Link) (z : Link) : Type 0 where
  pub even : length mid % 2 ≡ 0
  pub nodes : (y : Link) → In y (path x mid z) → Node s y.part
  pub roots : (y : Link) → In y (path x mid z) → Outermost s y.part
  pub apart : (v : ℕ) → crowd s (path x mid z) v ≤ 1
  pub linked : Chain s (path x mid z)
  pub known : (j : Join) → In j (by_twos (path x mid z)) → j.offer < length s.rows
  pub were : (j : Join) → In j (by_twos mid) → Wed s s.mates j.offer
  pub start : (a : ℕ) × (node_holds s x.part a ≡ true) × (mate s.mates a ≡ None)
  pub finish : (b : ℕ) × (node_holds s z.part b ≡ true) × (mate s.mates b ≡ None)

-- the links of a way before its last one
abbrev pub front : State → ℕ → List ℕ → List Link
front s r [] = []
front s r (e ∷ es) = record { part = r; offer = e } ∷ front s (across s e r) es

abbrev pub last_link : State → ℕ → List ℕ → Link
last_link s r es = record { part = last_root s r es; offer = 0 }

length_front : (s : State) (r : ℕ) (es : List ℕ) → length (front s r es) ≡ length es
length_front s r [] = refl
length_front s r (e ∷ es) = ap suc (length_front s (across s e r) es)

pub way_split : (s : State) (r : ℕ) (es : List ℕ) → way s r es ≡ front s r es ++ (last_link s r es ∷ [])
way_split s r [] = refl
way_split s r (e ∷ es) = ap (λ (ls : List Link). record { part = r; offer = e } ∷ ls) (way_split s (across s e r) es)

-- what holds of the roots holds of the parts of the way
way_part : (s : State) (P : ℕ → Type 0) (r : ℕ) (es : List ℕ) (y : Link) → All P (r ∷ onward s r es) → In y (way s r es) → P y.part
way_part s P r [] y h here = h.0
way_part s P r [] y h (there i) = elim i [ ]
way_part s P r (e ∷ es) y h here = h.0
way_part s P r (e ∷ es) y h (there i) = way_part s P (across s e r) es y h.1 i

steps_roots : (s : State) (turn : Bool) (r : ℕ) (es : List ℕ) → Steps s turn r es → All (Root s) (onward s r es)
steps_roots s turn r [] k = tt
steps_roots s turn r (e ∷ es) k = (k.0.to, steps_roots s (not turn) (across s e r) es k.1)

way_chain : (s : State) (turn : Bool) (r : ℕ) (es : List ℕ) → Steps s turn r es → Chain s (way s r es)
way_chain s turn r [] k = tt
way_chain s turn r (e ∷ []) k = (k.0.between, tt)
way_chain s turn r (e ∷ (f ∷ es)) k = (k.0.between, way_chain s (not turn) (across s e r) (f ∷ es) k.1)

pub zero_of : (k : ℕ) → (0 < k → ⊥) → k ≡ 0
zero_of zero h = refl
zero_of (suc k) h = absurd (h (omega arith))

-- different roots share no member
way_apart : (s : State) → Kept s → (r : ℕ) (es : List ℕ) → All (Root s) (r ∷ onward s r es) → Different (r ∷ onward s r es) → (v : ℕ) → crowd s (way s r es) v ≤ 1
way_apart s kept r [] roots d v = omega (arith, bit_le1 (node_holds s r v))
way_apart s kept r (e ∷ es) roots d v = ⊎_elim
    (λ h.
    let none = zero_of (crowd s (way s (across s e r) es) v) (λ more.
    let f = crowd_find s (way s (across s e r) es) v more in
    let there-is = root_of_held s kept f.0.part v (way_part s (Root s) (across s e r) es f.0 roots.1 f.1) f.2 in
    way_part s (λ p. r ≢ p) (across s e r) es f.0 d.0 f.1 (root_of_held s kept r v roots.0 h ∙ sym there-is)) in
    omega (arith, bit_of _ h))
    (λ h. omega (arith, bit_no _ h, way_apart s kept (across s e r) es roots.1 d.1 v))
    (cases_Bool (node_holds s r v))

not_twice : (b : Bool) → not (not b) ≡ b
not_twice true = refl
not_twice false = refl

next_turn : (s : State) (turn : Bool) (r : ℕ) (es : List ℕ) → Steps s (not (not turn)) r es → Steps s turn r es
next_turn s turn r es k = subst (λ (b : Bool). Steps s b r es) (not_twice turn) k

-- the offers of joins by twos all have the first offer's turn
pub turn_joins : (s : State) (turn : Bool) (r : ℕ) (es : List ℕ) (j : Join) → Steps s turn r es → In j (by_twos (way s r es)) → (p : ℕ) × Step s turn p j.offer
turn_joins s turn r [] j k i = elim i [ ]
turn_joins s turn r (e ∷ []) j k here = (r, k.0)
turn_joins s turn r (e ∷ []) j k (there i) = elim i [ ]
turn_joins s turn r (e ∷ (f ∷ es)) j k here = (r, k.0)
turn_joins s turn r (e ∷ (f ∷ es)) j k (there i) = turn_joins s turn (across s f (across s e r)) es j (next_turn s turn (across s f (across s e r)) es k.1.1) i

front_joins : (s : State) (turn : Bool) (r : ℕ) (es : List ℕ) (j : Join) → Steps s turn r es → In j (by_twos (front s r es)) → (p : ℕ) × Step s turn p j.offer
front_joins s turn r [] j k i = elim i [ ]
front_joins s turn r (e ∷ []) j k i = elim i [ ]
front_joins s turn r (e ∷ (f ∷ es)) j k here = (r, k.0)
front_joins s turn r (e ∷ (f ∷ es)) j k (there i) = front_joins s turn (across s f (across s e r)) es j (next_turn s turn (across s f (across s e r)) es k.1.1) i

-- an offer at an even position is that of a join
pub join_at : (s : State) (r : ℕ) (es : List ℕ) (i : ℕ) → i < length es → i % 2 ≡ 0 → (j : Join) × In j (by_twos (way s r es)) × (j.offer ≡ get_or es i 0)
join_at s r [] i lt h = absurd (omega arith)
join_at s r (e ∷ []) zero lt h = (_, here, refl)
join_at s r (e ∷ []) (suc i) lt h = absurd (omega arith)
join_at s r (e ∷ (f ∷ es)) zero lt h = (_, here, refl)
join_at s r (e ∷ (f ∷ es)) (suc zero) lt h = absurd (omega arith)
join_at s r (e ∷ (f ∷ es)) (suc (suc i)) lt h = let k = join_at s (across s f (across s e r)) es i (omega arith) (omega arith) in (k.0, there k.1, k.2)

-- the first root's members are on the way
on_start : (s : State) (r : ℕ) (es : List ℕ) (v : ℕ) → node_holds s r v ≡ true → 0 < crowd s (way s r es) v
on_start s r [] v h = omega (arith, bit_of _ h)
on_start s r (e ∷ es) v h = omega (arith, bit_of _ h)

on_step : (s : State) (turn : Bool) (r e : ℕ) (es : List ℕ) → Step s turn r e → 0 < crowd s (way s r (e ∷ es)) (first_of s e)
on_step s turn r e es k = ⊎_elim
    (λ b. on_start s r (e ∷ es) (first_of s e) b.0)
    (λ b. omega (arith, on_start s (across s e r) es (first_of s e) b.1))
    k.between

-- an offer at an odd position has the other turn, and its first member is on the way
pub step_at_odd : (s : State) (turn : Bool) (r : ℕ) (es : List ℕ) (i : ℕ) → Steps s turn r es → i < length es → i % 2 ≡ 1 →
    (p : ℕ) × Step s (not turn) p (get_or es i 0) × (0 < crowd s (way s r es) (first_of s (get_or es i 0)))
step_at_odd s turn r [] i k lt h = absurd (omega arith)
step_at_odd s turn r (e ∷ []) zero k lt h = absurd (omega arith)
step_at_odd s turn r (e ∷ []) (suc i) k lt h = absurd (omega arith)
step_at_odd s turn r (e ∷ (f ∷ es)) zero k lt h = absurd (omega arith)
step_at_odd s turn r (e ∷ (f ∷ es)) (suc zero) k lt h = (_, k.1.0, omega (arith, on_step s (not turn) (across s e r) f es k.1.0))
step_at_odd s turn r (e ∷ (f ∷ es)) (suc (suc i)) k lt h =
    let q = step_at_odd s turn (across s f (across s e r)) es i (next_turn s turn (across s f (across s e r)) es k.1.1) (omega arith) (omega arith) in
    (q.0, q.1, omega (arith, q.2))

-- a paired offer is the mate of both its members
pub wed_before : (s : State) → Kept s → (e : ℕ) → e < length s.rows → paired_in s e ≡ true → Wed s s.mates e
wed_before s kept e lt h =
    let m = kept.mates (first_of s e) e (kept.rows e lt).first_in (some_from _ _ h) in
    (m.first, m.second)

pub path_of : (s : State) (r e : ℕ) (es : List ℕ) → Kept s → Accepted s r (e ∷ es) →
    Path s (record { part = r; offer = e }) (front s (across s e r) es) (last_link s (across s e r) es)
path_of s r e es kept a =
    let x : Link = record { part = r; offer = e } in
    let q = ap (λ (ls : List Link). x ∷ ls) (way_split s (across s e r) es) in
    let roots : All (Root s) (r ∷ onward s r (e ∷ es)) = (a.root, steps_roots s false r (e ∷ es) a.steps) in
    let root : ((y : Link) → In y (path x (front s (across s e r) es) (last_link s (across s e r) es)) → Root s y.part) =
    λ y i. way_part s (Root s) r (e ∷ es) y roots (subst (λ (ls : List Link). In y ls) (sym q) i) in
    record {
      even = omega (arith, a.odd, length_front s (across s e r) es);
      nodes = λ y i. root_node s kept y.part (root y i);
      roots = λ y i. root_outermost s kept y.part (root y i);
      apart = λ v. subst (λ (ls : List Link). crowd s ls v ≤ 1) q (way_apart s kept r (e ∷ es) roots a.different v);
      linked = subst (λ (ls : List Link). Chain s ls) q (way_chain s false r (e ∷ es) a.steps);
      known = λ j i. (turn_joins s false r (e ∷ es) j a.steps (subst (λ (ls : List Link). In j (by_twos ls)) (sym q) i)).1.known;
      were = λ j i.
          let k = (front_joins s true (across s e r) es j a.steps.1 i).1 in
          wed_before s kept j.offer k.known k.turns;
      start = (a.start.member, root_holds_it s kept _ _ a.start.below a.start.is, a.start.unpaired);
      finish = (a.finish.member, root_holds_it s kept _ _ a.finish.below a.finish.is, a.finish.unpaired);
    }
