-- In the ring of a shrink just one member is not paired inside it. Assumes nothing.
use Rattle.std.proofs.Common.{◌≡◌, ℕ, zero, suc, ◌+◌, ◌-◌, ◌%◌, ◌<◌, ◌≤◌, true, false, not, ◌&&◌, ltb, ◌≢◌, ◌⊎◌, List, [], ◌∷◌, length, get_or, Some, Option, sym, refl, ap, ◌∙◌, subst, inl, inr, ⊎_elim, arith}
use Rattle.std.proofs.ByRecursion.{All-get_or}
use Rattle.std.proofs.lemmas.Bool.{and_parts, and_from, both_ways, cases_Bool, cases_eq, cond-true, lt-ltb, not-true, not_from_false}
use Rattle.matching.specs.Pairings.{Different}
use Rattle.matching.specs.Mates.{mate}
use Rattle.matching.specs.State.{State, first_of, second_of, root_at, inside, node_holds}
use Rattle.matching.specs.Kept.{Kept, Node, Between, part_at, met, bare}
use Rattle.matching.proofs.Nodes.{holds_itself}
use Rattle.steps.specs.Adjust.{among}
use Rattle.steps.proofs.Searches.{among_at, among_place}
use Rattle.paths.specs.Walk.{across}
use Rattle.paths.specs.Theorems.{LeadsOut}
use Rattle.paths.proofs.Rings.{holds_alone, rings_of}
use Rattle.paths.proofs.Laid.{OneBare}
use Rattle.paths.proofs.Law.{count_one}
use Rattle.paths.proofs.Paths.{met_some, bare_before, only_bare}
use Rattle.paths.proofs.Walks.{root_node, root_holds_it, root_of_held, wed_before}
use Rattle.rings.specs.Shrink.{passed}
use Rattle.rings.proofs.Closed.{Closed, length_passed, turn_odd, step_at, new_ring, part_root, part_first, next_part, inside_lies, inside_member}

-- each node has one member that is not paired inside it
node_bare : (s : State) → Kept s → (p : ℕ) → Node s p → OneBare s s.mates p
node_bare s kept p (inl l) =
    let low : p < 200 = omega (arith, kept.sized.few) in
    record {
      member = p;
      held = holds_itself s p low;
      leaves = λ e by f g. (kept.rows e (kept.mates p e l by).known).differ (holds_alone s p _ low f ∙ sym (holds_alone s p _ low g));
      others = λ v h ne. absurd (ne (holds_alone s p v low h));
    }
node_bare s kept p (inr b) = bare_before s kept p b

module _ (s : State) (kept : Kept s) (r : ℕ) (es : List ℕ) (c : Closed s r es) where
  abbrev part : ℕ → ℕ
  part j = part_at (new_ring s r es) j

  -- an offer of the walk ends in its part and in the next
  pub joint : (j : ℕ) → suc j < length es →
      ((part j ≡ root_at s (first_of s (get_or es j 0))) × (part (suc j) ≡ root_at s (second_of s (get_or es j 0))))
      ⊎ ((part j ≡ root_at s (second_of s (get_or es j 0))) × (part (suc j) ≡ root_at s (first_of s (get_or es j 0))))
  joint j l =
      let here : j < length es = omega arith in
      let one : j + 1 ≡ suc j = omega arith in
      let next = next_part s kept r es c j here
      ∙ ap part (cond-true (ltb (j + 1) (length (passed s r es))) (j + 1) 0 (lt-ltb _ _ (omega (arith, length_passed s r es))) ∙ one) in
      let from = part_root s kept r es c j here in
      let to = part_root s kept r es c (suc j) l in
      ⊎_elim
      (λ b. inl (root_of_held s kept _ _ from b.0, root_of_held s kept _ _ to b.1))
      (λ b. inr (root_of_held s kept _ _ from b.0, root_of_held s kept _ _ to b.1))
      (subst (Between s (get_or es j 0) (part j)) next (step_at s false r es j c.steps here).between)

  -- p is a part after the first
  abbrev Later : ℕ → Type 0
  Later p = (m : ℕ) × (1 ≤ m) × (m < length es) × (p ≡ part m)

  later_differs : (p : ℕ) → Later p → p ≢ r
  later_differs p q e = go es c.different q.0 q.1 q.2 (sym e ∙ q.3)
    where
      go : (ds : List ℕ) → Different (passed s r ds) → (m : ℕ) → 1 ≤ m → m < length ds → r ≢ get_or (passed s r ds) m 0
      go [] d m one l = absurd (omega arith)
      go (f ∷ ds) d zero one l = absurd (omega arith)
      go (f ∷ ds) d (suc m) one l = All-get_or (λ p. r ≢ p) (passed s (across s f r) ds) m 0 (omega (arith, length_passed s (across s f r) ds)) d.0

  -- v is paired by an offer between parts after the first
  record Beyond (v : ℕ) : Type 0 where
    pub offer : ℕ
    pub by : mate s.mates v ≡ Some offer
    pub first : Later (root_at s (first_of s offer))
    pub second : Later (root_at s (second_of s offer))

  -- a member of part k that is paired so, with a member of another part
  record Far (k : ℕ) : Type 0 where
    pub member : ℕ
    pub known : member < s.members
    pub lies : part k ≡ root_at s member
    pub beyond : Beyond member
    pub two_roots : root_at s (first_of s beyond.offer) ≢ root_at s (second_of s beyond.offer)

  far_at : (m k : ℕ) → m % 2 ≡ 1 → suc m < length es → (k ≡ m) ⊎ (k ≡ suc m) → Far k
  far_at m k odd l which =
      let e = get_or es m 0 in
      let here : m < length es = omega arith in
      let st = step_at s false r es m c.steps here in
      let wed = wed_before s kept e st.known (st.turns ∙ turn_odd m odd) in
      let first_in = (kept.rows e st.known).first_in in
      let second_in = (kept.rows e st.known).second_in in
      let made : ((a b : ℕ) → 1 ≤ a → a < length es → 1 ≤ b → b < length es → part a ≡ root_at s (first_of s e) → part b ≡ root_at s (second_of s e) → (k ≡ a) ⊎ (k ≡ b) → Far k) =
      λ a b a1 al b1 bl pa pb w. ⊎_elim
      (λ q. record {
        member = first_of s e;
        known = first_in;
        lies = ap part q ∙ pa;
        beyond = record { offer = e; by = wed.0; first = (a, a1, al, sym pa); second = (b, b1, bl, sym pb) };
        two_roots = st.two_roots;
      })
      (λ q. record {
        member = second_of s e;
        known = second_in;
        lies = ap part q ∙ pb;
        beyond = record { offer = e; by = wed.1; first = (a, a1, al, sym pa); second = (b, b1, bl, sym pb) };
        two_roots = st.two_roots;
      })
      w in
      ⊎_elim
      (λ b. made m (suc m) (omega arith) here (omega arith) l b.0 b.1 which)
      (λ b. made (suc m) m (omega arith) l (omega arith) here b.1 b.0 (⊎_elim inr inl which))
      (joint m l)

  far : (k : ℕ) → 1 ≤ k → k < length es → Far k
  far k one l = ⊎_elim
      (λ e. far_at k k e (omega (arith, c.odd)) (inl refl))
      (λ d. far_at (k - 1) k (omega arith) (omega arith) (inr (omega arith)))
      (cases_eq (k % 2) 1)

  -- what is known of a member of part k, for a part after the first
  beyond : (v k : ℕ) → v < s.members → 1 ≤ k → k < length es → root_at s v ≡ part k → Beyond v
  beyond v k lv one l lies =
      let f = far k one l in
      let root = part_root s kept r es c k l in
      let e = f.beyond.offer in
      let held : node_holds s (part k) f.member ≡ true = root_holds_it s kept (part k) f.member f.known (sym f.lies) in
      let leaves : LeadsOut s s.mates (part k) f.member = λ d by a b.
      let same : d ≡ e = some_same d e (sym by ∙ f.beyond.by) in
      f.two_roots (subst (λ (d : ℕ). root_at s (first_of s d) ≡ root_at s (second_of s d)) same
      (sym (root_of_held s kept (part k) _ root a) ∙ root_of_held s kept (part k) _ root b)) in
      ⊎_elim
      (λ q. subst Beyond (sym q) f.beyond)
      (λ d.
      let i = only_bare s kept (part k) f.member (root_node s kept (part k) root) held leaves v (root_holds_it s kept (part k) v lv lies) d in
      record {
        offer = i.offer;
        by = i.by;
        first = (k, one, l, sym (root_of_held s kept (part k) _ root i.first));
        second = (k, one, l, sym (root_of_held s kept (part k) _ root i.second));
      })
      (cases_eq v f.member)
    where
      some_same : (d e : ℕ) → ◌≡◌ {A = Option ℕ} (Some d) (Some e) → d ≡ e
      some_same d e h = cc

  -- what the ring holds lies in one of its parts
  lies_at : (v m : ℕ) → v < s.members → m < length es → root_at s v ≡ part m → inside (new_ring s r es) v ≡ true
  lies_at v m lv l e =
      inside_lies s kept r es c v lv
      ∙ ap (λ (q : ℕ). among q (passed s r es)) e
      ∙ among_at (passed s r es) m (omega (arith, length_passed s r es))

  pub place_in : (v : ℕ) → inside (new_ring s r es) v ≡ true → (m : ℕ) × (m < length es) × (root_at s v ≡ part m)
  place_in v h =
      let p = among_place (root_at s v) (passed s r es) (sym (inside_lies s kept r es c v (inside_member s kept r es c v h)) ∙ h) in
      (p.at, omega (arith, p.there, length_passed s r es), sym p.is)

  met_by : (v e : ℕ) → v < s.members → mate s.mates v ≡ Some e →
      (m n : ℕ) → m < length es → n < length es → root_at s (first_of s e) ≡ part m → root_at s (second_of s e) ≡ part n →
      met s (new_ring s r es) (mate s.mates v) ≡ true
  met_by v e lv by m n lm ln p q =
      let row = kept.rows e (kept.mates v e lv by).known in
      ap (met s (new_ring s r es)) by
      ∙ and_from (inside (new_ring s r es) (first_of s e)) (inside (new_ring s r es) (second_of s e))
      (lies_at (first_of s e) m row.first_in lm p) (lies_at (second_of s e) n row.second_in ln q)

  -- the bare member of the first part is that of the ring
  first_bare : OneBare s s.mates r
  first_bare = node_bare s kept r (root_node s kept r c.root)

  some_parts : 0 < length es
  some_parts = omega (arith, c.three)

  in_first : (v : ℕ) → node_holds s r v ≡ true → root_at s v ≡ part 0
  in_first v h = sym (root_of_held s kept r v c.root h) ∙ sym (part_first s kept r es c)

  bare_root : root_at s first_bare.member ≡ r
  bare_root = sym (root_of_held s kept r _ c.root first_bare.held)

  bare_known : first_bare.member < s.members
  bare_known = (rings_of s kept).below r _ (root_node s kept r c.root) first_bare.held

  others_met : (v : ℕ) → inside (new_ring s r es) v ≡ true → v ≢ first_bare.member → met s (new_ring s r es) (mate s.mates v) ≡ true
  others_met v h ne =
      let p = place_in v h in
      let lv = inside_member s kept r es c v h in
      ⊎_elim
      (λ z.
      let held = root_holds_it s kept r v lv (p.2 ∙ ap part z ∙ part_first s kept r es c) in
      let i = first_bare.others v held ne in
      met_by v i.offer lv i.by 0 0 some_parts some_parts (in_first _ i.first) (in_first _ i.second))
      (λ d.
      let b = beyond v p.0 lv (omega arith) p.1 p.2 in
      met_by v b.offer lv b.by b.first.0 b.second.0 b.first.2 b.second.2 b.first.3 b.second.3)
      (cases_eq p.0 0)

  bare_unmet : met s (new_ring s r es) (mate s.mates first_bare.member) ≡ false
  bare_unmet = ⊎_elim (λ h. absurd (go h)) (λ h. h) (cases_Bool (met s (new_ring s r es) (mate s.mates first_bare.member)))
    where
      u : ℕ
      u = first_bare.member

      -- no offer of u ends beyond the first part
      apart : (e v : ℕ) → mate s.mates u ≡ Some e → mate s.mates v ≡ Some e → Beyond v → ⊥
      apart e v by is b =
          let same : b.offer ≡ e = (let q = sym b.by ∙ is in cc) in
          let far-first = subst (λ (d : ℕ). Later (root_at s (first_of s d))) same b.first in
          let far-second = subst (λ (d : ℕ). Later (root_at s (second_of s d))) same b.second in
          ⊎_elim
          (λ q. later_differs _ far-first (ap (root_at s) (sym q) ∙ bare_root))
          (λ q. later_differs _ far-second (ap (root_at s) (sym q) ∙ bare_root))
          (kept.mates u e bare_known by).names

      go : met s (new_ring s r es) (mate s.mates u) ≡ true → ⊥
      go h =
          let k = met_some s (new_ring s r es) (mate s.mates u) h in
          let e = k.0 in
          let both = and_parts (inside (new_ring s r es) (first_of s e)) (inside (new_ring s r es) (second_of s e)) k.2 in
          let mated = kept.mates u e bare_known k.1 in
          let row = kept.rows e mated.known in
          let a = place_in _ both.0 in
          let b = place_in _ both.1 in
          let here : ((v m : ℕ) → v < s.members → root_at s v ≡ part m → m ≡ 0 → node_holds s r v ≡ true) =
          λ v m l q z. root_holds_it s kept r v l (q ∙ ap part z ∙ part_first s kept r es c) in
          ⊎_elim
          (λ za. ⊎_elim
          (λ zb. first_bare.leaves e k.1 (here _ a.0 row.first_in a.2 za) (here _ b.0 row.second_in b.2 zb))
          (λ d. apart e (second_of s e) k.1 mated.second (beyond _ b.0 row.second_in (omega arith) b.1 b.2))
          (cases_eq b.0 0))
          (λ d. apart e (first_of s e) k.1 mated.first (beyond _ a.0 row.first_in (omega arith) a.1 a.2))
          (cases_eq a.0 0)

  pub ring_bare : bare s (new_ring s r es) ≡ 1
  ring_bare =
      let b = new_ring s r es in
      count_one (λ v. inside b v && not (met s b (mate s.mates v))) s.members first_bare.member bare_known
      (and_from (inside b first_bare.member) _
      (lies_at first_bare.member 0 bare_known some_parts (in_first _ first_bare.held)) (not_from_false _ bare_unmet))
      (λ v l h.
      let parts = and_parts (inside b v) (not (met s b (mate s.mates v))) h in
      ⊎_elim (λ q. q) (λ d. absurd (both_ways _ (not-true _ parts.1) (others_met v parts.0 d))) (cases_eq v first_bare.member))
