-- Joins made of linked parts: their ends, and the mates once they are paired. Assumes nothing.
use Rattle.std.proofs.Common.{◌≡◌, ℕ, ◌%◌, ◌<◌, ◌≤◌, true, ◌⊎◌, List, [], ◌∷◌, ◌++◌, length, take, set, Some, None, Option, sym, refl, ap, ◌∙◌, subst, inl, inr, ⊎_elim, append_assoc, append-nil, arith}
use Rattle.std.proofs.lemmas.List.{length-set, get_or-set_same, get_or-set_other}
use Rattle.std.proofs.lemmas.Bool.{cases_Bool, cond-true, cond-false}
use Rattle.matching.specs.Mates.{mate}
use Rattle.matching.specs.State.{State, first_of, second_of, node_holds}
use Rattle.matching.specs.Kept.{Between}
use Rattle.paths.specs.Bare.{Link, Join, Task, by_twos, end_in, joined}
use Rattle.paths.specs.Theorems.{LeadsOut}
use Rattle.paths.proofs.Lists.{In, here, there, bit_of, tcrowd, tasks}
pub use Rattle.paths.proofs.Lists.{one_task, other_task}

-- each part is joined to the next by its offer
abbrev pub Chain : State → List Link → Type 0
Chain s [] = Unit {0}
Chain s (x ∷ []) = Unit {0}
Chain s (x ∷ (y ∷ zs)) = Between s x.offer x.part y.part × Chain s (y ∷ zs)

-- two parts next to one another in xs, joined by j
pub record Made (s : State) (xs : List Link) (j : Join) : Type 0 where
  pub from : Link
  pub to : Link
  pub from_in : In from xs
  pub to_in : In to xs
  pub offers : from.offer ≡ j.offer
  pub from_is : from.part ≡ j.one
  pub to_is : to.part ≡ j.other
  pub between : Between s j.offer j.one j.other

made_more : (s : State) (x y : Link) (zs : List Link) (j : Join) → Made s zs j → Made s (x ∷ (y ∷ zs)) j
made_more s x y zs j r = record {
  from = r.from;
  to = r.to;
  from_in = there (there r.from_in);
  to_in = there (there r.to_in);
  offers = r.offers;
  from_is = r.from_is;
  to_is = r.to_is;
  between = r.between;
}

pub chain_rest : (s : State) (y : Link) (zs : List Link) → Chain s (y ∷ zs) → Chain s zs
chain_rest s y [] c = tt
chain_rest s y (z ∷ zs) c = c.1

pub made : (s : State) (xs : List Link) (j : Join) → Chain s xs → In j (by_twos xs) → Made s xs j
made s [] j c i = elim i [ ]
made s (x ∷ []) j c i = elim i [ ]
made s (x ∷ (y ∷ zs)) j c here = record {
  from = x;
  to = y;
  from_in = here;
  to_in = there here;
  offers = refl;
  from_is = refl;
  to_is = refl;
  between = c.0;
}
made s (x ∷ (y ∷ zs)) j c (there i) = made_more s x y zs j (made s zs j (chain_rest s y zs c.1) i)

-- the task t is one of the two tasks of the join j
abbrev Side : State → Task → Join → Type 0
Side s t j = ((t.node ≡ j.one) × (t.member ≡ end_in s j.one j.offer)) ⊎ ((t.node ≡ j.other) × (t.member ≡ end_in s j.other j.offer))

pub record Of (s : State) (js : List Join) (t : Task) : Type 0 where
  pub join : Join
  pub is_in : In join js
  pub side : Side s t join

of_more : (s : State) (j : Join) (js : List Join) (t : Task) → Of s js t → Of s (j ∷ js) t
of_more s j js t r = record { join = r.join; is_in = there r.is_in; side = r.side }

pub of : (s : State) (js : List Join) (t : Task) → In t (tasks s js) → Of s js t
of s [] t i = elim i [ ]
of s (j ∷ js) t here = record { join = j; is_in = here; side = inl (refl, refl) }
of s (j ∷ js) t (there here) = record { join = j; is_in = here; side = inr (refl, refl) }
of s (j ∷ js) t (there (there i)) = of_more s j js t (of s js t i)

-- no member lies in both
abbrev pub Apart : State → ℕ → ℕ → Type 0
Apart s p q = (v : ℕ) → node_holds s p v ≡ true → node_holds s q v ≡ true → ⊥

-- which end of an offer lies where
pub record Ends (s : State) (e p q : ℕ) : Type 0 where
  pub in_p : node_holds s p (end_in s p e) ≡ true
  pub in_q : node_holds s q (end_in s q e) ≡ true
  pub are : ((first_of s e ≡ end_in s p e) × (second_of s e ≡ end_in s q e)) ⊎ ((second_of s e ≡ end_in s p e) × (first_of s e ≡ end_in s q e))

end_first : (s : State) (p e : ℕ) → node_holds s p (first_of s e) ≡ true → end_in s p e ≡ first_of s e
end_first s p e h = cond-true _ _ _ h

end_second : (s : State) (p e : ℕ) → (node_holds s p (first_of s e) ≡ true → ⊥) → end_in s p e ≡ second_of s e
end_second s p e h = elim (cases_Bool (node_holds s p (first_of s e))) [ inl k ↦ absurd (h k) | inr k ↦ cond-false _ _ _ k ]

-- an offer between two nodes that are apart
module _ (s : State) (e : ℕ) where
  pub ends : (p q : ℕ) → Apart s p q → Between s e p q → Ends s e p q
  ends p q apart (inl (h, k)) =
      let a = end_first s p e h in
      let b = end_second s q e (λ f. apart _ h f) in
      record { in_p = subst (λ (v : ℕ). node_holds s p v ≡ true) (sym a) h; in_q = subst (λ (v : ℕ). node_holds s q v ≡ true) (sym b) k; are = inl (sym a, sym b) }
  ends p q apart (inr (h, k)) =
      let a = end_second s p e (λ f. apart _ f k) in
      let b = end_first s q e k in
      record { in_p = subst (λ (v : ℕ). node_holds s p v ≡ true) (sym a) h; in_q = subst (λ (v : ℕ). node_holds s q v ≡ true) (sym b) k; are = inr (sym a, sym b) }

  -- it names two different members
  pub between_differ : (p q : ℕ) → Apart s p q → Between s e p q → first_of s e ≡ second_of s e → ⊥
  between_differ p q apart (inl (h, k)) same = apart _ h (subst (λ (v : ℕ). node_holds s q v ≡ true) (sym same) k)
  between_differ p q apart (inr (h, k)) same = apart _ h (subst (λ (v : ℕ). node_holds s q v ≡ true) same k)

  -- it lies inside neither of them
  pub between_leaves : (p q : ℕ) → Apart s p q → Between s e p q → node_holds s p (first_of s e) ≡ true → node_holds s p (second_of s e) ≡ true → ⊥
  between_leaves p q apart (inl (h, k)) f g = apart _ g k
  between_leaves p q apart (inr (h, k)) f g = apart _ f k

  pub between_leaves' : (p q : ℕ) → Apart s p q → Between s e p q → node_holds s q (first_of s e) ≡ true → node_holds s q (second_of s e) ≡ true → ⊥
  between_leaves' p q apart (inl (h, k)) f g = apart _ h f
  between_leaves' p q apart (inr (h, k)) f g = apart _ h g

  -- where its members lie
  first_in : (p q : ℕ) → Between s e p q → (node_holds s p (first_of s e) ≡ true) ⊎ (node_holds s q (first_of s e) ≡ true)
  first_in p q (inl (h, k)) = inl h
  first_in p q (inr (h, k)) = inr k

  second_in : (p q : ℕ) → Between s e p q → (node_holds s p (second_of s e) ≡ true) ⊎ (node_holds s q (second_of s e) ≡ true)
  second_in p q (inl (h, k)) = inr k
  second_in p q (inr (h, k)) = inl h

-- joins whose nodes are all apart
pub record Good (s : State) (js : List Join) : Type 0 where
  pub apart : (v : ℕ) → tcrowd s (tasks s js) v ≤ 1
  pub between : (j : Join) → In j js → Between s j.offer j.one j.other
  pub below : (j : Join) → In j js → (v : ℕ) → (node_holds s j.one v ≡ true) ⊎ (node_holds s j.other v ≡ true) → v < s.members

good_rest : (s : State) (j : Join) (js : List Join) → Good s (j ∷ js) → Good s js
good_rest s j js g = record {
  apart = λ v. omega (arith, g.apart v);
  between = λ k i. g.between k (there i);
  below = λ k i. g.below k (there i);
}

good_apart : (s : State) (j : Join) (js : List Join) → Good s (j ∷ js) → Apart s j.one j.other
good_apart s j js g v h k = omega (arith, g.apart v, bit_of _ h, bit_of _ k)

pub good_apart_in : (s : State) (js : List Join) (j : Join) → Good s js → In j js → Apart s j.one j.other
good_apart_in s [] j g i = elim i [ ]
good_apart_in s (k ∷ js) j g here = good_apart s k js g
good_apart_in s (k ∷ js) j g (there i) = good_apart_in s js j (good_rest s k js g) i

pub length_joined : (s : State) (js : List Join) (m : List (Option ℕ)) → length (joined s js m) ≡ length m
length_joined s [] m = refl
length_joined s (j ∷ js) m = length_joined s js _ ∙ simp length-set

-- one join
abbrev pair_one : State → ℕ → List (Option ℕ) → List (Option ℕ)
pair_one s e m = set (set m (first_of s e) (Some e)) (second_of s e) (Some e)

one_other : (s : State) (e : ℕ) (m : List (Option ℕ)) (v : ℕ) → (v ≡ first_of s e → ⊥) → (v ≡ second_of s e → ⊥) → mate (pair_one s e m) v ≡ mate m v
one_other s e m v h k =
    get_or-set_other (set m (first_of s e) (Some e)) (second_of s e) v (Some e) None k ∙ get_or-set_other m (first_of s e) v (Some e) None h

one_second : (s : State) (e : ℕ) (m : List (Option ℕ)) → second_of s e < length m → mate (pair_one s e m) (second_of s e) ≡ Some e
one_second s e m h = get_or-set_same (set m (first_of s e) (Some e)) (second_of s e) (Some e) None (simp length-set h)

one_first : (s : State) (e : ℕ) (m : List (Option ℕ)) → first_of s e < length m → (first_of s e ≡ second_of s e → ⊥) → mate (pair_one s e m) (first_of s e) ≡ Some e
one_first s e m h k =
    get_or-set_other (set m (first_of s e) (Some e)) (second_of s e) (first_of s e) (Some e) None k ∙ get_or-set_same m (first_of s e) (Some e) None h

either_crowd : (s : State) (j : Join) (js : List Join) (v : ℕ) → (node_holds s j.one v ≡ true) ⊎ (node_holds s j.other v ≡ true) → tcrowd s (tasks s js) v < tcrowd s (tasks s (j ∷ js)) v
either_crowd s j js v (inl h) = omega (arith, bit_of _ h)
either_crowd s j js v (inr h) = omega (arith, bit_of _ h)

pub joined_outside : (s : State) (js : List Join) (m : List (Option ℕ)) (v : ℕ) → Good s js → tcrowd s (tasks s js) v ≡ 0 → mate (joined s js m) v ≡ mate m v
joined_outside s [] m v g h = refl
joined_outside s (j ∷ js) m v g h =
    joined_outside s js _ v (good_rest s j js g) (omega arith)
    ∙ one_other s j.offer m v (λ e. off (first_of s j.offer) e (first_in s _ _ _ b)) (λ e. off (second_of s j.offer) e (second_in s _ _ _ b))
  where
    b : Between s j.offer j.one j.other
    b = g.between j here

    off : (u : ℕ) → v ≡ u → (node_holds s j.one u ≡ true) ⊎ (node_holds s j.other u ≡ true) → ⊥
    off u e i = omega (arith, h, either_crowd s j js u i, ap (tcrowd s (tasks s (j ∷ js))) e)

-- the members of the offer e are paired by it
abbrev pub Wed : State → List (Option ℕ) → ℕ → Type 0
Wed s m e = (mate m (first_of s e) ≡ Some e) × (mate m (second_of s e) ≡ Some e)

joined_here : (s : State) (j : Join) (js : List Join) (m : List (Option ℕ)) → s.members ≤ length m → Good s (j ∷ js) → Wed s (joined s (j ∷ js) m) j.offer
joined_here s j js m len g = (
  kept (first_of s j.offer) (first_in s _ _ _ b) ∙ one_first s j.offer m (known (first_of s j.offer) (first_in s _ _ _ b)) (between_differ s _ _ _ (good_apart s j js g) b),
  kept (second_of s j.offer) (second_in s _ _ _ b) ∙ one_second s j.offer m (known (second_of s j.offer) (second_in s _ _ _ b)),
)
  where
    b : Between s j.offer j.one j.other
    b = g.between j here

    known : (v : ℕ) → (node_holds s j.one v ≡ true) ⊎ (node_holds s j.other v ≡ true) → v < length m
    known v i = omega (arith, len, g.below j here v i)

    -- the joins after it do not touch its members
    kept : (v : ℕ) → (node_holds s j.one v ≡ true) ⊎ (node_holds s j.other v ≡ true) → mate (joined s (j ∷ js) m) v ≡ mate (pair_one s j.offer m) v
    kept v i = joined_outside s js (pair_one s j.offer m) v (good_rest s j js g) (omega (arith, g.apart v, either_crowd s j js v i))

pub joined_in : (s : State) (js : List Join) (m : List (Option ℕ)) (j : Join) → s.members ≤ length m → Good s js → In j js → Wed s (joined s js m) j.offer
joined_in s [] m j len g i = elim i [ ]
joined_in s (k ∷ js) m j len g here = joined_here s k js m len g
joined_in s (k ∷ js) m j len g (there i) = joined_in s js _ j (simp length-set len) (good_rest s k js g) i

pub chain_left : (s : State) (xs ys : List Link) → Chain s (xs ++ ys) → Chain s xs
chain_left s [] ys c = tt
chain_left s (x ∷ []) ys c = tt
chain_left s (x ∷ (y ∷ zs)) ys c = (c.0, chain_left s (y ∷ zs) ys c.1)

pub chain_right : (s : State) (xs ys : List Link) → Chain s (xs ++ ys) → Chain s ys
chain_right s [] ys c = c
chain_right s (x ∷ xs) ys c = chain_right s xs ys (chain_rest s x (xs ++ ys) c)

pub chain_glue : (s : State) (xs : List Link) (y : Link) (ys : List Link) → Chain s (xs ++ (y ∷ [])) → Chain s (y ∷ ys) → Chain s (xs ++ (y ∷ ys))
chain_glue s [] y ys c d = d
chain_glue s (x ∷ []) y ys c d = (c.0, d)
chain_glue s (x ∷ (z ∷ zs)) y ys c d = (c.0, chain_glue s (z ∷ zs) y ys c.1 d)

-- a ring, opened at one part
pub chain_turned : (s : State) (before after : List Link) (x : Link) →
    Chain s ((before ++ (x ∷ after)) ++ take 1 (before ++ (x ∷ after))) → Chain s (after ++ before)
chain_turned s [] after x c = rw append-nil (chain_left s after (x ∷ []) (chain_rest s x (after ++ (x ∷ [])) c))
chain_turned s (y ∷ bs) after x c =
    let d : Chain s ((y ∷ bs) ++ ((x ∷ after) ++ (y ∷ []))) = subst (λ (zs : List Link). Chain s zs) (append_assoc (y ∷ bs) (x ∷ after) (y ∷ [])) c in
    let e : Chain s (x ∷ (after ++ (y ∷ []))) = chain_right s (y ∷ bs) ((x ∷ after) ++ (y ∷ [])) d in
    chain_glue s after y bs (chain_rest s x (after ++ (y ∷ [])) e) (chain_left s (y ∷ bs) ((x ∷ after) ++ (y ∷ [])) d)

-- both of them are among the tasks
pub one_in : (s : State) (js : List Join) (j : Join) → In j js → In (one_task s j) (tasks s js)
one_in s [] j i = elim i [ ]
one_in s (k ∷ js) j here = here
one_in s (k ∷ js) j (there i) = there (there (one_in s js j i))

pub other_in : (s : State) (js : List Join) (j : Join) → In j js → In (other_task s j) (tasks s js)
other_in s [] j i = elim i [ ]
other_in s (k ∷ js) j here = there here
other_in s (k ∷ js) j (there i) = there (there (other_in s js j i))

-- every part of an even number has a task
pub part_task : (s : State) (xs : List Link) (x : Link) → length xs % 2 ≡ 0 → In x xs → (task : Task) × In task (tasks s (by_twos xs)) × (task.node ≡ x.part)
part_task s [] x h i = elim i [ ]
part_task s (y ∷ []) x h i = absurd (omega arith)
part_task s (y ∷ (z ∷ zs)) x h here = (_, here, refl)
part_task s (y ∷ (z ∷ zs)) x h (there here) = (_, there here, refl)
part_task s (y ∷ (z ∷ zs)) x h (there (there i)) =
    let r = part_task s zs x (omega arith) i in (r.0, there (there r.1), r.2)

-- what is known of a task that comes from joining linked parts by twos
pub record Placed (s : State) (xs : List Link) (m : List (Option ℕ)) (task : Task) : Type 0 where
  pub link : Link
  pub link_in : In link xs
  pub part : link.part ≡ task.node
  pub held : node_holds s task.node task.member ≡ true
  pub source : Link
  pub source_in : In source xs
  pub first : mate m (first_of s source.offer) ≡ Some source.offer
  pub second : mate m (second_of s source.offer) ≡ Some source.offer
  pub end : (task.member ≡ first_of s source.offer) ⊎ (task.member ≡ second_of s source.offer)
  pub leaves : node_holds s task.node (first_of s source.offer) ≡ true → node_holds s task.node (second_of s source.offer) ≡ true → ⊥
  pub first_task : (t : Task) × In t (tasks s (by_twos xs)) × (t.member ≡ first_of s source.offer)
  pub second_task : (t : Task) × In t (tasks s (by_twos xs)) × (t.member ≡ second_of s source.offer)

-- each member of a join's offer has a task
module _ (s : State) (xs : List Link) (j : Join) (i : In j (by_twos xs)) (r : Ends s j.offer j.one j.other) where
  task_first : (e : ℕ) → e ≡ j.offer → (t : Task) × In t (tasks s (by_twos xs)) × (t.member ≡ first_of s e)
  task_first e q = elim r.are [
    | inl h ↦ (one_task s j, one_in s (by_twos xs) j i, sym (ap (first_of s) q ∙ h.0))
    | inr h ↦ (other_task s j, other_in s (by_twos xs) j i, sym (ap (first_of s) q ∙ h.1))
  ]

  task_second : (e : ℕ) → e ≡ j.offer → (t : Task) × In t (tasks s (by_twos xs)) × (t.member ≡ second_of s e)
  task_second e q = elim r.are [
    | inl h ↦ (other_task s j, other_in s (by_twos xs) j i, sym (ap (second_of s) q ∙ h.1))
    | inr h ↦ (one_task s j, one_in s (by_twos xs) j i, sym (ap (second_of s) q ∙ h.0))
  ]

-- the part that a task is at, whatever the mates are
pub record Stood (s : State) (xs : List Link) (task : Task) : Type 0 where
  pub link : Link
  pub link_in : In link xs
  pub part : link.part ≡ task.node
  pub held : node_holds s task.node task.member ≡ true

stood_join : (s : State) (xs : List Link) (task : Task) (j : Join) → Made s xs j → Ends s j.offer j.one j.other → Side s task j → Stood s xs task
stood_join s xs task j k r (inl h) = record { link = k.from; link_in = k.from_in; part = k.from_is ∙ sym h.0; held = rw (h.0, h.1) r.in_p }
stood_join s xs task j k r (inr h) = record { link = k.to; link_in = k.to_in; part = k.to_is ∙ sym h.0; held = rw (h.0, h.1) r.in_q }

pub stood : (s : State) (xs : List Link) (task : Task) → Chain s xs → Good s (by_twos xs) → In task (tasks s (by_twos xs)) → Stood s xs task
stood s xs task c g i =
    let o = of s (by_twos xs) task i in
    let k = made s xs o.join c o.is_in in
    stood_join s xs task o.join k (ends s _ _ _ (good_apart_in s (by_twos xs) o.join g o.is_in) k.between) o.side

-- a task's member is one of the two that its offer names
named : (s : State) (t : Task) (j : Join) → Ends s j.offer j.one j.other → Side s t j → (t.member ≡ first_of s j.offer) ⊎ (t.member ≡ second_of s j.offer)
named s t j r (inl h) = elim r.are [ inl k ↦ inl (h.1 ∙ sym k.0) | inr k ↦ inr (h.1 ∙ sym k.0) ]
named s t j r (inr h) = elim r.are [ inl k ↦ inr (h.1 ∙ sym k.1) | inr k ↦ inl (h.1 ∙ sym k.1) ]

-- the offer leads out of the task's node
leads_out : (s : State) (t : Task) (j : Join) → Apart s j.one j.other → Between s j.offer j.one j.other → Side s t j →
    node_holds s t.node (first_of s j.offer) ≡ true → node_holds s t.node (second_of s j.offer) ≡ true → ⊥
leads_out s t j apart b (inl h) = rw h.0 (between_leaves s _ _ _ apart b)
leads_out s t j apart b (inr h) = rw h.0 (between_leaves' s _ _ _ apart b)

pub placed : (s : State) (xs : List Link) (m : List (Option ℕ)) (task : Task) → Chain s xs → Good s (by_twos xs) →
    ((j : Join) → In j (by_twos xs) → Wed s m j.offer) → In task (tasks s (by_twos xs)) → Placed s xs m task
placed s xs m task c g wed i =
    let o = of s (by_twos xs) task i in
    let j = o.join in
    let k = made s xs j c o.is_in in
    let apart = good_apart_in s (by_twos xs) j g o.is_in in
    let r = ends s _ _ _ apart k.between in
    let at = stood s xs task c g i in
    let w = wed j o.is_in in
    let q = k.offers in
    record {
      link = at.link;
      link_in = at.link_in;
      part = at.part;
      held = at.held;
      source = k.from;
      source_in = k.from_in;
      first = rw q w.0;
      second = rw q w.1;
      end = rw q (named s task j r o.side);
      leaves = rw q (leads_out s task j apart k.between o.side);
      first_task = task_first s xs j o.is_in r _ q;
      second_task = task_second s xs j o.is_in r _ q;
    }

-- the member of a task is paired by the offer that its node is joined by
pub placed_by : (s : State) (xs : List Link) (m : List (Option ℕ)) (task : Task) (p : Placed s xs m task) → mate m task.member ≡ Some p.source.offer
placed_by s xs m task p = ⊎_elim (λ q. ap (mate m) q ∙ p.first) (λ q. ap (mate m) q ∙ p.second) p.end

pub placed_leaves : (s : State) (xs : List Link) (m : List (Option ℕ)) (task : Task) → Placed s xs m task → LeadsOut s m task.node task.member
placed_leaves s xs m task p e is f g =
    let by = placed_by s xs m task p in
    let q : e ≡ p.source.offer = cc in
    p.leaves (subst (λ (k : ℕ). node_holds s task.node (first_of s k) ≡ true) q f) (subst (λ (k : ℕ). node_holds s task.node (second_of s k) ≡ true) q g)
