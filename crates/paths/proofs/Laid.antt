-- What laying bare brings about, by induction over the work done. Assumes nothing.
use Rattle.std.proofs.Common.{◌≡◌, ℕ, ◌+◌, ◌%◌, ◌<◌, ◌≤◌, true, ◌⊎◌, List, ◌∷◌, ◌++◌, length, take, Some, Option, sym, refl, ap, ◌∙◌, subst, inl, inr, arith}
use Rattle.std.proofs.lemmas.List.{length-append}
use Rattle.std.proofs.lemmas.Bool.{cases_eq, cases_Bool}
use Rattle.matching.specs.Mates.{mate}
use Rattle.matching.specs.State.{State, first_of, second_of, node_holds}
use Rattle.matching.specs.Kept.{Node}
use Rattle.paths.specs.Bare.{Link, ring, Join, by_twos, joined, Task, piled, Laid}
use Rattle.paths.specs.Theorems.{LeadsOut}
use Rattle.paths.proofs.Lists.{In, here, there, bit, tcrowd, tasks, tcrowd_in, tcrowd_find, tcrowd_piled, piled_below, piled_in, piled_cases, tcrowd_twos, crowd, crowd_append, bit_of, bit_no, bit_yes, in_append, in_cases, bit_le1, crowd_in, in_left, in_right}
pub use Rattle.paths.proofs.Lists.{cons_each}
use Rattle.paths.proofs.Links.{Chain, made, Good, length_joined, joined_outside, joined_in, Placed, placed, placed_leaves, stood, part_task, chain_turned}
use Rattle.paths.proofs.Rings.{IsBlossom, RingOf, Rings, Lies, same, down}

-- each task's node is one, and holds its member
abbrev pub Ready : State → List Task → Type 0
Ready s ts = (t : Task) → In t ts → Node s t.node × (node_holds s t.node t.member ≡ true)

-- no member lies in the nodes of two tasks
abbrev pub ApartTasks : State → List Task → Type 0
ApartTasks s ts = (v : ℕ) → tcrowd s ts v ≤ 1

-- the offer e lies inside the node p, and is a ring offer of a blossom inside p
pub record Inner (s : State) (p e : ℕ) : Type 0 where
  pub blossom : ℕ
  pub is : IsBlossom s blossom
  pub within : Lies s blossom p
  pub link : Link
  pub rings : In link (ring s blossom)
  pub offers : link.offer ≡ e
  pub first : node_holds s p (first_of s e) ≡ true
  pub second : node_holds s p (second_of s e) ≡ true

-- v is paired by an offer inside p
pub record PairedIn (s : State) (m : List (Option ℕ)) (p v : ℕ) : Type 0 where
  pub offer : ℕ
  pub inner : Inner s p offer
  pub by : mate m v ≡ Some offer
  pub ends : (v ≡ first_of s offer) ⊎ (v ≡ second_of s offer)
  pub first : mate m (first_of s offer) ≡ Some offer
  pub second : mate m (second_of s offer) ≡ Some offer

-- v's mate lies inside p
pub record Inside (s : State) (m : List (Option ℕ)) (p v : ℕ) : Type 0 where
  pub offer : ℕ
  pub by : mate m v ≡ Some offer
  pub first : node_holds s p (first_of s offer) ≡ true
  pub second : node_holds s p (second_of s offer) ≡ true

-- just one member of p is not paired inside p
pub record OneBare (s : State) (m : List (Option ℕ)) (p : ℕ) : Type 0 where
  pub member : ℕ
  pub held : node_holds s p member ≡ true
  pub leaves : LeadsOut s m p member
  pub others : (v : ℕ) → node_holds s p v ≡ true → (v ≡ member → ⊥) → Inside s m p v

-- what laying bare brings about for one task
pub record BareAt (s : State) (m m' : List (Option ℕ)) (t : Task) : Type 0 where
  pub kept : mate m' t.member ≡ mate m t.member
  pub others : (v : ℕ) → node_holds s t.node v ≡ true → (v ≡ t.member → ⊥) → PairedIn s m' t.node v
  pub inside : LeadsOut s m t.node t.member → (c : ℕ) → IsBlossom s c → Lies s c t.node → OneBare s m' c

-- what the tasks bring about
pub record Did (s : State) (ts : List Task) (m m' : List (Option ℕ)) : Type 0 where
  pub outside : (v : ℕ) → tcrowd s ts v ≡ 0 → mate m' v ≡ mate m v
  pub bare : (t : Task) → In t ts → BareAt s m m' t

-- a member alone has no blossom in it
no_blossom : {s : State} {c p : ℕ} → Lies s c p → p < 200 → IsBlossom s c → ⊥
no_blossom same lt b = omega (arith, b.0)
no_blossom (down x b i w) lt c = omega (arith, b.0)

pub within_cases : {s : State} {c p : ℕ} → Lies s c p → (c ≡ p) ⊎ ((y : Link) × IsBlossom s p × In y (ring s p) × Lies s c y.part)
within_cases same = inl refl
within_cases (down y b i w) = inr (y, b, i, w)

-- what a part holds, its blossom holds
pub part_holds : (s : State) (p : ℕ) → RingOf s p → (x : Link) → In x (ring s p) → (v : ℕ) → node_holds s x.part v ≡ true → node_holds s p v ≡ true
part_holds s p r x i v h = bit_yes _ (omega (arith, crowd_in s v i h, r.splits v))

-- what is paired inside a part is paired inside the blossom
wider : (s : State) (p : ℕ) (b : IsBlossom s p) (r : RingOf s p) (x : Link) → In x (ring s p) → (m : List (Option ℕ)) (v : ℕ) → PairedIn s m x.part v → PairedIn s m p v
wider s p b r x i m v h = record {
  offer = h.offer;
  inner = record {
    blossom = h.inner.blossom;
    is = h.inner.is;
    within = down x b i h.inner.within;
    link = h.inner.link;
    rings = h.inner.rings;
    offers = h.inner.offers;
    first = part_holds s p r x i _ h.inner.first;
    second = part_holds s p r x i _ h.inner.second;
  };
  by = h.by;
  ends = h.ends;
  first = h.first;
  second = h.second;
}

pub inside_of : (s : State) (m : List (Option ℕ)) (p v : ℕ) → PairedIn s m p v → Inside s m p v
inside_of s m p v h = record { offer = h.offer; by = h.by; first = h.inner.first; second = h.inner.second }

-- the same outcome, from mates that agree at the task's member
bare_from : (s : State) (m m₁ m' : List (Option ℕ)) (t : Task) → mate m₁ t.member ≡ mate m t.member → BareAt s m₁ m' t → BareAt s m m' t
bare_from s m m₁ m' t e b = record { kept = b.kept ∙ e; others = b.others; inside = λ leaves. b.inside (λ o is. leaves o (sym e ∙ is)) }

-- the ring of a blossom opened at its part x: the other parts, joined by twos
module _ (s : State) (p : ℕ) (nest : Rings s) (b : IsBlossom s p) (before after : List Link) (x : Link) (eq : ring s p ≡ before ++ (x ∷ after)) where
  abbrev rest : List Link
  rest = after ++ before

  abbrev opened : List Task
  opened = tasks s (by_twos rest)

  its_ring : RingOf s p
  its_ring = nest.rings p b

  pub even : length rest % 2 ≡ 0
  even =
      let odd : length (before ++ (x ∷ after)) % 2 ≡ 1 = subst (λ (zs : List Link). length zs % 2 ≡ 1) eq its_ring.odd in
      omega (arith, odd, length-append before (x ∷ after), length-append after before)

  x_in : In x (ring s p)
  x_in = subst (λ (zs : List Link). In x zs) (sym eq) (in_right before here)

  rest_in : (y : Link) → In y rest → In y (ring s p)
  rest_in y i = subst (λ (zs : List Link). In y zs) (sym eq)
      (elim (in_append after before i) [ inl k ↦ in_right before (there k) | inr k ↦ in_left (x ∷ after) k ])

  ring_cases : (y : Link) → In y (ring s p) → (y ≡ x) ⊎ In y rest
  ring_cases y i = elim (in_append before (x ∷ after) (subst (λ (zs : List Link). In y zs) eq i)) [
    | inl k ↦ inr (in_right after k)
    | inr k ↦ elim (in_cases k) [ inl e ↦ inl e | inr l ↦ inr (in_left before l) ]
  ]

  -- a member of the blossom lies in x's part or in one of the tasks' nodes
  shared : (v : ℕ) → bit (node_holds s x.part v) + tcrowd s opened v ≡ bit (node_holds s p v)
  shared v = omega (
    arith,
    its_ring.splits v,
    ap (λ (zs : List Link). crowd s zs v) eq,
    crowd_append s before (x ∷ after) v,
    crowd_append s after before v,
    tcrowd_twos s rest v even,
  )

  chain : Chain s rest
  chain = chain_turned s before after x (subst (λ (zs : List Link). Chain s (zs ++ take 1 zs)) eq its_ring.linked)

  good : Good s (by_twos rest)
  good = record { apart = λ v. omega (arith, shared v, bit_le1 (node_holds s p v)); between = λ j i. (made s rest j chain i).between; below = low }
    where
      part_low : (y : Link) → In y rest → (q v : ℕ) → y.part ≡ q → node_holds s q v ≡ true → v < s.members
      part_low y i q v e h = nest.below _ _ (its_ring.nodes y (rest_in y i)) (subst (λ (z : ℕ). node_holds s z v ≡ true) (sym e) h)

      low : (j : Join) → In j (by_twos rest) → (v : ℕ) → (node_holds s j.one v ≡ true) ⊎ (node_holds s j.other v ≡ true) → v < s.members
      low j i v (inl h) = let k = made s rest j chain i in part_low k.from k.from_in j.one v k.from_is h
      low j i v (inr h) = let k = made s rest j chain i in part_low k.to k.to_in j.other v k.to_is h

  -- the tasks done, from the mates m to m': first x is laid bare at u, and each other part where its offer ends
  module _ (m m' : List (Option ℕ)) (len : s.members ≤ length m) (u : ℕ) (hu : node_holds s x.part u ≡ true)
      (first_bare : BareAt s (joined s (by_twos rest) m) m' (record { node = x.part; member = u }))
      (bare : (t : Task) → In t opened → BareAt s (joined s (by_twos rest) m) m' t) where
    abbrev m₁ : List (Option ℕ)
    m₁ = joined s (by_twos rest) m

    place : (t : Task) → In t opened → Placed s rest m₁ t
    place t i = placed s rest m₁ t chain good (λ j k. joined_in s (by_twos rest) m j len good k) i

    whole_holds : (y : Link) → In y (ring s p) → (v : ℕ) → node_holds s y.part v ≡ true → node_holds s p v ≡ true
    whole_holds = part_holds s p its_ring

    task_holds : (t : Task) → In t opened → (v : ℕ) → node_holds s t.node v ≡ true → node_holds s p v ≡ true
    task_holds t i v h =
        let k = place t i in
        whole_holds k.link (rest_in _ k.link_in) v (subst (λ (z : ℕ). node_holds s z v ≡ true) (sym k.part) h)

    -- an end of a joined offer is in the blossom, and keeps that offer as its mate
    end_held : (v : ℕ) → (t : Task) × In t opened × (t.member ≡ v) → node_holds s p v ≡ true
    end_held v (t, i, e) = subst (λ (z : ℕ). node_holds s p z ≡ true) e (task_holds t i _ (place t i).held)

    end_kept : (v : ℕ) → (t : Task) × In t opened × (t.member ≡ v) → mate m' v ≡ mate m₁ v
    end_kept v (t, i, e) = subst (λ (z : ℕ). mate m' z ≡ mate m₁ z) e (bare t i).kept

    -- the member of a task is paired by its ring offer
    at_end : (t : Task) → In t opened → PairedIn s m' p t.member
    at_end t i =
        let k = place t i in
        let e = k.source.offer in
        let first = end_kept (first_of s e) k.first_task ∙ k.first in
        let second = end_kept (second_of s e) k.second_task ∙ k.second in
        record {
          offer = e;
          inner = record {
            blossom = p;
            is = b;
            within = same;
            link = k.source;
            rings = rest_in _ k.source_in;
            offers = refl;
            first = end_held (first_of s e) k.first_task;
            second = end_held (second_of s e) k.second_task;
          };
          by = elim k.end [ inl q ↦ ap (mate m') q ∙ first | inr q ↦ ap (mate m') q ∙ second ];
          ends = k.end;
          first = first;
          second = second;
        }

    in_task : (v : ℕ) (t : Task) → In t opened → node_holds s t.node v ≡ true → PairedIn s m' p v
    in_task v t i h = elim (cases_eq v t.member) [
      | inl q ↦ subst (λ (z : ℕ). PairedIn s m' p z) (sym q) (at_end t i)
      | inr ne ↦ let k = place t i in
          wider s p b its_ring k.link (rest_in _ k.link_in) m' v (subst (λ (z : ℕ). PairedIn s m' z v) (sym k.part) ((bare t i).others v h ne))
    ]

    others : (v : ℕ) → node_holds s p v ≡ true → (v ≡ u → ⊥) → PairedIn s m' p v
    others v h ne = elim (cases_Bool (node_holds s x.part v)) [
      | inl k ↦ wider s p b its_ring x x_in m' v (first_bare.others v k ne)
      | inr k ↦ let f = tcrowd_find s opened v (omega (arith, shared v, bit_no _ k, bit_of _ h)) in in_task v f.0 f.1 f.2
    ]

    kept : mate m' u ≡ mate m u
    kept = first_bare.kept ∙ joined_outside s (by_twos rest) m u good (omega (arith, bit_of _ hu, shared u, bit_le1 (node_holds s p u)))

    inside : LeadsOut s m p u → (c : ℕ) → IsBlossom s c → Lies s c p → OneBare s m' c
    inside leaves c blossom w = elim (within_cases w) [
      | inl q ↦ subst (λ (z : ℕ). OneBare s m' z) (sym q) whole
      | inr d ↦ elim (ring_cases d.0 d.2) [
        | inl q ↦ in_first (subst (λ (y : Link). Lies s c y.part) q d.3)
        | inr i ↦ in_rest d.0 i d.3
      ]
    ]
      where
        whole : OneBare s m' p
        whole = record { member = u; held = whole_holds x x_in u hu; leaves = λ e is. leaves e (sym kept ∙ is); others = λ v k ne. inside_of s m' p v (others v k ne) }

        in_first : Lies s c x.part → OneBare s m' c
        in_first z = first_bare.inside
            (λ e is f g. leaves e (sym kept ∙ first_bare.kept ∙ is) (whole_holds x x_in _ f) (whole_holds x x_in _ g)) c blossom z

        in_rest : (y : Link) → In y rest → Lies s c y.part → OneBare s m' c
        in_rest y i z =
            let r = part_task s rest y even i in
            (bare r.0 r.1).inside (placed_leaves s rest m₁ r.0 (place r.0 r.1)) c blossom (subst (λ (k : ℕ). Lies s c k) (sym r.2) z)

pub blossom_of : (s : State) (p : ℕ) → Rings s → 200 ≤ p → Node s p → IsBlossom s p
blossom_of s p nest le (inl l) = absurd (omega (arith, nest.few))
blossom_of s p nest le (inr b) = b

did_alone : (s : State) → Rings s → (t : Task) (ts : List Task) (m m' : List (Option ℕ)) → t.node < 200 → Ready s (t ∷ ts) → ApartTasks s (t ∷ ts) →
    Did s ts m m' → Did s (t ∷ ts) m m'
did_alone s nest t ts m m' lt ready apart d = record { outside = λ v none. d.outside v (omega arith); bare = cons_each (BareAt s m m') t ts alone d.bare }
  where
    h : node_holds s t.node t.member ≡ true
    h = (ready t here).1

    alone : BareAt s m m' t
    alone = record {
      kept = d.outside t.member (omega (arith, bit_of _ h, apart t.member));
      others = λ v hv ne. absurd (ne (nest.alone _ _ lt hv ∙ sym (nest.alone _ _ lt h)));
      inside = λ leaves c b w. absurd (no_blossom w lt b);
    }

-- a task at a blossom, opened at its part x
module _ (s : State) (nest : Rings s) (t : Task) (ts : List Task) (before after : List Link) (x : Link)
    (b : IsBlossom s t.node) (eq : ring s t.node ≡ before ++ (x ∷ after)) where
  abbrev js : List Join
  js = by_twos (after ++ before)

  abbrev first : Task
  first = record { node = x.part; member = t.member }

  joins_good : Good s js
  joins_good = good s t.node nest b before after x eq

  -- opening it leaves each member in as many tasks' nodes
  pub crowd_round : (u v : ℕ) → tcrowd s (piled s js (record { node = x.part; member = u } ∷ ts)) v ≡ tcrowd s (t ∷ ts) v
  crowd_round u v = omega (arith, tcrowd_piled s js (record { node = x.part; member = u } ∷ ts) v, shared s t.node nest b before after x eq v)

  pub apart_round : ApartTasks s (t ∷ ts) → ApartTasks s (piled s js (first ∷ ts))
  apart_round apart v = omega (arith, crowd_round t.member v, apart v)

  pub ready_round : node_holds s x.part t.member ≡ true → Ready s (t ∷ ts) → Ready s (piled s js (first ∷ ts))
  ready_round h ready k i = elim (piled_cases s js (first ∷ ts) k i) [
    | inl l ↦ let at = stood s (after ++ before) k (chain s t.node nest b before after x eq) joins_good l in (
      subst (λ (z : ℕ). Node s z) at.part ((nest.rings _ b).nodes at.link (rest_in s t.node nest b before after x eq _ at.link_in)),
      at.held,
    )
    | inr l ↦ cons_each (λ (k : Task). Node s k.node × (node_holds s k.node k.member ≡ true)) first ts
        ((nest.rings _ b).nodes x (x_in s t.node nest b before after x eq), h) (λ k i. ready k (there i)) k l
  ]

  did_round : node_holds s x.part t.member ≡ true → (m m' : List (Option ℕ)) → s.members ≤ length m → Ready s (t ∷ ts) → ApartTasks s (t ∷ ts) →
      Did s (piled s js (first ∷ ts)) (joined s js m) m' → Did s (t ∷ ts) m m'
  did_round h m m' len ready apart d = record {
    outside = λ v none. d.outside v (omega (arith, none, crowd_round t.member v)) ∙ untouched v (omega (arith, none, crowd_round t.member v, tcrowd_piled s js (first ∷ ts) v));
    bare = cons_each (BareAt s m m') t ts
        (record {
          kept = kept s t.node nest b before after x eq m m' len t.member h first_bare rest_bare;
          others = others s t.node nest b before after x eq m m' len t.member h first_bare rest_bare;
          inside = inside s t.node nest b before after x eq m m' len t.member h first_bare rest_bare;
        })
        later;
  }
    where
      untouched : (v : ℕ) → tcrowd s (tasks s js) v ≡ 0 → mate (joined s js m) v ≡ mate m v
      untouched v none = joined_outside s js m v joins_good none

      first_bare : BareAt s (joined s js m) m' first
      first_bare = d.bare first (piled_below s js here)

      rest_bare : (k : Task) → In k (tasks s js) → BareAt s (joined s js m) m' k
      rest_bare k i = d.bare k (piled_in s js _ k i)

      later : (k : Task) → In k ts → BareAt s m m' k
      later k i = bare_from s m (joined s js m) m' k
          (untouched k.member (omega (
            arith,
            apart k.member,
            crowd_round t.member k.member,
            tcrowd_piled s js (first ∷ ts) k.member,
            tcrowd_in s k.member i (ready k (there i)).1,
          )))
          (d.bare k (piled_below s js (there i)))

pub did : (s : State) → Rings s → {ts : List Task} {m m' : List (Option ℕ)} → Laid s ts m m' → s.members ≤ length m → Ready s ts → ApartTasks s ts → Did s ts m m'
did s nest Laid.none len ready apart = record { outside = λ v h. refl; bare = λ t i. elim i [ ] }
did s nest (Laid.alone {t = t} {ts = ts} {m = m} {m' = m'} lt l) len ready apart =
    did_alone s nest t ts m m' lt ready apart (did s nest l len (λ k i. ready k (there i)) (λ v. omega (arith, apart v)))
did s nest (Laid.round {t = t} {ts = ts} {m = m} {m' = m'} before after x le eq h l) len ready apart =
    let b = blossom_of s t.node nest le (ready t here).0 in
    did_round s nest t ts before after x b eq h m m' len ready apart
    (did s nest l (rw length_joined len) (ready_round s nest t ts before after x b eq h ready) (apart_round s nest t ts before after x b eq apart))
