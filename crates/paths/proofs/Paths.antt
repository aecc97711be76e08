-- What pairing along a path and laying bare its roots bring about. Assumes nothing.
use Rattle.std.proofs.Common.{◌≡◌, ℕ, ◌+◌, ◌-◌, ◌%◌, ◌<◌, ◌≤◌, true, cond, eqb, ◌⊎◌, List, [], ◌∷◌, ◌++◌, length, get_or, Some, None, Option, sym, refl, ap, ◌∙◌, subst, inl, inr, ⊎_elim, arith}
use Rattle.std.proofs.lemmas.List.{length-append}
use Rattle.std.proofs.lemmas.Bool.{and_parts, and_from, both_ways, cases_Bool, cases_eq, cases_lt, cond-true, cond-false, eq-eqb, ne_eqb}
use Rattle.matching.specs.Mates.{mate, is_none}
use Rattle.matching.specs.Sums.{below}
use Rattle.matching.specs.State.{State, Blossom, first_of, second_of, root_at, blossom_at, InUse, inside, node_holds, spans, loose_in}
use Rattle.matching.specs.Kept.{Kept, Mated, Node, Outermost, met}
use Rattle.matching.proofs.Sums.{total_add, total_below_same, point}
use Rattle.matching.proofs.Inside.{one_bare}
use Rattle.steps.proofs.Searches.{some_none}
use Rattle.paths.specs.Walk.{across}
use Rattle.paths.specs.Bare.{Link, ring, Join, by_twos, joined, Task, end_in, piled, Laid}
use Rattle.paths.specs.Augment.{way, with_mates, Exchanged}
use Rattle.paths.specs.Theorems.{LeadsOut}
use Rattle.paths.proofs.Lists.{In, here, there, bit_of, crowd, crowd_in, crowd_find, crowd_append, tasks, tcrowd_find, tcrowd_piled, piled_in, piled_cases, tcrowd_twos, in_append, in_cases, in_left, in_right}
use Rattle.paths.proofs.Links.{Chain, made, Good, of, Wed, length_joined, joined_outside, joined_in, Placed, placed, placed_by, placed_leaves, one_task, one_in, part_task, chain_left, chain_rest}
use Rattle.paths.proofs.Rings.{IsBlossom, Rings, Lies, same, rings_of, place_of, holds_blossom}
use Rattle.paths.proofs.Laid.{Ready, ApartTasks, Inside, OneBare, Did, did}
use Rattle.paths.proofs.Nest.{laminar, lies_holds, root_lies}
use Rattle.paths.proofs.Walks.{zero_of, path, Path, front, last_link, way_split, Accepted, path_of}

none_some : (o : Option ℕ) (e : ℕ) → o ≡ None → o ≡ Some e → ⊥
none_some o e p q = some_none (sym q ∙ p)

-- linked parts, apart, an even number of them: their joins are good
good_path : (s : State) → Rings s → (xs : List Link) → length xs % 2 ≡ 0 → ((y : Link) → In y xs → Node s y.part) → ((v : ℕ) → crowd s xs v ≤ 1) → Chain s xs → Good s (by_twos xs)
good_path s nest xs even nodes apart c = record {
  apart = λ v. omega (arith, tcrowd_twos s xs v even, apart v);
  between = λ j i. (made s xs j c i).between;
  below = λ j i v h.
      let k = made s xs j c i in
      ⊎_elim
      (λ p. nest.below _ _ (nodes k.from k.from_in) (subst (λ (z : ℕ). node_holds s z v ≡ true) (sym k.from_is) p))
      (λ p. nest.below _ _ (nodes k.to k.to_in) (subst (λ (z : ℕ). node_holds s z v ≡ true) (sym k.to_is) p)) h;
}

-- the mate that pairs a member inside a blossom
pub met_some : (s : State) (b : Blossom) (o : Option ℕ) → met s b o ≡ true → (e : ℕ) × (o ≡ Some e) × (spans s b e ≡ true)
met_some s b None h = absurd (both_ways true (sym h) refl)
met_some s b (Some e) h = (e, refl, h)

-- in a kept state each blossom has one member that is not paired inside it
pub bare_before : (s : State) → Kept s → (q : ℕ) → IsBlossom s q → OneBare s s.mates q
bare_before s kept q b =
    let o = one_bare s (q - 200) kept b.1 in
    let bl = blossom_at s (q - 200) in
    let inner : ((v : ℕ) → node_holds s q v ≡ inside bl v) = λ v. holds_blossom s q v b.0 in
    record {
      member = o.member;
      held = inner o.member ∙ o.held;
      leaves = λ e is f g.
          both_ways (met s bl (mate s.mates o.member)) o.unmet
          (ap (met s bl) is ∙ and_from (inside bl (first_of s e)) (inside bl (second_of s e)) (sym (inner _) ∙ f) (sym (inner _) ∙ g));
      others = λ v h ne. ⊎_elim
          (λ inner-mate.
          let r = met_some s bl (mate s.mates v) inner-mate in
          let both = and_parts (inside bl (first_of s r.0)) (inside bl (second_of s r.0)) r.2 in
          record { offer = r.0; by = r.1; first = inner _ ∙ both.0; second = inner _ ∙ both.1 })
          (λ bare_one. absurd (ne (o.only v (sym (inner v) ∙ h) bare_one)))
          (cases_Bool (met s bl (mate s.mates v)));
    }

-- a node has at most one member that is not paired inside it
pub only_bare : (s : State) → Kept s → (q w : ℕ) → Node s q → node_holds s q w ≡ true → LeadsOut s s.mates q w →
    (v : ℕ) → node_holds s q v ≡ true → (v ≡ w → ⊥) → Inside s s.mates q v
only_bare s kept q w (inl a) hw leaves v hv ne =
    let nest = rings_of s kept in
    let low : q < 200 = omega (arith, nest.few) in
    absurd (ne (nest.alone q v low hv ∙ sym (nest.alone q w low hw)))
only_bare s kept q w (inr b) hw leaves v hv ne =
    let o = bare_before s kept q b in
    ⊎_elim
    (λ e. o.others v hv (λ p. ne (p ∙ sym e)))
    (λ nw. let i = o.others w hw nw in absurd (leaves i.offer i.by i.first i.second))
    (cases_eq w o.member)

unpile : (s : State) (js : List Join) (m m' : List (Option ℕ)) → Did s (piled s js []) m m' → Did s (tasks s js) m m'
unpile s js m m' d = record {
  outside = λ v h. d.outside v (omega (arith, tcrowd_piled s js [] v));
  bare = λ t i. d.bare t (piled_in s js [] t i);
}

-- where a root of the path is left: by an offer of the path, or not at all
record Stop (s : State) (xs : List Link) (q : ℕ) : Type 0 where
  pub member : ℕ
  pub held : node_holds s q member ≡ true
  pub leaves : LeadsOut s s.mates q member
  pub stays : (e : ℕ) → mate s.mates member ≡ Some e → (0 < crowd s xs (first_of s e)) × (0 < crowd s xs (second_of s e))

-- a ring offer, inside one root
pub record Ringed (s : State) (e : ℕ) : Type 0 where
  pub place : ℕ
  pub used : InUse s place
  pub at : ℕ
  pub there : at < length (blossom_at s place).joins
  pub is : get_or (blossom_at s place).joins at 0 ≡ e
  pub one_root : root_at s (first_of s e) ≡ root_at s (second_of s e)

-- the offer e joins two links of the path by twos
abbrev pub Joins : List Link → ℕ → Type 0
Joins xs e = (j : Join) × In j (by_twos xs) × (j.offer ≡ e)

-- the offer e pairs the member v, and was a ring offer or an unpaired offer of the path
pub record Paired (s : State) (xs : List Link) (m : List (Option ℕ)) (v : ℕ) : Type 0 where
  pub offer : ℕ
  pub by : mate m v ≡ Some offer
  pub mated : Mated (with_mates s m) v offer
  pub source : Ringed s offer ⊎ Joins xs offer

end_names : (s : State) (p e : ℕ) → (end_in s p e ≡ first_of s e) ⊎ (end_in s p e ≡ second_of s e)
end_names s p e = ⊎_elim (λ h. inl (cond-true (node_holds s p (first_of s e)) _ _ h)) (λ h. inr (cond-false (node_holds s p (first_of s e)) _ _ h))
    (cases_Bool (node_holds s p (first_of s e)))

wed_end : (s : State) (m : List (Option ℕ)) (p e v : ℕ) → v ≡ end_in s p e → Wed s m e → mate m v ≡ Some e
wed_end s m p e v q w = ⊎_elim (λ f. ap (mate m) (q ∙ f) ∙ w.0) (λ f. ap (mate m) (q ∙ f) ∙ w.1) (end_names s p e)

positive_or : (k : ℕ) → (0 < k) ⊎ (k ≡ 0)
positive_or k = ⊎_elim inl (λ h. inr (omega arith)) (cases_lt 0 k)

module _ (s : State) (x : Link) (mid : List Link) (z : Link) (kept : Kept s) (p : Path s x mid z) where
  nest : Rings s
  nest = rings_of s kept

  abbrev xs : List Link
  xs = path x mid z

  abbrev after : List (Option ℕ)
  after = joined s (by_twos xs) s.mates

  full : s.members ≤ length s.mates
  full = omega (arith, kept.sized.few, kept.sized.mates)

  even_path : length xs % 2 ≡ 0
  even_path = omega (arith, length-append mid (z ∷ []), p.even)

  good : Good s (by_twos xs)
  good = good_path s nest xs even_path p.nodes p.apart p.linked

  mid_in : (y : Link) → In y mid → In y xs
  mid_in y i = there (in_left (z ∷ []) i)

  z_in : In z xs
  z_in = there (in_right mid here)

  mid_chain : Chain s mid
  mid_chain = chain_left s mid (z ∷ []) (chain_rest s x (mid ++ (z ∷ [])) p.linked)

  mid_good : Good s (by_twos mid)
  mid_good = good_path s nest mid p.even (λ y i. p.nodes y (mid_in y i)) (λ v. omega (arith, crowd_append s mid (z ∷ []) v, p.apart v)) mid_chain

  mid_place : (t : Task) → In t (tasks s (by_twos mid)) → Placed s mid s.mates t
  mid_place t i = placed s mid s.mates t mid_chain mid_good p.were i

  on_mid : (t : Task) → In t (tasks s (by_twos mid)) → (v : ℕ) → t.member ≡ v → 0 < crowd s xs v
  on_mid t i v q =
      let k = mid_place t i in
      subst (λ (u : ℕ). 0 < crowd s xs u) q
      (crowd_in s {x = k.link} {xs = xs} t.member (mid_in _ k.link_in) (subst (λ (u : ℕ). node_holds s u t.member ≡ true) (sym k.part) k.held))

  mid_stop : (y : Link) → In y mid → Stop s xs y.part
  mid_stop y i =
      let r = part_task s mid y p.even i in
      let t = r.0 in
      let k = mid_place t r.1 in
      subst (λ (u : ℕ). Stop s xs u) r.2
      (record {
        member = t.member;
        held = k.held;
        leaves = placed_leaves s mid s.mates t k;
        stays = λ e is.
            let by = placed_by s mid s.mates t k in
            let q : k.source.offer ≡ e = cc in (
              on_mid k.first_task.0 k.first_task.1 _ (k.first_task.2 ∙ ap (first_of s) q),
              on_mid k.second_task.0 k.second_task.1 _ (k.second_task.2 ∙ ap (second_of s) q),
            );
      })

  loose_stop : (q a : ℕ) → node_holds s q a ≡ true → mate s.mates a ≡ None → Stop s xs q
  loose_stop q a h nil = record {
    member = a;
    held = h;
    leaves = λ e is. absurd (none_some _ e nil is);
    stays = λ e is. absurd (none_some _ e nil is);
  }

  stop : (y : Link) → In y xs → Stop s xs y.part
  stop y i = ⊎_elim
      (λ q. subst (λ (l : Link). Stop s xs l.part) (sym q) (loose_stop x.part p.start.0 p.start.1 p.start.2))
      (λ k. ⊎_elim (mid_stop y)
      (λ l. ⊎_elim
      (λ q. subst (λ (l : Link). Stop s xs l.part) (sym q) (loose_stop z.part p.finish.0 p.finish.1 p.finish.2))
      (λ i₀. elim i₀ [ ])
      (in_cases l))
      (in_append mid (z ∷ []) k))
      (in_cases i)

  -- a mate does not lead off the path
  closed : (v e : ℕ) → 0 < crowd s xs v → mate s.mates v ≡ Some e → (0 < crowd s xs (first_of s e)) × (0 < crowd s xs (second_of s e))
  closed v e on is =
      let f = crowd_find s xs v on in
      let t = stop f.0 f.1 in
      ⊎_elim
      (λ q. t.stays e (ap (mate s.mates) (sym q) ∙ is))
      (λ ne.
      let k = only_bare s kept f.0.part t.member (p.nodes _ f.1) t.held t.leaves v f.2 ne in
      let by = k.by in
      let q : k.offer ≡ e = cc in (
        subst (λ (u : ℕ). 0 < crowd s xs (first_of s u)) q (crowd_in s {x = f.0} {xs = xs} _ f.1 k.first),
        subst (λ (u : ℕ). 0 < crowd s xs (second_of s u)) q (crowd_in s {x = f.0} {xs = xs} _ f.1 k.second),
      ))
      (cases_eq v t.member)

  -- a member on the path other than the two loose ones is paired
  was_paired : (v : ℕ) → 0 < crowd s xs v → (v ≡ p.start.0 → ⊥) → (v ≡ p.finish.0 → ⊥) → (e : ℕ) × (mate s.mates v ≡ Some e)
  was_paired v h na nb =
      let f = crowd_find s xs v h in
      let hv = f.2 in
      ⊎_elim
      (λ q.
      let k = only_bare s kept x.part p.start.0 (p.nodes x here) p.start.1 (λ e is. absurd (none_some _ e p.start.2 is)) v
      (subst (λ (l : Link). node_holds s l.part v ≡ true) q hv) na in
      (k.offer, k.by))
      (λ i. ⊎_elim
      (λ j.
      let r = part_task s mid f.0 p.even j in
      let k = mid_place r.0 r.1 in
      ⊎_elim
      (λ q. (k.source.offer, ap (mate s.mates) q ∙ placed_by s mid s.mates r.0 k))
      (λ ne.
      let o = only_bare s kept r.0.node r.0.member (subst (λ (u : ℕ). Node s u) (sym r.2) (p.nodes _ f.1)) k.held
      (placed_leaves s mid s.mates r.0 k) v (subst (λ (u : ℕ). node_holds s u v ≡ true) (sym r.2) hv) ne in
      (o.offer, o.by))
      (cases_eq v r.0.member))
      (λ j. ⊎_elim
      (λ q.
      let k = only_bare s kept z.part p.finish.0 (p.nodes z z_in) p.finish.1 (λ e is. absurd (none_some _ e p.finish.2 is)) v
      (subst (λ (l : Link). node_holds s l.part v ≡ true) q hv) nb in
      (k.offer, k.by))
      (λ i₀. elim i₀ [ ])
      (in_cases j))
      (in_append mid (z ∷ []) i))
      (in_cases f.1)

  differ : p.start.0 ≡ p.finish.0 → ⊥
  differ q =
      let v = p.start.0 in
      let b1 = bit_of _ p.start.1 in
      let c = crowd_in s {x = z} {xs = mid ++ (z ∷ [])} v (in_right mid here) (subst (λ (u : ℕ). node_holds s z.part u ≡ true) (sym q) p.finish.1) in
      omega (arith, p.apart v)

  -- a root of the path is a part of no ring
  free : (y : Link) → In y xs → (d : ℕ) (l : Link) → IsBlossom s d → In l (ring s d) → l.part ≡ y.part → ⊥
  free y i d l b k q =
      let at = place_of (blossom_at s (d - 200)).parts (blossom_at s (d - 200)).joins l k in
      p.roots y i (d - 200) at.at b.1 at.there (at.part ∙ q)

  -- a blossom that shares a member with the path lies in one of its roots
  on_path : (c v : ℕ) → IsBlossom s c → node_holds s c v ≡ true → 0 < crowd s xs v → (y : Link) × In y xs × Lies s c y.part
  on_path c v b hc h =
      let f = crowd_find s xs v h in (
        f.0,
        f.1,
        ⊎_elim (λ w. w)
            (λ w. subst (λ (u : ℕ). Lies s c u) (sym (root_lies w (free _ f.1))) same)
            (laminar s nest c f.0.part v (inr b) (p.nodes _ f.1) hc f.2),
      )

  place : (t : Task) → In t (tasks s (by_twos xs)) → Placed s xs after t
  place t i = placed s xs after t p.linked good (λ j k. joined_in s (by_twos xs) s.mates j full good k) i

  pub path_ready : Ready s (piled s (by_twos xs) [])
  path_ready t i =
      let k = place t (⊎_elim (λ z. z) (λ i₀. elim i₀ [ ]) (piled_cases s (by_twos xs) [] t i)) in
      (subst (λ (u : ℕ). Node s u) k.part (p.nodes k.link k.link_in), k.held)

  pub path_apart : ApartTasks s (piled s (by_twos xs) [])
  path_apart v = omega (arith, tcrowd_piled s (by_twos xs) [] v, good.apart v)

  module _ (m' : List (Option ℕ)) (laid : Laid s (piled s (by_twos xs) []) after m') where
    done : Did s (tasks s (by_twos xs)) after m'
    done = unpile s (by_twos xs) after m' (did s nest laid (rw length_joined full) path_ready path_apart)

    off : (v : ℕ) → crowd s xs v ≡ 0 → mate m' v ≡ mate s.mates v
    off v h =
        let t = tcrowd_twos s xs v even_path in
        done.outside v (omega arith) ∙ joined_outside s (by_twos xs) s.mates v good (omega arith)

    -- the member of a task
    at_end : (t : Task) → In t (tasks s (by_twos xs)) → Paired s xs m' t.member
    at_end t i =
        let k = place t i in
        let f = k.first_task in
        let g = k.second_task in
        let e = k.source.offer in
        let fm : mate m' (first_of s e) ≡ Some e =
        subst (λ (u : ℕ). mate m' u ≡ mate after u) f.2 (done.bare f.0 f.1).kept ∙ k.first in
        let gm : mate m' (second_of s e) ≡ Some e =
        subst (λ (u : ℕ). mate m' u ≡ mate after u) g.2 (done.bare g.0 g.1).kept ∙ k.second in
        let o = of s (by_twos xs) t i in
        let wed = joined_in s (by_twos xs) s.mates o.join full good o.is_in in
        let by = placed_by s xs after t k in
        let by' : mate after t.member ≡ Some o.join.offer = ⊎_elim
        (λ side. wed_end s after o.join.one o.join.offer t.member side.1 wed)
        (λ side. wed_end s after o.join.other o.join.offer t.member side.1 wed) o.side in
        let q : o.join.offer ≡ e = cc in
        record {
          offer = e;
          by = (done.bare t i).kept ∙ by;
          mated = record { known = subst (λ (u : ℕ). u < length s.rows) q (p.known o.join o.is_in); names = k.end; first = fm; second = gm };
          source = inr (o.join, o.is_in, q);
        }

    -- each member on the path is paired
    pub on : (v : ℕ) → 0 < crowd s xs v → Paired s xs m' v
    on v h =
        let t = tcrowd_twos s xs v even_path in
        let f = tcrowd_find s (tasks s (by_twos xs)) v (omega arith) in
        ⊎_elim
        (λ q. subst (λ (u : ℕ). Paired s xs m' u) (sym q) (at_end f.0 f.1))
        (λ ne.
        let k = (done.bare f.0 f.1).others v f.2 ne in
        let e = k.offer in
        let lt : e < length s.rows = subst (λ (u : ℕ). u < length s.rows) k.inner.offers ((nest.rings _ k.inner.is).offers _ k.inner.rings) in
        let at = place_of (blossom_at s (k.inner.blossom - 200)).parts (blossom_at s (k.inner.blossom - 200)).joins k.inner.link k.inner.rings in
        let pl = place f.0 f.1 in
        let outer : Outermost s f.0.node = subst (λ (u : ℕ). Outermost s u) pl.part (p.roots _ pl.link_in) in
        record {
          offer = e;
          by = k.by;
          mated = record { known = lt; names = k.ends; first = k.first; second = k.second };
          source = inl (record {
            place = k.inner.blossom - 200;
            used = k.inner.is.1;
            at = at.at;
            there = at.joins;
            is = at.offer ∙ k.inner.offers;
            one_root =
                sym (kept.nested.root_only _ f.0.node (kept.rows e lt).first_in k.inner.first outer)
                ∙ kept.nested.root_only _ f.0.node (kept.rows e lt).second_in k.inner.second outer;
          });
        })
        (cases_eq v f.0.member)

    -- the offer of a join is paired
    pub joins_paired : (j : Join) → In j (by_twos xs) → Wed s m' j.offer
    joins_paired j i =
        let t = one_task s j in
        let k = one_in s (by_twos xs) j i in
        let wed = joined_in s (by_twos xs) s.mates j full good i in
        let by = (done.bare t k).kept ∙ wed_end s after j.one j.offer t.member refl wed in
        let r = at_end t k in
        let by' = r.by in
        let q : r.offer ≡ j.offer = cc in
        subst (λ (e : ℕ). Wed s m' e) q (r.mated.first, r.mated.second)

    pub mutual_after : (v e : ℕ) → v < s.members → mate m' v ≡ Some e → Mated (with_mates s m') v e
    mutual_after v e lt is = ⊎_elim
        (λ h.
        let r = on v h in
        let by = r.by in
        let q : r.offer ≡ e = cc in
        subst (λ (u : ℕ). Mated (with_mates s m') v u) q r.mated)
        (λ h.
        let was : mate s.mates v ≡ Some e = sym (off v h) ∙ is in
        let k = kept.mates v e lt was in
        -- an end on the path would bring v onto it
        let never : ((u : ℕ) → mate s.mates u ≡ Some e → 0 < crowd s xs u → ⊥) = λ u iu hu.
        let c = closed u e hu iu in
        ⊎_elim (λ q. omega (arith, c.0, h, ap (crowd s xs) q)) (λ q. omega (arith, c.1, h, ap (crowd s xs) q)) k.names in
        record {
          known = k.known;
          names = k.names;
          first = off _ (zero_of _ (never _ k.first)) ∙ k.first;
          second = off _ (zero_of _ (never _ k.second)) ∙ k.second;
        })
        (positive_or (crowd s xs v))

    pub still_loose : (v : ℕ) → mate m' v ≡ None → mate s.mates v ≡ None
    still_loose v nil = ⊎_elim (λ h. let r = on v h in absurd (none_some _ _ nil r.by)) (λ h. sym (off v h) ∙ nil) (positive_or (crowd s xs v))

    -- a paired offer was paired before, or is a ring offer or one of the path
    pub source_of : (v e : ℕ) → mate m' v ≡ Some e → (mate s.mates v ≡ Some e) ⊎ (Ringed s e ⊎ Joins xs e)
    source_of v e is = ⊎_elim
        (λ h.
        let r = on v h in
        let by = r.by in
        let q : r.offer ≡ e = cc in
        inr (subst (λ (u : ℕ). Ringed s u ⊎ Joins xs u) q r.source))
        (λ h. inl (sym (off v h) ∙ is))
        (positive_or (crowd s xs v))

    pub bare_after : (c : ℕ) → IsBlossom s c → OneBare s m' c
    bare_after c b =
        let o = bare_before s kept c b in
        ⊎_elim
        (λ h.
        let y = on_path c o.member b o.held h in
        let r = part_task s xs y.0 even_path y.1 in
        (done.bare r.0 r.1).inside (placed_leaves s xs after r.0 (place r.0 r.1)) c b
        (subst (λ (u : ℕ). Lies s c u) (sym r.2) y.2))
        (λ h.
        let clear : ((v : ℕ) → node_holds s c v ≡ true → crowd s xs v ≡ 0) = λ v hv. zero_of _ (λ on-v.
        let y = on_path c v b hv on-v in
        let k = crowd_in s {x = y.0} {xs = xs} o.member y.1 (lies_holds s nest y.2 _ o.held) in
        omega arith) in
        record {
          member = o.member;
          held = o.held;
          leaves = λ e is. o.leaves e (sym (off _ h) ∙ is);
          others = λ v hv ne.
              let k = o.others v hv ne in
              record { offer = k.offer; by = off v (clear v hv) ∙ k.by; first = k.first; second = k.second };
        })
        (positive_or (crowd s xs o.member))

    -- two members fewer are loose: the two at the ends of the path
    loose : List (Option ℕ) → ℕ → ℕ
    loose m v = cond (is_none (mate m v)) 1 0

    is_loose_one : (m : List (Option ℕ)) (v : ℕ) → mate m v ≡ None → loose m v ≡ 1
    unfolding loose
    is_loose_one m v h = ap (λ (o : Option ℕ). cond (is_none o) 1 0) h

    is_loose_none : (m : List (Option ℕ)) (v e : ℕ) → mate m v ≡ Some e → loose m v ≡ 0
    unfolding loose
    is_loose_none m v e h = ap (λ (o : Option ℕ). cond (is_none o) 1 0) h

    one : ℕ → ℕ → ℕ
    one a v = cond (eqb a v) 1 0

    one_at : (a v : ℕ) → a ≡ v → one a v ≡ 1
    unfolding one
    one_at a v e = ap (λ b. cond b 1 0) (eq-eqb a v e)

    one_off : (a v : ℕ) → (a ≡ v → ⊥) → one a v ≡ 0
    unfolding one
    one_off a v d = ap (λ b. cond b 1 0) (ne_eqb a v d)

    end_loose : (v : ℕ) → mate s.mates v ≡ None → 0 < crowd s xs v → loose s.mates v ≡ loose m' v + 1
    end_loose v nil h = let r = on v h in omega (arith, is_loose_one s.mates v nil, is_loose_none m' v r.offer r.by)

    as_loose : (v : ℕ) → (v ≡ p.start.0 → ⊥) → (v ≡ p.finish.0 → ⊥) → loose s.mates v ≡ loose m' v
    unfolding loose
    as_loose v na nb = ⊎_elim
        (λ h.
        let r = on v h in
        let w = was_paired v h na nb in
        is_loose_none s.mates v w.0 w.1 ∙ sym (is_loose_none m' v r.offer r.by))
        (λ h. ap (λ (o : Option ℕ). cond (is_none o) 1 0) (sym (off v h)))
        (positive_or (crowd s xs v))

    each_loose : (v : ℕ) → loose s.mates v ≡ loose m' v + (one p.start.0 v + one p.finish.0 v)
    each_loose v = ⊎_elim
        (λ q.
        let a = end_loose p.start.0 p.start.2 (crowd_in s {x = x} {xs = xs} _ here p.start.1) in
        let a' = subst (λ (u : ℕ). loose s.mates u ≡ loose m' u + 1) q a in
        omega (arith, a', one_at p.start.0 v q, one_off p.finish.0 v (λ k. differ (q ∙ sym k))))
        (λ na. ⊎_elim
        (λ q.
        let b = end_loose p.finish.0 p.finish.2 (crowd_in s {x = z} {xs = xs} _ z_in p.finish.1) in
        let b' = subst (λ (u : ℕ). loose s.mates u ≡ loose m' u + 1) q b in
        omega (arith, b', one_off p.start.0 v na, one_at p.finish.0 v q))
        (λ nb. omega (arith, as_loose v (λ k. na (sym k)) (λ k. nb (sym k)), one_off p.start.0 v na, one_off p.finish.0 v nb))
        (cases_eq p.finish.0 v))
        (cases_eq p.start.0 v)

    pub two_fewer : loose_in s ≡ loose_in (with_mates s m') + 2
    unfolding loose one
    two_fewer =
        let a = p.start.0 in
        let b = p.finish.0 in
        let n = s.members in
        let la : a < n = nest.below _ _ (p.nodes x here) p.start.1 in
        let lb : b < n = nest.below _ _ (p.nodes z z_in) p.finish.1 in
        omega (
          arith,
          total_below_same (loose s.mates) (λ v. loose m' v + (one a v + one b v)) n (λ v lt. each_loose v),
          total_add (loose m') (λ v. one a v + one b v) (below n),
          total_add (one a) (one b) (below n),
          point (λ v. 1) a n la,
          point (λ v. 1) b n lb,
        )

-- the same, along the way of an accepted augment
pub record After (s : State) (xs : List Link) (m : List (Option ℕ)) : Type 0 where
  pub ready : Ready s (piled s (by_twos xs) [])
  pub on : (v : ℕ) → 0 < crowd s xs v → Paired s xs m v
  pub joins : (j : Join) → In j (by_twos xs) → Wed s m j.offer
  pub mated : (v e : ℕ) → v < s.members → mate m v ≡ Some e → Mated (with_mates s m) v e
  pub still : (v : ℕ) → mate m v ≡ None → mate s.mates v ≡ None
  pub source : (v e : ℕ) → mate m v ≡ Some e → (mate s.mates v ≡ Some e) ⊎ (Ringed s e ⊎ Joins xs e)
  pub bare : (c : ℕ) → IsBlossom s c → OneBare s m c
  pub fewer : loose_in s ≡ loose_in (with_mates s m) + 2

pub after_of : (s : State) (r : ℕ) (es : List ℕ) → Kept s → Accepted s r es → (m : List (Option ℕ)) → Exchanged s r es m → After s (way s r es) m
after_of s r [] kept a m laid = absurd (omega (arith, a.odd))
after_of s r (e ∷ es) kept a m laid =
    let x : Link = record { part = r; offer = e } in
    let mid = front s (across s e r) es in
    let z = last_link s (across s e r) es in
    let q = ap (λ (ls : List Link). x ∷ ls) (way_split s (across s e r) es) in
    let p = path_of s r e es kept a in
    let l : Laid s (piled s (by_twos (path x mid z)) []) (joined s (by_twos (path x mid z)) s.mates) m =
    subst (λ (ls : List Link). Laid s (piled s (by_twos ls) []) (joined s (by_twos ls) s.mates) m) q laid in
    subst (λ (ls : List Link). After s ls m) (sym q) (record {
      ready = path_ready s x mid z kept p;
      on = on s x mid z kept p m l;
      joins = joins_paired s x mid z kept p m l;
      mated = mutual_after s x mid z kept p m l;
      still = still_loose s x mid z kept p m l;
      source = source_of s x mid z kept p m l;
      bare = bare_after s x mid z kept p m l;
      fewer = two_fewer s x mid z kept p m l;
    })

-- laying bare keeps the number of places
pub length_laid : {s : State} {ts : List Task} {m m' : List (Option ℕ)} → Laid s ts m m' → length m' ≡ length m
length_laid Laid.none = refl
length_laid (Laid.alone lt l) = length_laid l
length_laid {s} (Laid.round {m = m} before after x ge eq h l) = length_laid l ∙ length_joined s (by_twos (after ++ before)) m
