-- Blossoms as rings of links, and which node lies in which. Assumes nothing.
use Rattle.std.proofs.Common.{◌≡◌, ℕ, suc, ◌+◌, ◌-◌, ◌%◌, ◌<◌, ◌≤◌, true, false, cond, eqb, ltb, List, [], ◌∷◌, ◌++◌, length, get_or, take, sym, refl, ap, ◌∙◌, subst, inl, inr, arith}
use Rattle.std.proofs.lemmas.List.{get_or_append_left, get_or_push}
use Rattle.std.proofs.lemmas.Bool.{cases_Bool, cases_lt, cond-true, cond-false, lt-ltb, le-ltb}
use Rattle.matching.specs.Sums.{count}
use Rattle.matching.specs.State.{State, Blossom, blossom_at, InUse, inside, node_holds}
use Rattle.matching.specs.Kept.{Kept, Node, Between, Ring, part_at, part_after, size}
use Rattle.matching.proofs.Sums.{total_nil, total_cons}
use Rattle.matching.proofs.Nesting.{part_member, part_inside}
use Rattle.matching.proofs.Nodes.{node_alone}
use Rattle.paths.specs.Bare.{Link, links, ring}
use Rattle.paths.proofs.Lists.{In, here, there, bit, bit_no, crowd, crowd_find}
use Rattle.paths.proofs.Links.{Chain}

-- the node p is a blossom in use
abbrev pub IsBlossom : State → ℕ → Type 0
IsBlossom s p = (200 ≤ p) × InUse s (p - 200)

-- an odd ring of at least three nodes, each joined to the next
pub record RingOf (s : State) (p : ℕ) : Type 0 where
  pub odd : length (ring s p) % 2 ≡ 1
  pub three : 3 ≤ length (ring s p)
  pub nodes : (x : Link) → In x (ring s p) → Node s x.part
  pub offers : (x : Link) → In x (ring s p) → x.offer < length s.rows
  pub splits : (v : ℕ) → crowd s (ring s p) v ≡ bit (node_holds s p v)
  pub linked : Chain s (ring s p ++ take 1 (ring s p))

-- what is kept of nodes and blossoms, over rings
pub record Rings (s : State) : Type 0 where
  pub few : s.members ≤ 200
  pub alone : (p v : ℕ) → p < 200 → node_holds s p v ≡ true → v ≡ p
  pub below : (p v : ℕ) → Node s p → node_holds s p v ≡ true → v < s.members
  pub rings : (p : ℕ) → IsBlossom s p → RingOf s p
  pub some : (p : ℕ) → IsBlossom s p → (v : ℕ) × (node_holds s p v ≡ true)
  pub smaller : (p : ℕ) (x : Link) → IsBlossom s p → In x (ring s p) → size s x.part < size s p
  pub once : (p q : ℕ) (x y : Link) → IsBlossom s p → IsBlossom s q → In x (ring s p) → In y (ring s q) → x.part ≡ y.part → p ≡ q

-- c is p, or a part of it, or a part of such a part, ..
pub data Lies (s : State) (c : ℕ) : ℕ → Type 0 where
  same : Lies s c c
  down : {p : ℕ} (x : Link) → IsBlossom s p → In x (ring s p) → Lies s c x.part → Lies s c p

pub holds_blossom : (s : State) (p v : ℕ) → 200 ≤ p → node_holds s p v ≡ inside (blossom_at s (p - 200)) v
holds_blossom s p v le = cond-false (ltb p 200) (eqb p v) (inside (blossom_at s (p - 200)) v) (le-ltb p 200 le)

pub holds_alone : (s : State) (p v : ℕ) → p < 200 → node_holds s p v ≡ true → v ≡ p
holds_alone s p v l h = sym (node_alone s p v l h)

pub length_links : (ps es : List ℕ) → length es ≡ length ps → length (links ps es) ≡ length ps
length_links [] es h = refl
length_links (p ∷ ps) [] h = absurd (omega arith)
length_links (p ∷ ps) (e ∷ es) h = omega (arith, length_links ps es (omega arith))

-- a link stands at a place of both lists
pub record Place (ps es : List ℕ) (x : Link) : Type 0 where
  pub at : ℕ
  pub there : at < length ps
  pub joins : at < length es
  pub part : get_or ps at 0 ≡ x.part
  pub offer : get_or es at 0 ≡ x.offer

pub place_of : (ps es : List ℕ) (x : Link) → In x (links ps es) → Place ps es x
place_of [] es x i = elim i [ ]
place_of (p ∷ ps) [] x i = elim i [ ]
place_of (p ∷ ps) (e ∷ es) x here = record { at = 0; there = omega arith; joins = omega arith; part = refl; offer = refl }
place_of (p ∷ ps) (e ∷ es) x (there i) =
    let r = place_of ps es x i in record { at = suc r.at; there = omega (arith, r.there); joins = omega (arith, r.joins); part = r.part; offer = r.offer }

crowd_links : (s : State) (v : ℕ) (ps es : List ℕ) → length es ≡ length ps → crowd s (links ps es) v ≡ count (λ p. node_holds s p v) ps
crowd_links s v [] es h = sym (total_nil (λ p. cond (node_holds s p v) 1 0))
crowd_links s v (p ∷ ps) [] h = absurd (omega arith)
crowd_links s v (p ∷ ps) (e ∷ es) h = omega (arith, crowd_links s v ps es (omega arith), total_cons (λ p. cond (node_holds s p v) 1 0) p ps)

chain_links : (s : State) (q : Link) (ps es : List ℕ) → length es ≡ length ps →
    ((j : ℕ) → j < length ps → Between s (get_or es j 0) (get_or ps j 0) (get_or (ps ++ q.part ∷ []) (suc j) 0)) → Chain s (links ps es ++ q ∷ [])
chain_links s q [] es l h = tt
chain_links s q (p ∷ ps) [] l h = absurd (omega arith)
chain_links s q (p ∷ []) (e ∷ []) l h = (h 0 (omega arith), tt)
chain_links s q (p ∷ []) (e ∷ (f ∷ es)) l h = absurd (omega arith)
chain_links s q (p ∷ (r ∷ ps)) (e ∷ []) l h = absurd (omega arith)
chain_links s q (p ∷ (r ∷ ps)) (e ∷ (f ∷ es)) l h = (h 0 (omega arith), chain_links s q (r ∷ ps) (f ∷ es) (omega arith) (λ j lt. h (suc j) (omega arith)))

chain_closed : (s : State) (ps es : List ℕ) → length es ≡ length ps →
    ((j : ℕ) → j < length ps → Between s (get_or es j 0) (get_or ps j 0) (get_or (ps ++ get_or ps 0 0 ∷ []) (suc j) 0)) → Chain s (links ps es ++ take 1 (links ps es))
chain_closed s [] es l h = tt
chain_closed s (p ∷ ps) [] l h = absurd (omega arith)
chain_closed s (p ∷ ps) (e ∷ es) l h = chain_links s (record { part = p; offer = e }) (p ∷ ps) (e ∷ es) l h

-- the next part, round the ring
pub next_is : (b : Blossom) (j : ℕ) → j < length b.parts → part_after b j ≡ get_or (b.parts ++ part_at b 0 ∷ []) (suc j) 0
next_is b j l = elim (cases_lt (j + 1) (length b.parts)) [
  | inl lt ↦
      ap (part_at b) (cond-true (ltb (j + 1) (length b.parts)) (j + 1) 0 (lt-ltb (j + 1) (length b.parts) lt) ∙ (let e : j + 1 ≡ suc j = omega arith in e))
      ∙ sym (get_or_append_left b.parts (part_at b 0 ∷ []) 0 (suc j) (omega arith))
  | inr le ↦
      ap (part_at b) (cond-false (ltb (j + 1) (length b.parts)) (j + 1) 0 (le-ltb (j + 1) (length b.parts) le))
      ∙ sym (get_or_push b.parts (part_at b 0) 0 (suc j) (omega arith))
]

module _ (s : State) (kept : Kept s) where
  below_members : (p v : ℕ) → Node s p → node_holds s p v ≡ true → v < s.members
  below_members p v (inl l) h = omega (arith, holds_alone s p v (omega (arith, kept.sized.few)) h)
  below_members p v (inr b) h = (kept.nested.rings (p - 200) b.1).members v (sym (holds_blossom s p v b.0) ∙ h)

  ring_of : (p : ℕ) → IsBlossom s p → RingOf s p
  ring_of p b = record {
    odd = ap (λ n. n % 2) same_length ∙ r.odd;
    three = omega (arith, same_length, r.three);
    nodes = nodes;
    offers = λ x i. (let at = place_of bl.parts bl.joins x i in subst (λ e. e < length s.rows) at.offer (r.offers at.at at.joins));
    splits = splits;
    linked = chain_closed s bl.parts bl.joins r.joins (λ j l.
        subst (Between s (get_or bl.joins j 0) (part_at bl j)) (next_is bl j l) (r.joined j (omega (arith, r.joins))));
  }
    where
      bl : Blossom
      bl = blossom_at s (p - 200)

      r : Ring s bl
      r = kept.nested.rings (p - 200) b.1

      same_length : length (ring s p) ≡ length bl.parts
      same_length = length_links bl.parts bl.joins r.joins

      nodes : (x : Link) → In x (ring s p) → Node s x.part
      nodes x i = let at = place_of bl.parts bl.joins x i in subst (Node s) at.part (r.nodes at.at at.there)

      splits : (v : ℕ) → crowd s (ring s p) v ≡ bit (node_holds s p v)
      splits v = elim (cases_lt v s.members) [
        | inl lt ↦ crowd_links s v bl.parts bl.joins r.joins ∙ r.split v lt ∙ ap bit (sym (holds_blossom s p v b.0))
        | inr le ↦ omega (arith, nowhere le, bit_no _ (not_held le))
      ]
        where
          not_held : s.members ≤ v → node_holds s p v ≡ false
          not_held le = elim (cases_Bool (node_holds s p v)) [ inl h ↦ absurd (omega (arith, below_members p v (inr b) h)) | inr h ↦ h ]

          nowhere : s.members ≤ v → crowd s (ring s p) v ≡ 0
          nowhere le = elim (cases_lt 0 (crowd s (ring s p) v)) [
            | inl some ↦ let f = crowd_find s (ring s p) v some in absurd (omega (arith, below_members f.0.part v (nodes f.0 f.1) f.2))
            | inr none ↦ omega arith
          ]

  pub rings_of : Rings s
  rings_of = record {
    few = kept.sized.few;
    alone = holds_alone s;
    below = below_members;
    rings = ring_of;
    some = some;
    smaller = smaller;
    once = once;
  }
    where
      parts_of : (p : ℕ) (x : Link) → In x (ring s p) → Place (blossom_at s (p - 200)).parts (blossom_at s (p - 200)).joins x
      parts_of p x i = place_of (blossom_at s (p - 200)).parts (blossom_at s (p - 200)).joins x i

      some : (p : ℕ) → IsBlossom s p → (v : ℕ) × (node_holds s p v ≡ true)
      some p b =
          let l : 0 < length (blossom_at s (p - 200)).parts = omega (arith, (kept.nested.rings (p - 200) b.1).three) in
          let m = part_member s kept.nested.rings kept.rows (p - 200) 0 b.1 l in
          (m.0, holds_blossom s p m.0 b.0 ∙ part_inside s kept.nested.rings (p - 200) 0 m.0 b.1 l m.1 m.2)

      smaller : (p : ℕ) (x : Link) → IsBlossom s p → In x (ring s p) → size s x.part < size s p
      smaller p x b i =
          let at = parts_of p x i in
          let e : 200 + (p - 200) ≡ p = omega (arith, b.0) in
          subst (λ q. size s x.part < size s q) e (subst (λ q. size s q < size s (200 + (p - 200))) at.part (kept.nested.smaller (p - 200) at.at b.1 at.there))

      once : (p q : ℕ) (x y : Link) → IsBlossom s p → IsBlossom s q → In x (ring s p) → In y (ring s q) → x.part ≡ y.part → p ≡ q
      once p q x y b c i j e =
          let a = parts_of p x i in
          let d = parts_of q y j in
          let z = kept.nested.one_parent (p - 200) (q - 200) a.at d.at b.1 c.1 a.there d.there (a.part ∙ e ∙ sym d.part) in
          omega (arith, z, b.0, c.0)
