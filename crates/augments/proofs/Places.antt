-- What the tables hold of nodes and rings, and that it lies in their bounds. Assumes nothing.
use Rattle.std.proofs.Common.{◌≡◌, ℕ, Bool, cond, zero, suc, ◌+◌, ◌-◌, ◌%◌, ◌<◌, ◌≤◌, true, List, [], ◌∷◌, length, get_or, take, drop, Some, None, Option, sym, refl, ap, ◌∙◌, inl, inr, ⊎_elim, arith}
use mathlib.Core.Logic.{∥∥₁_elim}
use native.Mathlib.Bridge.{le_prop}
use native.Mathlib.Nat.{ℕ_set}
use lib.ListN.{length-map}
use Rattle.std.proofs.lemmas.List.{get_or-map}
use Rattle.std.proofs.lemmas.Bool.{both_ways, cases_lt, lt-ltb}
use Rattle.std.proofs.lemmas.List.Sums.{fails_before_first, passes_at_first}
use Rattle.std.specs.List.{position, position_or_len}
use Rattle.std.specs.Option.{unwrap_or}
use Rattle.matching.specs.State.{State, Blossom, blossom_at, InUse, node_holds}
use Rattle.matching.specs.Kept.{Node}
use Rattle.matching.proofs.Nodes.{inside_used, used_known}
use Rattle.paths.specs.Bare.{Link, links, ring}
use Rattle.paths.proofs.Lists.{bit_of, crowd_find}
use Rattle.paths.proofs.Rings.{rings_of, place_of, holds_blossom, length_links}
use Rattle.tables.specs.declared.tables.Link.{Link as Entry}
use Rattle.tables.specs.declared.tables.Blossom.{Blossom as Ring}
use Rattle.tables.specs.declared.tables.Tables.{Tables}
use Rattle.tables.specs.States.{parts_in, joins_in, ring_in, blossom_of, state, place}
use Rattle.tables.specs.Kept.{Held, Keeps}
use Rattle.tables.proofs.Keeping.{blossom_there}
use Rattle.augments.specs.Laying.{link_of, links_in, link_at, turned}
use Rattle.augments.proofs.Turns.{turn, wrapped, wrapped_low, drop_two}

pub links_at : (ps es : List ℕ) (j : ℕ) (d : Link) → length es ≡ length ps → j < length ps → get_or (links ps es) j d ≡ record { part = get_or ps j 0; offer = get_or es j 0 }
links_at [] es j d e l = absurd (omega arith)
links_at (p ∷ ps) [] j d e l = absurd (omega arith)
links_at (p ∷ ps) (q ∷ es) zero d e l = refl
links_at (p ∷ ps) (q ∷ es) (suc j) d e l = links_at ps es j d (omega arith) (omega arith)

zipped : (ls : List Entry) → links (parts_in ls) (joins_in ls) ≡ links_in ls
zipped [] = refl
zipped (l ∷ ls) = ap (λ (xs : List Link). link_of l ∷ xs) (zipped ls)

ring_by : (o : Option Ring) → links (blossom_of o).parts (blossom_of o).joins ≡ links_in (ring_in o)
ring_by None = refl
ring_by (Some b) = zipped (take b.len b.links)

-- the ring of a node, by its place in the tables
pub ring_there : (t : Tables) (p : ℕ) → ring (state t) p ≡ links_in (ring_in (place t (p - 200)))
ring_there t p = ap (λ (b : Blossom). links b.parts b.joins) (blossom_there t (p - 200)) ∙ ring_by (place t (p - 200))

pub node_used : (s : State) (p v : ℕ) → 200 ≤ p → node_holds s p v ≡ true → InUse s (p - 200)
node_used s p v le h = inside_used (blossom_at s (p - 200)) v (sym (holds_blossom s p v le) ∙ h)

-- what a read past the last link gives
abbrev pub no_link : Entry
no_link = record { part = 0; join = 0 }

-- the ring of the node p, as the tables have it
pub record Ringed (t : Tables) (p v : ℕ) (ls : List Entry) : Type 0 where
  pub long : length (ring (state t) p) ≡ length ls
  pub link : (j : ℕ) → j < length ls → link_at (state t) p j ≡ link_of (get_or ls j no_link)
  -- some part holds the member v
  pub some : (r : ℕ) → ((j : ℕ) → j < r → node_holds (state t) (link_at (state t) p j).part v ≡ true → ⊥) → r < length ls
  -- the next two links round the ring
  pub two : (i k a b : ℕ) → i < length ls → k + 2 < length ls → a ≡ wrapped (i + k + 1) (length ls) → b ≡ wrapped (i + k + 2) (length ls) →
      (a < length ls) × (b < length ls) × (drop k (turned (state t) p i) ≡ (link_of (get_or ls a no_link) ∷ (link_of (get_or ls b no_link) ∷ drop (k + 2) (turned (state t) p i))))
  -- a ring is odd
  pub odd : length ls % 2 ≡ 1

module _ (t : Tables) (k : Keeps t) where
  used_low : (i : ℕ) → InUse (state t) i → i < 100
  used_low i u = ∥∥₁_elim k le_prop (λ h. omega (arith, used_known (state t) i u, h.kept.sized.blossoms))

  pub node_low : (p : ℕ) → Node (state t) p → p < 300
  node_low p (inl l) = ∥∥₁_elim k le_prop (λ h. omega (arith, h.kept.sized.few))
  node_low p (inr b) = omega (arith, used_low (p - 200) b.1)

  module _ (p v : ℕ) (le : 200 ≤ p) (held : node_holds (state t) p v ≡ true) (ls : List Entry) (is : links_in ls ≡ ring (state t) p) where
    used : InUse (state t) (p - 200)
    used = node_used (state t) p v le held

    same_length : length (blossom_at (state t) (p - 200)).joins ≡ length (blossom_at (state t) (p - 200)).parts
    same_length = ∥∥₁_elim k (ℕ_set _ _) (λ h. (h.kept.nested.rings (p - 200) used).joins)

    ring_long : length (ring (state t) p) ≡ length ls
    ring_long = sym (ap length is) ∙ length-map ls link_of

    parts_long : length (blossom_at (state t) (p - 200)).parts ≡ length ls
    parts_long = sym (length_links (blossom_at (state t) (p - 200)).parts (blossom_at (state t) (p - 200)).joins same_length) ∙ ring_long

    ring_at : (j : ℕ) (d : Link) → j < length ls → get_or (ring (state t) p) j d ≡ link_of (get_or ls j no_link)
    ring_at j d l = ap (λ (xs : List Link). get_or xs j d) (sym is) ∙ get_or-map link_of ls j no_link d l

    -- the link at a place, as the tables have it
    link_is : (j : ℕ) → j < length ls → link_at (state t) p j ≡ link_of (get_or ls j no_link)
    link_is j l =
        let d : Link = record { part = 0; offer = 0 } in
        sym (links_at (blossom_at (state t) (p - 200)).parts (blossom_at (state t) (p - 200)).joins j d same_length (omega (arith, parts_long))) ∙ ring_at j d l

    -- some part holds the member
    some_part : (r : ℕ) → ((j : ℕ) → j < r → node_holds (state t) (link_at (state t) p j).part v ≡ true → ⊥) → r < length ls
    some_part r none = ∥∥₁_elim k le_prop by
      where
        by : Held t → r < length ls
        by h = ⊎_elim (λ l. l)
            (λ ge.
            let ring-is = (rings_of (state t) h.kept).rings p (le, used) in
            let f = crowd_find (state t) (ring (state t) p) v (omega (arith, ring-is.splits v, bit_of _ held)) in
            let at = place_of (blossom_at (state t) (p - 200)).parts (blossom_at (state t) (p - 200)).joins f.0 f.1 in
            absurd (none at.at (omega (arith, at.there, parts_long, ge)) (ap (λ (q : ℕ). node_holds (state t) q v) at.part ∙ f.2)))
            (cases_lt r (length ls))

    ring_two : (i k a b : ℕ) → i < length ls → k + 2 < length ls → a ≡ wrapped (i + k + 1) (length ls) → b ≡ wrapped (i + k + 2) (length ls) →
        (a < length ls) × (b < length ls) × (drop k (turned (state t) p i) ≡ (link_of (get_or ls a no_link) ∷ (link_of (get_or ls b no_link) ∷ drop (k + 2) (turned (state t) p i))))
    ring_two i k a b l lk qa qb =
        let d : Link = record { part = 0; offer = 0 } in
        let xs = ring (state t) p in
        let e : length ls ≡ length xs = sym ring_long in
        let a-low : a < length ls = omega (arith, qa, wrapped_low (i + k + 1) (length ls) (omega arith)) in
        let b-low : b < length ls = omega (arith, qb, wrapped_low (i + k + 2) (length ls) (omega arith)) in (
          a-low,
          b-low,
          drop_two xs i (omega arith) k a b d (omega arith) (qa ∙ ap (wrapped (i + k + 1)) e) (qb ∙ ap (wrapped (i + k + 2)) e)
              ∙ ap (λ (x : Link). x ∷ (get_or xs b d ∷ drop (k + 2) (turn xs i))) (ring_at a d a-low)
              ∙ ap (λ (x : Link). link_of (get_or ls a no_link) ∷ (x ∷ drop (k + 2) (turn xs i))) (ring_at b d b-low),
        )

    pub ringed : Ringed t p v ls
    ringed = record {
      long = ring_long;
      link = link_is;
      some = some_part;
      two = ring_two;
      odd = ∥∥₁_elim k (ℕ_set _ _) (λ h. ap (λ (n : ℕ). n % 2) (sym parts_long) ∙ (h.kept.nested.rings (p - 200) used).odd);
    }

-- some part holds the member v, so there is a first
pub first_part : (t : Tables) (p v : ℕ) (ls : List Entry) → Ringed t p v ls → (o : Option ℕ) → o ≡ position (λ (l : Entry). node_holds (state t) l.part v) ls →
    (unwrap_or o 0 < length ls) × (node_holds (state t) (link_at (state t) p (unwrap_or o 0)).part v ≡ true)
first_part t p v ls r o e =
    let s = state t in
    let test : Entry → Bool = λ l. node_holds s l.part v in
    let q = position_or_len test ls in
    let holds : (j : ℕ) → j < length ls → node_holds s (link_at s p j).part v ≡ test (get_or ls j no_link) = λ j l. ap (λ (x : Link). node_holds s x.part v) (r.link j l) in
    let short : (length ls ≤ q) → ⊥ = λ h. let l = r.some (length ls) (λ j l k. both_ways _ (holds j l ∙ fails_before_first test ls j no_link (omega (arith, h, l))) k) in omega (arith, l) in
    let l : q < length ls = ⊎_elim (λ (y : q < length ls). y) (λ h. absurd (short h)) (cases_lt q (length ls)) in
    let found : o ≡ Some q = e ∙ ap (λ b. cond b (Some q) None) (lt-ltb q (length ls) l) in
    let is : unwrap_or o 0 ≡ q = ap (λ (x : Option ℕ). unwrap_or x 0) found in
    (omega (arith, is, l), ap (λ j. node_holds s (link_at s p j).part v) is ∙ holds q l ∙ passes_at_first test ls no_link l)
