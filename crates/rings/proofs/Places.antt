-- A state with other roots and another blossom at one place. Assumes nothing.
use Rattle.std.proofs.Common.{◌≡◌, ℕ, ◌+◌, ◌-◌, ◌*◌, ◌%◌, ◌<◌, ◌≤◌, Bool, true, cond, not, ◌&&◌, eqb, ltb, ◌≢◌, map, length, get_or, set, is_some, Some, None, Option, sym, refl, ap, ◌∙◌, inl, inr, ⊎_elim, arith}
use mathlib.Core.Path.{fun_ext}
use Rattle.std.proofs.lemmas.List.{get_or-map, length-map, length-set, get_or-set_same, get_or-set_other}
use Rattle.std.proofs.lemmas.Bool.{cases_lt, cases_eq, cond-true, cond_both, lt-ltb, ltb-true}
use Rattle.matching.specs.Mates.{mate}
use Rattle.matching.specs.Sums.{below, count}
use Rattle.matching.specs.State.{State, Blossom, no_blossom, k_in, root_at, blossom_at, InUse, inside, node_holds, spans, around, yz, price_at, first_of, second_of}
use Rattle.matching.specs.Kept.{Kept, Fair, Nested, Node, Between, Ring, part_at, part_after, met, bare}
use Rattle.std.proofs.ByRecursion.{All-from_get_or}
use Rattle.matching.proofs.Sums.{length_below, getD_below, total_same, total_below_same}
use Rattle.matching.proofs.Nodes.{holds_inside}
use Rattle.steps.proofs.Searches.{some_not_none}
use Rattle.steps.proofs.Offers.{share, around_places}
use Rattle.rings.specs.Shrink.{with_blossoms}

-- with b at place i, and f v the root of v
abbrev pub placed : State → (ℕ → ℕ) → ℕ → Blossom → State
placed s f i b = with_blossoms s (map f (below 200)) (set s.blossoms i b)

module _ (s : State) (f : ℕ → ℕ) (i : ℕ) (b : Blossom) where
  pub root_read : (v : ℕ) → v < 200 → root_at (placed s f i b) v ≡ f v
  root_read v l = get_or-map f (below 200) v 0 0 (omega (arith, length_below 200)) ∙ ap f (getD_below 200 v 0 l)

  pub roots_full : length (placed s f i b).roots ≡ 200
  roots_full = length-map (below 200) f ∙ length_below 200

  pub blossoms_full : length (placed s f i b).blossoms ≡ length s.blossoms
  blossoms_full = length-set s.blossoms i b

  pub blossom_there : i < length s.blossoms → blossom_at (placed s f i b) i ≡ b
  blossom_there l = get_or-set_same s.blossoms i b no_blossom l

  pub blossom_else : (h : ℕ) → h ≢ i → blossom_at (placed s f i b) h ≡ blossom_at s h
  blossom_else h d = get_or-set_other s.blossoms i h b no_blossom d

  pub holds_there : i < length s.blossoms → (v : ℕ) → node_holds (placed s f i b) (200 + i) v ≡ inside b v
  holds_there l v = holds_inside (placed s f i b) i v ∙ ap (λ (a : Blossom). inside a v) (blossom_there l)

  -- every other node holds what it held
  pub holds_else : (p v : ℕ) → p ≢ 200 + i → node_holds (placed s f i b) p v ≡ node_holds s p v
  holds_else p v d = ⊎_elim
      (λ l.
      cond-true (ltb p 200) (eqb p v) (inside (blossom_at (placed s f i b) (p - 200)) v) (lt-ltb p 200 l)
      ∙ sym (cond-true (ltb p 200) (eqb p v) (inside (blossom_at s (p - 200)) v) (lt-ltb p 200 l)))
      (λ l. ap (λ (a : Blossom). cond (ltb p 200) (eqb p v) (inside a v)) (blossom_else (p - 200) (λ e. d (omega arith))))
      (cases_lt p 200)

  -- the blossom b adds to an offer what the one before it added
  pub around_same : length s.blossoms ≡ 100 → i < 100 → (e : ℕ) → cond (spans s b e) b.price 0 ≡ share s e i → around (placed s f i b) e ≡ around s e
  around_same full l e same =
      around_places (placed s f i b) (blossoms_full ∙ full) e
      ∙ total_below_same (share (placed s f i b) e) (share s e) 100 (λ h lt. ⊎_elim
      (λ q.
      ap (share (placed s f i b) e) q
      ∙ ap (λ (a : Blossom). cond (spans s a e) a.price 0) (blossom_there (omega arith))
      ∙ same ∙ ap (share s e) (sym q))
      (λ d. ap (λ (a : Blossom). cond (spans s a e) a.price 0) (blossom_else h d))
      (cases_eq h i))
      ∙ sym (around_places s full e)

  pub yz_same : length s.blossoms ≡ 100 → i < 100 → (e : ℕ) → cond (spans s b e) b.price 0 ≡ share s e i → yz (placed s f i b) e ≡ yz s e
  yz_same full l e same = ap (λ (n : ℕ). price_at s (first_of s e) + price_at s (second_of s e) + n) (around_same full l e same)

  -- members and mates are the same
  pub met_same : (a : Blossom) (o : Option ℕ) → met (placed s f i b) a o ≡ met s a o
  met_same a None = refl
  met_same a (Some e) = refl

  pub bare_same : (a : Blossom) → bare (placed s f i b) a ≡ bare s a
  bare_same a = ap (λ g. count g (below s.members)) (fun_ext (λ v. ap (λ x. inside a v && not x) (met_same a (mate s.mates v))))

  pub used_else : (h : ℕ) → h ≢ i → InUse s h → InUse (placed s f i b) h
  used_else h d u = ap (λ (a : Blossom). a.used) (blossom_else h d) ∙ u

  pub used_was : (h : ℕ) → h ≢ i → InUse (placed s f i b) h → InUse s h
  used_was h d u = sym (ap (λ (a : Blossom). a.used) (blossom_else h d)) ∙ u

  pub node_else : (p : ℕ) → p ≢ 200 + i → Node s p → Node (placed s f i b) p
  node_else p d (inl l) = inl l
  node_else p d (inr h) = let le = h.0 in inr (le, used_else (p - 200) (λ e. d (omega arith)) h.1)

  pub between_else : (e p q : ℕ) → p ≢ 200 + i → q ≢ 200 + i → Between s e p q → Between (placed s f i b) e p q
  between_else e p q dp dq (inl h) = inl (holds_else p (first_of s e) dp ∙ h.0, holds_else q (second_of s e) dq ∙ h.1)
  between_else e p q dp dq (inr h) = inr (holds_else p (second_of s e) dp ∙ h.0, holds_else q (first_of s e) dq ∙ h.1)

  -- a ring of other nodes stays one
  pub ring_else : (a : Blossom) → ((j : ℕ) → j < length a.parts → part_at a j ≢ 200 + i) → Ring s a → Ring (placed s f i b) a
  ring_else a away r = record {
    odd = r.odd;
    three = r.three;
    different = r.different;
    nodes = λ j l. node_else (part_at a j) (away j l) (r.nodes j l);
    joins = r.joins;
    offers = r.offers;
    joined = λ j l.
        let lj : j < length a.parts = omega (arith, r.joins) in
        between_else (get_or a.joins j 0) (part_at a j) (part_after a j) (away j lj) (away _ (after_low j)) (r.joined j l);
    members = r.members;
    split = λ v l.
        total_same (λ p. cond (node_holds (placed s f i b) p v) 1 0) (λ p. cond (node_holds s p v) 1 0) a.parts
        (All-from_get_or (λ p. ◌≡◌ {A = ℕ} (cond (node_holds (placed s f i b) p v) 1 0) (cond (node_holds s p v) 1 0)) a.parts 0
        (λ j lj. ap (λ (x : Bool). cond x 1 0) (holds_else (part_at a j) v (away j lj))))
        ∙ r.split v l;
  }
    where
      after_low : (j : ℕ) → cond (ltb (j + 1) (length a.parts)) (j + 1) 0 < length a.parts
      after_low j = cond_both (ltb (j + 1) (length a.parts)) (j + 1) 0 (λ (k : ℕ). k < length a.parts) (λ e. ltb-true _ _ e) (λ e. omega (arith, r.three))

-- what such a state keeps of its blossoms, once begun
pub record Places (s : State) : Type 0 where
  pub begun : is_some s.begun ≡ true
  pub fair : Fair s
  pub nested : Nested s
  pub even : (h : ℕ) → InUse s h → (blossom_at s h).price % 2 ≡ 0
  pub one_bare : (h : ℕ) → InUse s h → bare s (blossom_at s h) ≡ 1
  pub one_parity : (h v w : ℕ) → inside (blossom_at s h) v ≡ true → inside (blossom_at s h) w ≡ true → price_at s v % 2 ≡ price_at s w % 2
  pub small : (h : ℕ) → InUse s h → (blossom_at s h).price + 2 * s.floor ≤ 4 * k_in s * s.top

-- members, prices and mates are those of s
pub kept_placed : (s : State) (f : ℕ → ℕ) (i : ℕ) (b : Blossom) → Kept s → Places (placed s f i b) → Kept (placed s f i b)
kept_placed s f i b kept p = record {
  sized = record {
    few = kept.sized.few;
    short = kept.sized.short;
    low = kept.sized.low;
    prices = kept.sized.prices;
    mates = kept.sized.mates;
    roots = roots_full s f i b;
    blossoms = blossoms_full s f i b ∙ kept.sized.blossoms;
  };
  rows = kept.rows;
  unbegun = λ e. absurd (some_not_none s.begun p.begun e);
  begun = λ k e. let a = kept.begun k e in record { positive = a.positive; small = a.small; top = a.top };
  mates = λ v e l h. let m = kept.mates v e l h in record { known = m.known; names = m.names; first = m.first; second = m.second };
  floored = record { above = kept.floored.above; loose = kept.floored.loose };
  fair = p.fair;
  even = p.even;
  nested = p.nested;
  one_bare = p.one_bare;
  one_parity = p.one_parity;
  small = record { floor = kept.small.floor; members = kept.small.members; blossoms = p.small };
}
