-- Two states with the same members, offers and roots, whose blossoms differ in price alone, nest alike. Assumes nothing.
use Rattle.std.proofs.Common.{◌≡◌, ℕ, ◌+◌, ◌-◌, ◌<◌, cond, not, ◌&&◌, eqb, ltb, length, get_or, Some, None, Option, sym, refl, ap, ◌∙◌, subst, inl, inr, arith}
use mathlib.Core.Path.{fun_ext}
use Rattle.matching.specs.Mates.{mate}
use Rattle.matching.specs.Sums.{count, below}
use Rattle.matching.specs.State.{State, Blossom, root_at, blossom_at, InUse, inside, node_holds}
use Rattle.matching.specs.Kept.{Ring, Nested, Node, Between, Outermost, part_at, part_after, size, met, bare}

-- a blossom at another price
abbrev pub at_price : ℕ → Blossom → Blossom
at_price z b = record { used = b.used; price = z; parts = b.parts; joins = b.joins; holds = b.holds }

-- the state t over the members, offers and roots of s
abbrev pub over : State → State → State
over s t = record {
  members = s.members;
  rows = s.rows;
  top = t.top;
  begun = t.begun;
  floor = t.floor;
  prices = t.prices;
  mates = t.mates;
  roots = s.roots;
  blossoms = t.blossoms;
}

-- each blossom of t is that of s, at its own price
abbrev pub Alike : State → State → Type 0
Alike s t = (i : ℕ) → blossom_at t i ≡ at_price (blossom_at t i).price (blossom_at s i)

module _ (s t : State) (alike : Alike s t) where
  pub used_back : (i : ℕ) → InUse (over s t) i → InUse s i
  used_back i u = sym (ap (λ (b : Blossom). b.used) (alike i)) ∙ u

  pub used_on : (i : ℕ) → InUse s i → InUse (over s t) i
  used_on i u = ap (λ (b : Blossom). b.used) (alike i) ∙ u

  pub inside_same : (i v : ℕ) → inside (blossom_at (over s t) i) v ≡ inside (blossom_at s i) v
  inside_same i v = ap (λ b. inside b v) (alike i)

  pub node_same : (p v : ℕ) → node_holds (over s t) p v ≡ node_holds s p v
  node_same p v = ap (λ x. cond (ltb p 200) (eqb p v) x) (inside_same (p - 200) v)

  size_same : (p : ℕ) → size (over s t) p ≡ size s p
  size_same p = ap (λ f. count f (below s.members)) (fun_ext (node_same p))

  node_on : (p : ℕ) → Node s p → Node (over s t) p
  node_on p (inl h) = inl h
  node_on p (inr h) = inr (h.0, used_on (p - 200) h.1)

  between_on : (e p q : ℕ) → Between s e p q → Between (over s t) e p q
  between_on e p q (inl h) = inl (node_same p _ ∙ h.0, node_same q _ ∙ h.1)
  between_on e p q (inr h) = inr (node_same p _ ∙ h.0, node_same q _ ∙ h.1)

  ring_on : (z i : ℕ) → Ring s (blossom_at s i) → Ring (over s t) (at_price z (blossom_at s i))
  ring_on z i r = record {
    odd = r.odd;
    three = r.three;
    different = r.different;
    nodes = λ j h. node_on (part_at (blossom_at s i) j) (r.nodes j h);
    joins = r.joins;
    offers = r.offers;
    joined = λ j h. between_on (get_or (blossom_at s i).joins j 0) (part_at (blossom_at s i) j) (part_after (blossom_at s i) j) (r.joined j h);
    members = r.members;
    split = λ v h. ap (λ f. count f (blossom_at s i).parts) (fun_ext (λ p. node_same p v)) ∙ r.split v h;
  }

  parts_same : (i : ℕ) → (blossom_at t i).parts ≡ (blossom_at s i).parts
  parts_same i = ap (λ (b : Blossom). b.parts) (alike i)

  part_same : (i j : ℕ) → part_at (blossom_at t i) j ≡ part_at (blossom_at s i) j
  part_same i j = ap (λ b. part_at b j) (alike i)

  part_back : (i j : ℕ) → j < length (blossom_at t i).parts → j < length (blossom_at s i).parts
  part_back i j h = subst (λ ps. j < length ps) (parts_same i) h

  part_on : (i j : ℕ) → j < length (blossom_at s i).parts → j < length (blossom_at t i).parts
  part_on i j h = subst (λ ps. j < length ps) (sym (parts_same i)) h

  outermost_on : (p : ℕ) → Outermost s p → Outermost (over s t) p
  outermost_on p free i j u h e = free i j (used_back i u) (part_back i j h) (sym (part_same i j) ∙ e)

  outermost_back : (p : ℕ) → Outermost (over s t) p → Outermost s p
  outermost_back p free i j u h e = free i j (used_on i u) (part_on i j h) (part_same i j ∙ e)

  pub nested_on : Nested s → Nested (over s t)
  nested_on n = record {
    rings = λ i u. subst (Ring (over s t)) (sym (alike i)) (ring_on (blossom_at t i).price i (n.rings i (used_back i u)));
    one_parent = λ h i j l uh ui lj ll e.
        n.one_parent h i j l (used_back h uh) (used_back i ui) (part_back h j lj) (part_back i l ll) (sym (part_same h j) ∙ e ∙ part_same i l);
    smaller = λ i j u h.
        let less = n.smaller i j (used_back i u) (part_back i j h) in
        omega (arith, less, size_same (part_at (blossom_at t i) j), size_same (200 + i), ap (size s) (part_same i j));
    root_holds = λ v h. node_same (root_at s v) v ∙ n.root_holds v h;
    root_outermost = λ v h. outermost_on (root_at s v) (n.root_outermost v h);
    root_only = λ v p h q free. n.root_only v p h (sym (node_same p v) ∙ q) (outermost_back p free);
  }

  -- with the same mates, each blossom has as many bare members
  pub bare_same : t.mates ≡ s.mates → (i : ℕ) → bare (over s t) (blossom_at t i) ≡ bare s (blossom_at s i)
  bare_same e i =
      ap (bare (over s t)) (alike i)
      ∙ ap (λ f. count f (below s.members)) (fun_ext (λ v. ap (λ x. inside (blossom_at s i) v && not x) (met_same (mate t.mates v) ∙ ap (λ ms. met s (blossom_at s i) (mate ms v)) e)))
    where
      met_same : (o : Option ℕ) → met (over s t) (at_price (blossom_at t i).price (blossom_at s i)) o ≡ met s (blossom_at s i) o
      met_same None = refl
      met_same (Some d) = refl
