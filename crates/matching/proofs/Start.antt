-- States with no blossom in use. Assumes nothing.
use Rattle.std.proofs.Common.{◌≡◌, ℕ, ◌+◌, ◌*◌, ◌<◌, ◌≤◌, true, length, Some, None, sym, ap, ◌∙◌, subst, inl, inr, mul_assoc, mul-le-mul_left, zero-mul, arith}
use Rattle.matching.specs.Mates.{mate}
use Rattle.matching.specs.Rows.{AllSound}
use Rattle.matching.specs.State.{State, or_zero, k_in, first_of, weight, price_at, root_at, blossom_at, InUse, node_holds, yz, paired_in}
use Rattle.matching.specs.Kept.{Kept, Sized, Unbegun, Begun, Mated, Floored, Nested}
use Rattle.matching.specs.Theorems.{KeptAtStart}
use Rattle.matching.proofs.Mates.{some_from}
use Rattle.matching.proofs.Finite.{none_some}
use Rattle.matching.proofs.Nodes.{inside_used, holds_itself, holds_cases}

-- what is left to show where no blossom is in use and each member is its own root
pub record Plain (s : State) : Type 0 where
  pub sized : Sized s
  pub rows : AllSound s.members s.top s.rows
  pub unbegun : s.begun ≡ None → Unbegun s
  pub begun : (k : ℕ) → s.begun ≡ Some k → Begun s k
  pub mates : (v e : ℕ) → v < s.members → mate s.mates v ≡ Some e → Mated s v e
  pub floored : Floored s
  pub all : (e : ℕ) → e < length s.rows → weight s e ≤ yz s e + 2
  pub paired : (e : ℕ) → e < length s.rows → paired_in s e ≡ true → yz s e ≤ weight s e
  pub floor : s.floor ≤ 2 * k_in s * s.top
  pub small : (v : ℕ) → v < s.members → price_at s v + s.floor ≤ 4 * k_in s * s.top
  pub roots : (v : ℕ) → v < s.members → root_at s v ≡ v
  pub none : (i : ℕ) → InUse s i → ⊥

nested : (s : State) → Plain s → Nested s
nested s p = record {
  rings = λ i u. absurd (p.none i u);
  one_parent = λ h i j l u w lj ll e. absurd (p.none h u);
  smaller = λ i j u l. absurd (p.none i u);
  root_holds = λ v lt. subst (λ q. node_holds s q v ≡ true) (sym (p.roots v lt)) (holds_itself s v (omega (arith, p.sized.few)));
  root_outermost = λ v lt i j u l. absurd (p.none i u);
  root_only = λ v q lt h free. elim (holds_cases s q v h) [
    | inl e ↦ e ∙ sym (p.roots v lt)
    | inr b ↦ absurd (p.none b.0 (inside_used (blossom_at s b.0) v b.2))
  ];
}

pub kept_plain : (s : State) → Plain s → Kept s
kept_plain s p = record {
  sized = p.sized;
  rows = p.rows;
  unbegun = p.unbegun;
  begun = p.begun;
  mates = p.mates;
  floored = p.floored;
  fair = record { all = p.all; paired = p.paired; ring = λ i j u l. absurd (p.none i u) };
  even = λ i u. absurd (p.none i u);
  nested = nested s p;
  one_bare = λ i u. absurd (p.none i u);
  one_parity = λ i v w h g. absurd (p.none i (inside_used (blossom_at s i) v h));
  small = record { floor = p.floor; members = p.small; blossoms = λ i u. absurd (p.none i u) };
}

pub kept_at_start : KeptAtStart
kept_at_start s start = kept_plain s (record {
  sized = start.sized;
  rows = start.rows;
  unbegun = λ h. record { floor = idle h; prices = λ v lt. start.prices v lt ∙ idle h; mates = start.mates; blossoms = start.blossoms };
  begun = start.begun;
  mates = λ v e lt h. absurd (none_some (sym (start.mates v lt) ∙ h));
  floored = record { above = λ v lt. omega (arith, start.prices v lt); loose = λ v lt h. start.prices v lt };
  all = λ e l. (let r = start.rows e l in omega (arith, start.floor, start.prices (first_of s e) r.first_in, mul-le-mul_left (2 * k_in s) r.shown_low));
  paired = λ e l h. absurd (none_some (sym (start.mates (first_of s e) (start.rows e l).first_in) ∙ some_from (mate s.mates (first_of s e)) e h));
  floor = omega (arith, start.floor);
  small = λ v lt. omega (arith, start.floor, start.prices v lt, mul_assoc 2 (k_in s) s.top, mul_assoc 4 (k_in s) s.top);
  roots = start.roots;
  none = start.blossoms;
})
  where
    idle : s.begun ≡ None → s.floor ≡ 0
    idle h = start.floor ∙ ap (λ o. 2 * or_zero o * s.top) h ∙ zero-mul s.top
