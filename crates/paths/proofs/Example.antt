-- The worked examples of laying bare. Assumes nothing.
use Rattle.std.proofs.Common.{◌≡◌, ℕ, ◌%◌, ◌<◌, ◌≤◌, true, List, [], ◌∷◌, length, get_or, None, Option, sym, refl, ap, ◌∙◌, subst, inl, inr, arith}
use Rattle.std.proofs.lemmas.Bool.{cases_lt}
use Rattle.matching.specs.Mates.{mate}
use Rattle.matching.specs.Rows.{AllSound}
use Rattle.matching.specs.Sums.{total, below}
use Rattle.matching.specs.State.{State, weight, price_at, root_at, blossom_at, InUse, inside, node_holds, yz}
use Rattle.matching.specs.Kept.{Kept, Mated, Fair, Ring, Nested, Node, Outermost, part_at}
use Rattle.matching.specs.Examples.{filled, nest}
use Rattle.matching.proofs.Nodes.{Part, part_not, holds_cases, inside_used}
use Rattle.matching.proofs.Nesting.{parts_smaller}
use Rattle.matching.proofs.Nest.{kept_nest}
use Rattle.matching.proofs.Finite.{each, Of, of_some, some_is, none_some, each_used, held_known}
use Rattle.paths.specs.Bare.{Link, Laid}
use Rattle.paths.specs.Examples.{five, wheel, Turns, RingBare, NestBare}
use Rattle.paths.proofs.Unique.{one_result}

five_ring : Ring wheel five
unfolding total
five_ring = record {
  odd = refl;
  three = omega arith;
  different = omega arith;
  nodes = each _ 5 (((((tt, inl (omega arith)), inl (omega arith)), inl (omega arith)), inl (omega arith)), inl (omega arith));
  joins = refl;
  offers = each _ 5 (omega arith);
  joined = each _ 5 (((((tt, inl (refl, refl)), inl (refl, refl)), inl (refl, refl)), inl (refl, refl)), inr (refl, refl));
  members = λ v h. (let l = held_known (true ∷ true ∷ true ∷ true ∷ true ∷ []) v h in omega arith);
  split = each _ 6 ((((((tt, refl), refl), refl), refl), refl), refl);
}

wheel_rings : (i : ℕ) → InUse wheel i → Ring wheel (blossom_at wheel i)
wheel_rings = each_used _ (five ∷ []) (tt, five_ring)

wheel_rows : AllSound 6 4 wheel.rows
wheel_rows = each _ 6 (omega arith)

wheel_root : (v : ℕ) → v < 5 → root_at wheel v ≡ 200
wheel_root = each _ 5 (((((tt, refl), refl), refl), refl), refl)

-- a part of a blossom is below 5
wheel_parts : (i : ℕ) → InUse wheel i → (j : ℕ) → j < length (blossom_at wheel i).parts → part_at (blossom_at wheel i) j < 5
wheel_parts = each_used (λ i. (j : ℕ) → j < length (blossom_at wheel i).parts → part_at (blossom_at wheel i) j < 5) (five ∷ []) (tt, each _ 5 (omega arith))

-- the members below 5 are parts of the blossom
wheel_part : (v : ℕ) → v < 5 → Part wheel v
wheel_part v l = record { place = 0; at = v; used = refl; there = l; is = each (λ v. part_at five v ≡ v) 5 (((((tt, refl), refl), refl), refl), refl) v l }

wheel_low : (v : ℕ) → v < 6 → 5 ≤ root_at wheel v
wheel_low = each _ 6 (omega arith)

wheel_place : (i : ℕ) → InUse wheel i → i ≡ 0
wheel_place = each_used _ (five ∷ []) (tt, refl)

-- the blossom holds members below 5, whose prices are odd
in_five : (i v : ℕ) → inside (blossom_at wheel i) v ≡ true → v < 5
in_five i v h = held_known (true ∷ true ∷ true ∷ true ∷ true ∷ []) v
    (subst (λ i. inside (blossom_at wheel i) v ≡ true) (wheel_place i (inside_used (blossom_at wheel i) v h)) h)

wheel_odd : (v : ℕ) → v < 5 → price_at wheel v % 2 ≡ 1
wheel_odd = each _ 5 (((((tt, refl), refl), refl), refl), refl)

wheel_only : (v p : ℕ) → v < 6 → node_holds wheel p v ≡ true → Outermost wheel p → p ≡ root_at wheel v
wheel_only v p lt h free = elim (holds_cases wheel p v h) [
  | inl same ↦ elim (cases_lt v 5) [
    | inl l ↦ absurd (part_not wheel p (subst (Part wheel) (sym same) (wheel_part v l)) free)
    | inr l ↦ let e : v ≡ 5 = omega arith in same ∙ e ∙ sym (ap (root_at wheel) e)
  ]
  | inr b ↦ let e : p ≡ 200 = omega (arith, b.1, wheel_place b.0 (inside_used (blossom_at wheel b.0) v b.2)) in e ∙ sym (wheel_root v (in_five b.0 v b.2))
]

wheel_nested : Nested wheel
wheel_nested = record {
  rings = wheel_rings;
  one_parent = λ h i j l u w lj ll e. wheel_place h u ∙ sym (wheel_place i w);
  smaller = λ i j u l. parts_smaller wheel i j wheel_rows wheel_rings u l;
  root_holds = each _ 6 ((((((tt, refl), refl), refl), refl), refl), refl);
  root_outermost = λ v lt i j u l e. omega (arith, wheel_parts i u j l, wheel_low v lt, e);
  root_only = wheel_only;
}

wheel_mates : (v : ℕ) → v < 6 → Of (mate wheel.mates v) (Mated wheel v)
wheel_mates = each _ 6 (
  (
    (
      (
        ((tt, tt), record { known = omega arith; names = inl refl; first = refl; second = refl }),
        record { known = omega arith; names = inr refl; first = refl; second = refl },
      ),
      record { known = omega arith; names = inl refl; first = refl; second = refl },
    ),
    record { known = omega arith; names = inr refl; first = refl; second = refl },
  ),
  tt,
)

wheel_fair : Fair wheel
unfolding total below
wheel_fair = record {
  all = each _ 6 (omega arith);
  paired = each _ 6 ((((((tt, λ h. omega arith), λ h. omega arith), λ h. omega arith), λ h. omega arith), λ h. omega arith), λ h. omega arith);
  ring = λ i j u. each_used
      (λ i. (j : ℕ) → j < length (blossom_at wheel i).joins → yz wheel (get_or (blossom_at wheel i).joins j 0) ≤ weight wheel (get_or (blossom_at wheel i).joins j 0))
      (five ∷ []) (tt, each _ 5 (omega arith)) i u j;
}

wheel_kept : Kept wheel
unfolding total below
wheel_kept = record {
  sized = record { few = omega arith; short = omega arith; low = omega arith; prices = refl; mates = refl; roots = refl; blossoms = refl };
  rows = wheel_rows;
  unbegun = λ h. absurd (none_some (sym h));
  begun = λ k h. (let e = some_is h in record { positive = omega arith; small = omega arith; top = omega arith });
  mates = λ v e lt h. of_some _ (Mated wheel v) (wheel_mates v lt) e h;
  floored = record {
    above = each _ 6 (omega arith);
    loose = each _ 6 ((((((tt, λ h. refl), λ h. absurd (none_some (sym h))), λ h. absurd (none_some (sym h))), λ h. absurd (none_some (sym h))), λ h. absurd (none_some (sym h))), λ h. refl);
  };
  fair = wheel_fair;
  even = each_used _ (five ∷ []) (tt, refl);
  nested = wheel_nested;
  one_bare = each_used _ (five ∷ []) (tt, refl);
  one_parity = λ i v w hv hw. wheel_odd v (in_five i v hv) ∙ sym (wheel_odd w (in_five i w hw));
  small = record { floor = omega arith; members = each _ 6 (omega arith); blossoms = each_used _ (five ∷ []) (tt, omega arith) };
}

-- the parts of the wheel and of the two rings of `nest`, each with the offer that leads on
abbrev at : ℕ → ℕ → Link
at p e = record { part = p; offer = e }

-- laid bare, and so by no other way
turns : (s : State) (p u : ℕ) (m m' : List (Option ℕ)) → Kept s → Node s p → node_holds s p u ≡ true →
    Laid s (record { node = p; member = u } ∷ []) (filled 200 None m) (filled 200 None m') → Turns s p u m m'
turns s p u m m' kept node held l = record { laid = l; only = λ r k. one_result s p u (filled 200 None m) r (filled 200 None m') kept node held k l }

pub ring_bare : RingBare
ring_bare = record {
  kept = wheel_kept;
  at_2 = turns wheel 200 2 _ _ wheel_kept (inr (omega arith, refl)) refl
      (Laid.round (at 0 0 ∷ at 1 1 ∷ []) (at 3 3 ∷ at 4 4 ∷ []) (at 2 2) (omega arith) refl refl
      (Laid.alone (omega arith) (Laid.alone (omega arith) (Laid.alone (omega arith) (Laid.alone (omega arith) (Laid.alone (omega arith) Laid.none))))));
  at_0 = turns wheel 200 0 _ _ wheel_kept (inr (omega arith, refl)) refl
      (Laid.round [] (at 1 1 ∷ at 2 2 ∷ at 3 3 ∷ at 4 4 ∷ []) (at 0 0) (omega arith) refl refl
      (Laid.alone (omega arith) (Laid.alone (omega arith) (Laid.alone (omega arith) (Laid.alone (omega arith) (Laid.alone (omega arith) Laid.none))))));
}

pub nest_bare : NestBare
nest_bare = record {
  at_0 = turns nest 201 0 _ _ kept_nest.0 (inr (omega arith, refl)) refl
      (Laid.round [] (at 3 4 ∷ at 4 5 ∷ []) (at 200 3) (omega arith) refl refl
      (Laid.alone (omega arith) (Laid.alone (omega arith)
      (Laid.round (at 2 1 ∷ []) (at 1 2 ∷ []) (at 0 0) (omega arith) refl refl
      (Laid.alone (omega arith) (Laid.alone (omega arith) (Laid.alone (omega arith) Laid.none)))))));
  at_3 = turns nest 201 3 _ _ kept_nest.0 (inr (omega arith, refl)) refl
      (Laid.round (at 200 3 ∷ []) (at 4 5 ∷ []) (at 3 4) (omega arith) refl refl
      (Laid.round [] (at 0 0 ∷ at 1 2 ∷ []) (at 2 1) (omega arith) refl refl
      (Laid.alone (omega arith) (Laid.alone (omega arith) (Laid.alone (omega arith)
      (Laid.alone (omega arith) (Laid.alone (omega arith) Laid.none)))))));
}
