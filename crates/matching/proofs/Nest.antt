-- The worked state with a blossom inside a blossom keeps what every state keeps. Assumes nothing.
use Rattle.std.proofs.Common.{◌≡◌, ℕ, ◌+◌, ◌<◌, ◌≤◌, true, cond, ltb, ◌≢◌, ◌⊎◌, List, [], ◌∷◌, length, get_or, sym, refl, ◌∙◌, inl, inr, arith}
use Rattle.matching.specs.Mates.{mate}
use Rattle.matching.specs.Rows.{AllSound}
use Rattle.matching.specs.Sums.{total, below}
use Rattle.matching.specs.State.{Blossom, weight, root_at, blossom_at, InUse, yz}
use Rattle.matching.specs.Kept.{Kept, Mated, Fair, Ring, Nested, part_at}
use Rattle.matching.specs.Examples.{nest, inner, outer, KeptNest}
use Rattle.matching.proofs.Nodes.{Part}
use Rattle.matching.proofs.Nesting.{parts_smaller}
use Rattle.matching.proofs.Rooted.{only_root, parent_by, parity_by}
use Rattle.matching.proofs.Finite.{each, Of, of_some, some_is, none_some, each_used, held_known}

inner_ring : Ring nest inner
unfolding total
inner_ring = record {
  odd = refl;
  three = omega arith;
  different = omega arith;
  nodes = each _ 3 (((tt, inl (omega arith)), inl (omega arith)), inl (omega arith));
  joins = refl;
  offers = each _ 3 (omega arith);
  joined = each _ 3 (((tt, inr (refl, refl)), inl (refl, refl)), inl (refl, refl));
  members = λ v h. (let l = held_known (true ∷ true ∷ true ∷ []) v h in omega arith);
  split = each _ 5 (((((tt, refl), refl), refl), refl), refl);
}

outer_ring : Ring nest outer
unfolding total
outer_ring = record {
  odd = refl;
  three = omega arith;
  different = omega arith;
  nodes = each _ 3 (((tt, inr (omega arith, refl)), inl (omega arith)), inl (omega arith));
  joins = refl;
  offers = each _ 3 (omega arith);
  joined = each _ 3 (((tt, inl (refl, refl)), inl (refl, refl)), inr (refl, refl));
  members = λ v h. held_known (true ∷ true ∷ true ∷ true ∷ true ∷ []) v h;
  split = each _ 5 (((((tt, refl), refl), refl), refl), refl);
}

abbrev both : List Blossom
both = inner ∷ outer ∷ []

nest_rings : (i : ℕ) → InUse nest i → Ring nest (blossom_at nest i)
nest_rings = each_used _ both ((tt, inner_ring), outer_ring)

nest_part : (v : ℕ) → v < 5 → Part nest v
nest_part = each _ 5 (
  (
    (
      (
        (tt, record { place = 0; at = 1; used = refl; there = omega arith; is = refl }),
        record { place = 0; at = 2; used = refl; there = omega arith; is = refl },
      ),
      record { place = 0; at = 0; used = refl; there = omega arith; is = refl },
    ),
    record { place = 1; at = 1; used = refl; there = omega arith; is = refl },
  ),
  record { place = 1; at = 2; used = refl; there = omega arith; is = refl },
)

nest_places : (i : ℕ) → InUse nest i → (i ≡ 1) ⊎ Part nest (200 + i)
nest_places = each_used _ both ((tt, inr (record { place = 1; at = 0; used = refl; there = omega arith; is = refl })), inl refl)

nest_root : (v : ℕ) → v < 5 → root_at nest v ≡ 201
nest_root = each _ 5 (((((tt, refl), refl), refl), refl), refl)

nest_top : (i : ℕ) → InUse nest i → (j : ℕ) → j < length (blossom_at nest i).parts → part_at (blossom_at nest i) j ≢ 201
nest_top =
    each_used (λ i. (j : ℕ) → j < length (blossom_at nest i).parts → part_at (blossom_at nest i) j ≢ 201)
    both ((tt, each _ 3 (omega arith)), each _ 3 (omega arith))

-- the members below 3 are parts of the inner blossom
nest_parent : (i : ℕ) → InUse nest i → (j : ℕ) → j < length (blossom_at nest i).parts → cond (ltb (part_at (blossom_at nest i) j) 3) 0 1 ≡ i
nest_parent =
    each_used (λ i. (j : ℕ) → j < length (blossom_at nest i).parts → cond (ltb (part_at (blossom_at nest i) j) 3) 0 1 ≡ i)
    both ((tt, each _ 3 (((tt, refl), refl), refl)), each _ 3 (((tt, refl), refl), refl))

nest_rows : AllSound 5 5 nest.rows
nest_rows = each _ 6 (omega arith)

nest_nested : Nested nest
nest_nested = record {
  rings = nest_rings;
  one_parent = parent_by nest (λ p. cond (ltb p 3) 0 1) nest_parent;
  smaller = λ i j u l. parts_smaller nest i j nest_rows nest_rings u l;
  root_holds = each _ 5 (((((tt, refl), refl), refl), refl), refl);
  root_outermost = λ v lt i j u l e. nest_top i u j l (e ∙ nest_root v lt);
  root_only = λ v p lt h free. only_root nest 1 nest_part nest_places v p lt h free ∙ sym (nest_root v lt);
}

nest_mates : (v : ℕ) → v < 5 → Of (mate nest.mates v) (Mated nest v)
nest_mates = each _ 5 (
  (
    (
      (
        (tt, record { known = omega arith; names = inl refl; first = refl; second = refl }),
        record { known = omega arith; names = inr refl; first = refl; second = refl },
      ),
      tt,
    ),
    record { known = omega arith; names = inl refl; first = refl; second = refl },
  ),
  record { known = omega arith; names = inr refl; first = refl; second = refl },
)

nest_fair : Fair nest
unfolding total below
nest_fair = record {
  all = each _ 6 (omega arith);
  paired = each _ 6 ((((((tt, λ h. omega arith), λ h. omega arith), λ h. omega arith), λ h. omega arith), λ h. omega arith), λ h. omega arith);
  ring = λ i j u. each_used
      (λ i. (j : ℕ) → j < length (blossom_at nest i).joins → yz nest (get_or (blossom_at nest i).joins j 0) ≤ weight nest (get_or (blossom_at nest i).joins j 0))
      both ((tt, each _ 3 (omega arith)), each _ 3 (omega arith)) i u j;
}

nest_kept : Kept nest
unfolding total below
nest_kept = record {
  sized = record { few = omega arith; short = omega arith; low = omega arith; prices = refl; mates = refl; roots = refl; blossoms = refl };
  rows = nest_rows;
  unbegun = λ h. absurd (none_some (sym h));
  begun = λ k h. (let e = some_is h in record { positive = omega arith; small = omega arith; top = omega arith });
  mates = λ v e lt h. of_some _ (Mated nest v) (nest_mates v lt) e h;
  floored = record {
    above = each _ 5 (omega arith);
    loose = each _ 5 (((((tt, λ h. absurd (none_some (sym h))), λ h. absurd (none_some (sym h))), λ h. refl), λ h. absurd (none_some (sym h))), λ h. absurd (none_some (sym h)));
  };
  fair = nest_fair;
  even = each_used _ both ((tt, refl), refl);
  nested = nest_nested;
  one_bare = each_used _ both ((tt, refl), refl);
  one_parity = parity_by nest 1 nest_rings (each _ 5 (((((tt, refl), refl), refl), refl), refl));
  small = record { floor = omega arith; members = each _ 5 (omega arith); blossoms = each_used _ both ((tt, omega arith), omega arith) };
}

pub kept_nest : KeptNest
kept_nest = (nest_kept, refl, refl, refl)
