-- Every state of the worked triangle keeps what every state keeps. Assumes nothing.
use Rattle.std.proofs.Common.{◌≡◌, ℕ, ◌+◌, ◌*◌, ◌%◌, ◌<◌, ◌≤◌, true, ◌≢◌, List, [], ◌∷◌, length, get_or, Some, Option, sym, refl, ◌∙◌, inl, inr, arith}
use Rattle.std.proofs.lemmas.Bool.{false≢true}
use Rattle.matching.specs.declared.row.Row.{Row}
use Rattle.matching.specs.Mates.{mate}
use Rattle.matching.specs.Rows.{AllSound}
use Rattle.matching.specs.Sums.{total, below}
use Rattle.matching.specs.State.{State, weight, root_at, blossom_at, InUse, yz}
use Rattle.matching.specs.Kept.{Kept, Mated, Fair, Ring, Nested, part_at}
use Rattle.matching.specs.Examples.{offer, triangle, ring, fresh, too_low, KeptWalk}
use Rattle.matching.proofs.Nodes.{Part}
use Rattle.matching.proofs.Nesting.{parts_smaller}
use Rattle.matching.proofs.Rooted.{only_root, parent_by, parity_by}
use Rattle.matching.proofs.Start.{kept_plain, kept_at_start}
use Rattle.matching.proofs.Finite.{each, Of, of_some, some_is, none_some, each_used, held_known}

abbrev offers : List Row
offers = offer 0 1 4 ∷ offer 0 2 4 ∷ offer 1 2 4 ∷ []

sound : AllSound 3 4 offers
sound = each _ 3 (omega arith)

-- three members and the pair 0 1, all in one blossom
module _ (floor a b c z : ℕ) where
  abbrev closed : State
  closed = triangle (Some 1) floor (a ∷ b ∷ c ∷ []) (Some 0 ∷ Some 0 ∷ []) (200 ∷ 200 ∷ 200 ∷ []) (ring z ∷ [])

  the_ring : Ring closed (ring z)
  unfolding total
  the_ring = record {
    odd = refl;
    three = omega arith;
    different = omega arith;
    nodes = each _ 3 (((tt, inl (omega arith)), inl (omega arith)), inl (omega arith));
    joins = refl;
    offers = each _ 3 (omega arith);
    joined = each _ 3 (((tt, inr (refl, refl)), inl (refl, refl)), inl (refl, refl));
    members = λ v h. held_known (true ∷ true ∷ true ∷ []) v h;
    split = each _ 3 (((tt, refl), refl), refl);
  }

  rings : (i : ℕ) → InUse closed i → Ring closed (blossom_at closed i)
  rings = each_used _ (ring z ∷ []) (tt, the_ring)

  is_part : (v : ℕ) → v < 3 → Part closed v
  is_part = each _ 3 (
    (
      (tt, record { place = 0; at = 1; used = refl; there = omega arith; is = refl }),
      record { place = 0; at = 2; used = refl; there = omega arith; is = refl },
    ),
    record { place = 0; at = 0; used = refl; there = omega arith; is = refl },
  )

  root_is : (v : ℕ) → v < 3 → root_at closed v ≡ 200
  root_is = each _ 3 (((tt, refl), refl), refl)

  not_part : (i : ℕ) → InUse closed i → (j : ℕ) → j < length (blossom_at closed i).parts → part_at (blossom_at closed i) j ≢ 200
  not_part = each_used (λ i. (j : ℕ) → j < length (blossom_at closed i).parts → part_at (blossom_at closed i) j ≢ 200) (ring z ∷ []) (tt, each _ 3 (omega arith))

  nested : Nested closed
  nested = record {
    rings = rings;
    one_parent = parent_by closed (λ p. 0) (each_used (λ i. (j : ℕ) → j < length (blossom_at closed i).parts → 0 ≡ i) (ring z ∷ []) (tt, λ j h. refl));
    smaller = λ i j u l. parts_smaller closed i j sound rings u l;
    root_holds = each _ 3 (((tt, refl), refl), refl);
    root_outermost = λ v lt i j u l e. not_part i u j l (e ∙ root_is v lt);
    root_only = λ v p lt h free. only_root closed 0 is_part (each_used _ (ring z ∷ []) (tt, inl refl)) v p lt h free ∙ sym (root_is v lt);
  }

  mates : (v : ℕ) → v < 3 → Of (mate closed.mates v) (Mated closed v)
  mates = each _ 3 (
    (
      (tt, record { known = omega arith; names = inl refl; first = refl; second = refl }),
      record { known = omega arith; names = inr refl; first = refl; second = refl },
    ),
    tt,
  )

  -- what is asked of the numbers
  record Numbers : Type 0 where
    above : (floor ≤ a) × (floor ≤ b)
    at_floor : c ≡ floor
    low : (6 ≤ a + b + z) × (6 ≤ a + c + z) × (6 ≤ b + c + z)
    high : (a + b + z ≤ 8) × (a + c + z ≤ 8) × (b + c + z ≤ 8)
    even : z % 2 ≡ 0
    parity : (a % 2 ≡ c % 2) × (b % 2 ≡ c % 2)
    small : (floor ≤ 8) × (a + floor ≤ 16) × (b + floor ≤ 16) × (c + floor ≤ 16) × (z + 2 * floor ≤ 16)

  fair : Numbers → Fair closed
  unfolding total
  fair n = record {
    all = each _ 3 (((tt, omega (arith, n)), omega (arith, n)), omega (arith, n));
    paired = each _ 3 (((tt, λ h. omega (arith, n)), λ h. omega (arith, n)), λ h. omega (arith, n));
    ring = λ i j u. each_used
        (λ i. (j : ℕ) → j < length (blossom_at closed i).joins → yz closed (get_or (blossom_at closed i).joins j 0) ≤ weight closed (get_or (blossom_at closed i).joins j 0))
        (ring z ∷ []) (tt, each _ 3 (((tt, omega (arith, n)), omega (arith, n)), omega (arith, n))) i u j;
  }

  kept_closed : Numbers → Kept closed
  unfolding total below
  kept_closed n = record {
    sized = record { few = omega arith; short = omega arith; low = omega arith; prices = refl; mates = refl; roots = refl; blossoms = refl };
    rows = sound;
    unbegun = λ h. absurd (none_some (sym h));
    begun = λ k h. (let e = some_is h in record { positive = omega arith; small = omega arith; top = omega arith });
    mates = λ v e lt h. of_some _ (Mated closed v) (mates v lt) e h;
    floored = record {
      above = each _ 3 (((tt, n.above.0), n.above.1), omega (arith, n.at_floor));
      loose = each _ 3 (((tt, λ h. absurd (none_some (sym h))), λ h. absurd (none_some (sym h))), λ h. n.at_floor);
    };
    fair = fair n;
    even = each_used _ (ring z ∷ []) (tt, n.even);
    nested = nested;
    one_bare = each_used _ (ring z ∷ []) (tt, refl);
    one_parity = parity_by closed (c % 2) rings (each _ 3 (((tt, n.parity.0), n.parity.1), refl));
    small = record {
      floor = n.small.0;
      members = each _ 3 (((tt, n.small.1), n.small.2), n.small.3);
      blossoms = each_used _ (ring z ∷ []) (tt, n.small.4);
    };
  }

-- three members and no blossom
abbrev apart : Option ℕ → ℕ → ℕ → ℕ → ℕ → List (Option ℕ) → State
apart begun floor a b c pairs = triangle begun floor (a ∷ b ∷ c ∷ []) pairs (0 ∷ 1 ∷ 2 ∷ []) []

-- with the pair 0 1
module _ (floor a b : ℕ) where
  abbrev one_pair : State
  one_pair = apart (Some 1) floor a b floor (Some 0 ∷ Some 0 ∷ [])

  mated : (v : ℕ) → v < 3 → Of (mate one_pair.mates v) (Mated one_pair v)
  mated = each _ 3 (
    (
      (tt, record { known = omega arith; names = inl refl; first = refl; second = refl }),
      record { known = omega arith; names = inr refl; first = refl; second = refl },
    ),
    tt,
  )

  kept_pair : (floor ≤ a) × (floor ≤ b) × (6 ≤ a + floor) × (6 ≤ b + floor) × (a + b ≤ 8) → Kept one_pair
  unfolding total
  kept_pair n = kept_plain one_pair (record {
    sized = record { few = omega arith; short = omega arith; low = omega arith; prices = refl; mates = refl; roots = refl; blossoms = refl };
    rows = sound;
    unbegun = λ h. absurd (none_some (sym h));
    begun = λ k h. (let e = some_is h in record { positive = omega arith; small = omega arith; top = omega arith });
    mates = λ v e lt h. of_some _ (Mated one_pair v) (mated v lt) e h;
    floored = record {
      above = each _ 3 (((tt, n.0), n.1), omega arith);
      loose = each _ 3 (((tt, λ h. absurd (none_some (sym h))), λ h. absurd (none_some (sym h))), λ h. refl);
    };
    all = each _ 3 (((tt, omega (arith, n)), omega (arith, n)), omega (arith, n));
    paired = each _ 3 (((tt, λ h. omega (arith, n)), λ h. absurd (false≢true h)), λ h. absurd (false≢true h));
    floor = omega (arith, n);
    small = each _ 3 (((tt, omega (arith, n)), omega (arith, n)), omega (arith, n));
    roots = each _ 3 (((tt, refl), refl), refl);
    none = each_used (λ i. ⊥) [] tt;
  })

-- with nothing paired
module _ (floor : ℕ) where
  abbrev all_loose : State
  all_loose = apart (Some 1) floor floor floor floor []

  kept_loose : (3 ≤ floor) × (floor ≤ 8) → Kept all_loose
  unfolding total
  kept_loose n = kept_plain all_loose (record {
    sized = record { few = omega arith; short = omega arith; low = omega arith; prices = refl; mates = refl; roots = refl; blossoms = refl };
    rows = sound;
    unbegun = λ h. absurd (none_some (sym h));
    begun = λ k h. (let e = some_is h in record { positive = omega arith; small = omega arith; top = omega arith });
    mates = λ v e lt h. of_some _ (Mated all_loose v) (nobody v lt) e h;
    floored = record {
      above = each _ 3 (((tt, omega arith), omega arith), omega arith);
      loose = each _ 3 (((tt, λ h. refl), λ h. refl), λ h. refl);
    };
    all = each _ 3 (((tt, omega (arith, n)), omega (arith, n)), omega (arith, n));
    paired = each _ 3 (((tt, λ h. absurd (false≢true h)), λ h. absurd (false≢true h)), λ h. absurd (false≢true h));
    floor = omega (arith, n);
    small = each _ 3 (((tt, omega (arith, n)), omega (arith, n)), omega (arith, n));
    roots = each _ 3 (((tt, refl), refl), refl);
    none = each_used (λ i. ⊥) [] tt;
  })
    where
      nobody : (v : ℕ) → v < 3 → Of (mate all_loose.mates v) (Mated all_loose v)
      nobody = each _ 3 (((tt, tt), tt), tt)

kept_fresh : Kept fresh
kept_fresh = kept_at_start fresh (record {
  sized = record { few = omega arith; short = omega arith; low = omega arith; prices = refl; mates = refl; roots = refl; blossoms = refl };
  rows = sound;
  begun = λ k h. absurd (none_some h);
  floor = refl;
  prices = each _ 3 (((tt, refl), refl), refl);
  mates = each _ 3 (((tt, refl), refl), refl);
  roots = each _ 3 (((tt, refl), refl), refl);
  blossoms = each_used (λ i. ⊥) [] tt;
})

not_kept : Kept too_low → ⊥
unfolding total
not_kept kept = omega (arith, kept.fair.all 0 (omega arith))

pub kept_walk : KeptWalk
kept_walk = record {
  before = kept_fresh;
  at_start = kept_loose 8 (omega arith);
  after_five = kept_loose 3 (omega arith);
  sixth = not_kept;
  after_augment = kept_pair 3 3 3 (omega arith);
  after_in_out = kept_pair 2 4 4 (omega arith);
  after_shrink = kept_closed 2 4 4 2 0 (omega arith);
  after_out = kept_closed 1 3 3 1 2 (omega arith);
  at_end = kept_closed 0 2 2 0 4 (omega arith);
  in_use = (refl, refl, refl);
}
