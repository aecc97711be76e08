-- The facts that every board keeps, one by one. Assumes nothing.
use Rattle.std.proofs.Common.{◌≡◌, ℕ, ◌+◌, ◌*◌, ◌<◌, ◌≤◌, Bool, true, false, not, map, length, get_or, is_some, Some, None, Option, sym, refl, ap, ◌∙◌, subst, inl, inr, mul-le-mul, arith, get_or-take}
use mathlib.Core.Logic.{∥∥₁_elim}
use native.Mathlib.Bridge.{le_prop}
use native.Mathlib.Nat.{ℕ_set}
use lib.ListN.{length-map}
use Rattle.std.proofs.lemmas.List.{get_or-map, get_or_past}
use Rattle.std.proofs.lemmas.Bool.{cases_lt}
use Rattle.matching.specs.Rows.{no_row, row, Sound}
use Rattle.matching.specs.Mates.{is_none}
use Rattle.matching.specs.State.{no_blossom, or_zero, root_at, blossom_at}
use Rattle.matching.proofs.Nodes.{inside_used, used_known, holds_cases}
use Rattle.tables.specs.declared.tables.Tables.{Tables}
use Rattle.tables.specs.States.{offered, blossom_of, state, place}
use Rattle.tables.specs.Kept.{Held, Keeps}

-- what stands in the table is what is offered
pub row_offered : (t : Tables) (e : ℕ) → e < t.offers → row (offered t) e ≡ row t.rows e
row_offered t e l = get_or-take t.offers t.rows e no_row l

-- a blossom of the state is read off its place
pub blossom_there : (t : Tables) (i : ℕ) → blossom_at (state t) i ≡ blossom_of (place t i)
blossom_there t i = elim (cases_lt i (length t.blossoms)) [
  | inl l ↦ get_or-map blossom_of t.blossoms i None no_blossom l
  | inr l ↦ get_or_past (map blossom_of t.blossoms) i no_blossom (omega (arith, length-map t.blossoms blossom_of)) ∙ ap blossom_of (sym (get_or_past t.blossoms i None l))
]

module _ (t : Tables) (k : Keeps t) where
  pub few : t.members ≤ 200
  few = ∥∥₁_elim k le_prop (λ h. h.kept.sized.few)

  pub mates_long : length t.mates ≡ 200
  mates_long = ∥∥₁_elim k (ℕ_set _ _) (λ h. h.kept.sized.mates)

  pub roots_long : length t.roots ≡ 200
  roots_long = ∥∥₁_elim k (ℕ_set _ _) (λ h. h.kept.sized.roots)

  pub short : t.offers ≤ 4000
  short = ∥∥₁_elim k le_prop (λ h. h.short)

  pub full : length (offered t) ≡ t.offers
  full = ∥∥₁_elim k (ℕ_set _ _) (λ h. h.full)

  -- every root is a node: a member or a place of the table of blossoms
  pub root_low : (v : ℕ) → v < t.members → get_or t.roots v 0 < 300
  root_low v l = ∥∥₁_elim k le_prop (λ h. elim (holds_cases (state t) (root_at (state t) v) v (h.kept.nested.root_holds v l)) [
    | inl e ↦ omega (arith, e, h.kept.sized.few)
    | inr b ↦ omega (arith, b.1, used_known (state t) b.0 (inside_used (blossom_at (state t) b.0) v b.2), h.kept.sized.blossoms)
  ])

  -- at most 4 k top, for a k of at most 32 and a top of at most 1,000
  pub price_low : (v : ℕ) → v < t.members → get_or t.prices v 0 ≤ 128000
  price_low v l = ∥∥₁_elim k le_prop (λ h. by h t.begun refl)
    where
      by : (h : Held t) (o : Option ℕ) → t.begun ≡ o → get_or t.prices v 0 ≤ 128000
      by h None e = omega (arith, (h.kept.unbegun e).prices v l)
      by h (Some j) e =
          let b = h.kept.begun j e in
          let four : 4 * j ≤ 128 = omega (arith, b.small) in
          let low : get_or t.prices v 0 + t.floor ≤ 4 * j * t.top = subst (λ (o : Option ℕ). get_or t.prices v 0 + t.floor ≤ 4 * or_zero o * t.top) e (h.kept.small.members v l) in
          omega (arith, low, mul-le-mul four b.top)

  pub small_k : (j : ℕ) → t.begun ≡ Some j → j ≤ 32
  small_k j is = ∥∥₁_elim k le_prop (λ h. (h.kept.begun j is).small)

  module _ (e : ℕ) (l : e < t.offers) where
    inside : (h : Held t) → Sound t.members t.top (row t.rows e)
    inside h = subst (Sound t.members t.top) (row_offered t e l) (h.kept.rows e (omega (arith, h.full)))

    pub first_in : (row t.rows e).first < t.members
    first_in = ∥∥₁_elim k le_prop (λ h. (inside h).first_in)

    pub shown_low : (row t.rows e).shown ≤ 100000
    shown_low = ∥∥₁_elim k le_prop (λ h. omega (arith, (inside h).shown_low, h.kept.sized.low))

    pub ground_low : (row t.rows e).ground ≤ 100000
    ground_low = ∥∥₁_elim k le_prop (λ h. (inside h).ground_low)

    pub second_in : (row t.rows e).second < t.members
    second_in = ∥∥₁_elim k le_prop (λ h. (inside h).second_in)

    -- the saving in ticks, once begun
    pub weight_low : (j : ℕ) → t.begun ≡ Some j → 2 * j * (row t.rows e).shown ≤ 64000
    weight_low j is = ∥∥₁_elim k le_prop (λ h. by h)
      where
        by : Held t → 2 * j * (row t.rows e).shown ≤ 64000
        by h =
            let b = h.kept.begun j is in
            let two : 2 * j ≤ 64 = omega (arith, b.small) in
            let low : (row t.rows e).shown ≤ 1000 = omega (arith, (inside h).shown_low, b.top) in
            omega (arith, mul-le-mul two low)

-- what `is_none` answers
pub is_none_by : (o : Option ℕ) (b : Bool) → is_some o ≡ not b → is_none o ≡ b
is_none_by None true h = refl
is_none_by None false h = let z : ◌≡◌ {A = ℕ} 0 1 = cc in absurd (omega arith)
is_none_by (Some e) true h = let z : ◌≡◌ {A = ℕ} 0 1 = cc in absurd (omega arith)
is_none_by (Some e) false h = refl
