-- An accepted adjust finds room for its prices, and leaves a board that keeps what every board keeps. Assumes nothing.
use Rattle.std.proofs.Common.{◌≡◌, ℕ, ◌+◌, ◌*◌, ◌<◌, ◌≤◌, true, false, List, length, Some, None, Option, sym, refl, ap, ◌∙◌, subst, ⊎_elim, mul-le-mul, arith}
use mathlib.Core.Logic.{∥∥₁_elim, ∥∥₁_map}
use native.Mathlib.Bridge.{le_prop}
use native.Mathlib.Nat.{ℕ_set}
use lib.ListN.{length-map}
use Rattle.std.proofs.lemmas.Bool.{cases_Bool}
use Rattle.matching.specs.State.{or_zero, k_in, blossom_at, node_holds}
use Rattle.matching.specs.Kept.{Kept}
use Rattle.steps.proofs.Adjust.{accepted, adjust_keeps}
use Rattle.steps.proofs.Offers.{root_label_none}
use Rattle.matching.proofs.Nodes.{inside_used, holds_inside}
use Rattle.tables.specs.declared.tables.Tables.{Tables}
use Rattle.tables.specs.States.{blossom_of, state}
use Rattle.tables.specs.Kept.{Held, Keeps}
use Rattle.tables.specs.States.{place}
use Rattle.steps.specs.Adjust.{root_label}
use Rattle.board.specs.Moves.{Low, LowBlossoms, all_moved}
use Rattle.adjusts.specs.Adjusts.{Ready}
use Rattle.adjusts.proofs.Accepting.{labels_counted}
use Rattle.tables.proofs.Keeping.{few, price_low, blossom_there}
use Rattle.board.proofs.Moving.{state_moved}

module _ (t : Tables) (keeps : Keeps t) (ls common : List ℕ) (ready : Ready (state t) ls common) where
  counted : length ls ≡ t.members
  counted = labels_counted (state t) ls (accepted (state t) ls ready.none).labels

  pub room : length ls ≤ 200
  room = omega (arith, counted, few t keeps)

  pub above : 1 ≤ t.floor
  above = (accepted (state t) ls ready.none).floor

  pub low : Low t (length ls)
  low v l = price_low t keeps v (omega (arith, counted))

  pub full : length t.blossoms ≡ 100
  full = ∥∥₁_elim keeps (ℕ_set _ _) (λ h. sym (length-map t.blossoms blossom_of) ∙ h.kept.sized.blossoms)

  -- where no blossom is there is no root, and so no label
  unlabelled : Held t → (i : ℕ) → (blossom_at (state t) i).used ≡ false → root_label (state t) ls (200 + i) ≡ 0
  unlabelled h i free = root_label_none (state t) ls (200 + i) (λ v lt r.
      let held = subst (λ p. node_holds (state t) p v ≡ true) r (h.kept.nested.root_holds v lt) in
      let used = inside_used (blossom_at (state t) i) v (sym (holds_inside (state t) i v) ∙ held) in
      let z : ◌≡◌ {A = ℕ} 0 1 = cc in
      omega arith)

  pub idle : (i : ℕ) → i < 100 → place t i ≡ None → root_label (state t) ls (200 + i) ≡ 0
  idle i l none = ∥∥₁_elim keeps (ℕ_set _ _) (λ h. unlabelled h i (ap (λ b. b.used) (blossom_there t i ∙ ap blossom_of none)))

  -- a blossom whose root has a label is in use
  pub cheap : LowBlossoms t common
  cheap i l some = ∥∥₁_elim keeps le_prop by
    where
      limit : Held t → 4 * k_in (state t) * t.top ≤ 128000
      limit h = from t.begun refl
        where
          from : (b : Option ℕ) → t.begun ≡ b → 4 * or_zero t.begun * t.top ≤ 128000
          from None e = subst (λ (b : Option ℕ). 4 * or_zero b * t.top ≤ 128000) (sym e) (omega arith)
          from (Some k) e =
              let b = h.kept.begun k e in
              let four : 4 * k ≤ 128 = omega (arith, b.small) in
              subst (λ (b : Option ℕ). 4 * or_zero b * t.top ≤ 128000) (sym e) (omega (arith, mul-le-mul four b.top))

      by : Held t → (blossom_of (place t i)).price ≤ 128000
      by h =
          ⊎_elim
          (λ (used : (blossom_at (state t) i).used ≡ true).
          omega (arith, h.kept.small.blossoms i used, limit h, ap (λ b. b.price) (blossom_there t i)))
          (λ (free : (blossom_at (state t) i).used ≡ false).
          absurd (some (ready.roots (200 + i) (omega arith) ∙ unlabelled h i free)))
          (cases_Bool (blossom_at (state t) i).used)

  pub adjust_held : (t' : Tables) → t' ≡ all_moved t ls common → Keeps t'
  adjust_held t' e =
      subst Keeps (sym e)
      (∥∥₁_map keeps (λ h. record { short = h.short; full = h.full; kept = subst Kept (sym (state_moved t ls common full ready.roots idle)) (adjust_keeps (state t) ls h.kept ready.none) }))
