-- The offers of a sheet at the front of the slots. Assumes nothing.
use Rattle.std.proofs.Common.{◌≡◌, ℕ, ◌≤◌, List, length, take, drop, refl, sym, ap, ◌∙◌, arith}
use Rattle.std.proofs.lemmas.List.{take_at, length-append}
use Rattle.sources.specs.declared.offer.Offer.{Offer}
use Rattle.sheet.specs.Sheets.{placed}

module _ (os slots after : List Offer) (count : ℕ) (same : after ≡ placed os slots) (counted : length os ≡ count) where
  pub offers_fit : count ≤ length after
  offers_fit = omega (arith, ap length same, length-append os (drop (length os) slots))

  pub front : take count after ≡ os
  front = ap (λ k. take k after) (sym counted) ∙ ap (take (length os)) same ∙ take_at os (drop (length os) slots) (length os) refl
