-- The step and the end of a search for the first offer that fails a test. Assumes nothing.
use Rattle.std.proofs.Common.{◌≡◌, ℕ, ◌+◌, ◌<◌, ◌≤◌, Bool, true, false, cond, List, length, get_or, drop, Some, None, sym, ap, ◌∙◌}
use Rattle.std.proofs.lemmas.List.{at_drop_more, at_drop_all}
use Rattle.sources.specs.declared.offer.Offer.{Offer}
use Rattle.sources.specs.Lists.{no_offer, first_bad}

module _ (ok : Offer → Bool) (os : List Offer) (i : ℕ) (inv : first_bad ok i (drop i os) ≡ first_bad ok 0 os) where
  step : i < length os → first_bad ok 0 os ≡ cond (ok (get_or os i no_offer)) (first_bad ok (i + 1) (drop (i + 1) os)) (Some i)
  step l = sym inv ∙ at_drop_more (first_bad ok i) os i no_offer l

  pub bad_here : i < length os → ok (get_or os i no_offer) ≡ false → Some i ≡ first_bad ok 0 os
  bad_here l h = sym (step l ∙ ap (λ b. cond b (first_bad ok (i + 1) (drop (i + 1) os)) (Some i)) h)

  pub good_here : i < length os → ok (get_or os i no_offer) ≡ true → first_bad ok (i + 1) (drop (i + 1) os) ≡ first_bad ok 0 os
  good_here l h = sym (step l ∙ ap (λ b. cond b (first_bad ok (i + 1) (drop (i + 1) os)) (Some i)) h)

  pub none_bad : length os ≤ i → None ≡ first_bad ok 0 os
  none_bad l = sym (at_drop_all (first_bad ok i) os i l) ∙ inv
