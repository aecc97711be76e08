use Rattle.std.proofs.Common.{refl, arith, rules}
use Rattle.std.proofs.lemmas.Grind.{common_steps}
use Rattle.std.proofs.lemmas.List.Recursion.{max_bounds, max_least}
use Rattle.sources.specs.Lists.{no_offer}
use Rattle.sources.specs.ListRows.{largest_saving}
use Rattle.sources.specs.declared.offer.Offer.{Offer}
use Rattle.sources.proofs.list_source.largest.Goals as goal

pub returns : goal.returns
returns c =
    let bounds = max_bounds largest_saving (λ (o : Offer). o.saving) refl (λ _ _. refl) c.args.offers.now in
    let least = max_least largest_saving (λ (o : Offer). o.saving) refl (λ _ _. refl) c.args.offers.now no_offer c.unwrap_or.result (search rules) in
    grind (arith, common_steps, bounds, least)
