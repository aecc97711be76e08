use Rattle.std.proofs.Common.{refl, arith, rules}
use Rattle.std.proofs.lemmas.Grind.{common_steps}
use Rattle.std.proofs.lemmas.List.Recursion.{max_bounds, max_least}
use Rattle.stock.specs.Stock.{largest_stock}
use Rattle.stock.proofs.largest.Goals as goal

pub returns : goal.returns
returns c =
    let bounds = max_bounds largest_stock (λ x. x) refl (λ _ _. refl) c.args.stock.now in
    let least = max_least largest_stock (λ x. x) refl (λ _ _. refl) c.args.stock.now 0 c.unwrap_or.result (search rules) in
    grind (arith, common_steps, bounds, least)
