use Rattle.std.proofs.Common.{◌∙◌}
use Rattle.blossoms.proofs.Refusing.{lowest_found}
use Rattle.blossoms.proofs.Holding.{places_long}
use Rattle.blossoms.proofs.shrinking.lowest_free.Goals as goal

pub returns : goal.returns
returns c =
    let t = c.args.view.tables.now in
    c.first_none.ensures ∙ lowest_found t (places_long t c.args.view.kept)
