use Rattle.std.proofs.Common.{ap, ◌∙◌, unwrap_or}
use Rattle.tables.specs.States.{parts_in, state}
use Rattle.blossoms.proofs.Parting.{holder_found}
use Rattle.blossoms.proofs.dissolving.holder.Goals as goal

pub returns : goal.returns
returns c =
    let v = c.args.member in
    c.unwrap_or.ensures ∙ ap (λ o. unwrap_or o v) c.first_holding.ensures ∙ holder_found (state c.args.view.tables.now) v (parts_in c.args.ring.now)
