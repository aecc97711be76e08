use Rattle.std.proofs.Common.{◌∙◌}
use Rattle.augments.proofs.Loosing.{loose_told}
use Rattle.augments.proofs.checking.is_loose.Goals as goal

pub returns : goal.returns
returns c = c.any_free.ensures ∙ loose_told c.args.view.tables.now c.args.view.kept c.args.root
