use Rattle.std.proofs.Common.{sym, ap, ◌∙◌}
use Rattle.augments.specs.Laying.{links_in}
use Rattle.augments.proofs.Places.{ring_there}
use Rattle.augments.proofs.laying.ring_of.Goals as goal

pub returns-clause-value : goal.returns-clause-value
returns-clause-value c = ap links_in c.ring.ensures.value ∙ sym (ring_there c.args.view.tables.now c.args.node)
