use Rattle.steps.proofs.Adjust.{adjust_keeps}
use Rattle.steps.proofs.moved_price.Goals as goal

pub returns : goal.returns
returns c = record { value = c.member_price.ensures; keeps = adjust_keeps }
