use Rattle.std.proofs.Common.{arith}
use Rattle.matching.proofs.Finite.{some_is}
use Rattle.walks.proofs.Going.{across_low}
use Rattle.walks.proofs.next_root.Goals as goal

pub returns-clause-low : goal.returns-clause-low
returns-clause-low c = λ q e. omega (arith, across_low c.args.view.tables.now c.args.view.kept c.args.offer (omega (arith, c.if-offer-view.false)) c.args.root, c.across.ensures, some_is e)
