use Rattle.std.proofs.Common.{sym, arith, below_more}
use Rattle.adjusts.proofs.Bounding.{zero_free, zero_found}
use Rattle.adjusts.proofs.bounds.check_zero.Goals as goal

pub returns-then-falls_short : goal.returns-then-falls_short
returns-then-falls_short c ls labels = zero_found c.args.tables.now c.args.common.now ls labels c.loop-i.i c.loop-i-test.true (sym c.if-falls_short.ensures) c.loop-i.invariant

pub loop-i-preserved : goal.loop-i-preserved
loop-i-preserved c = below_more _ _ c.loop-i.invariant (sym c.if-falls_short.ensures)

pub returns : goal.returns
returns c ls labels = zero_free c.args.tables.now c.args.common.now ls labels (λ u l. c.loop-i.invariant u (omega arith))
