use Rattle.std.proofs.Common.{◌∙◌, arith}
use Rattle.board.proofs.Padding.{padded_turn, padded_all}
use Rattle.board.proofs.making.all_rows.Goals as goal

pub loop-e-preserved : goal.loop-e-preserved
loop-e-preserved g c =
    let source = c.args.source.now in
    padded_turn (g.S.Source.rows source) (g.S.Source.laws source).short c.loop-e.rows c.loop-e.e c.row_of.result c.loop-e.invariant c.row_of.ensures (omega (arith, c.offers-e-end.ensures.value))

pub returns : goal.returns
returns g c =
    let source = c.args.source.now in
    c.loop-e.invariant ∙ padded_all (g.S.Source.rows source) (g.S.Source.laws source).short c.loop-e.e (omega (arith, c.offers-e-end.ensures.value))
