use Rattle.std.proofs.Common.{◌≡◌, ◌-◌, ◌++◌, take, replicate}
use Rattle.matching.specs.Rows.{no_row}
use Rattle.board.proofs.making.all_rows.Given as goal

abbrev pub invariant-loop-e : goal.invariant-loop-e
invariant-loop-e g l = l.rows ≡ take l.e (g.S.Source.rows l.source) ++ replicate (4000 - l.e) no_row
