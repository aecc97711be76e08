use Rattle.std.proofs.Common.{sym, refl, subst}
use Rattle.tables.specs.Kept.{Keeps}
use Rattle.board.specs.Truth.{Shows}
use Rattle.board.proofs.Keeping.{fresh_keeps}
use Rattle.board.proofs.Slacks.{fresh_shows}
use Rattle.board.proofs.board.Board.new.Goals as goal

pub invariant_of-result : goal.invariant_of-result
invariant_of-result g c =
    let s = g.S.Source in
    let x = c.args.source in
    record { kept = subst Keeps (sym c.tables_of-tables.ensures) (fresh_keeps (s.size x) (s.rows x) (s.highest x) (s.carried x) (s.laws x)) }

pub returns : goal.returns
returns g c =
    let s = g.S.Source in
    let x = c.args.source in
    record {
      source = refl;
      tables = c.tables_of-tables.ensures;
      shows = subst (Shows (s.size x) (s.rows x) (s.highest x)) (sym c.tables_of-tables.ensures) (fresh_shows (s.size x) (s.rows x) (s.highest x) (s.carried x) (s.laws x));
    }
