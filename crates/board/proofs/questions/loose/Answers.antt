use Rattle.std.proofs.Common.{is_none, take, ◌∙◌, arith}
use Rattle.std.proofs.lemmas.List.{length-take}
use Rattle.std.proofs.lemmas.List.Sums.{count_by-le-length}
use Rattle.tables.proofs.Keeping.{few, mates_long}
use Rattle.board.proofs.Loose.{loose_counted}
use Rattle.board.proofs.questions.loose.Goals as goal

pub returns : goal.returns
returns c =
    let t = c.args.view.tables.now in
    let k = c.args.view.kept in
    record {
      value = c.count_none.ensures ∙ loose_counted t.mates t.members (omega (arith, few t k, mates_long t k));
      bound = omega (arith, c.count_none.ensures, count_by-le-length is_none (take t.members t.mates), length-take t.members t.mates);
    }
