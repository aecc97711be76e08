use Rattle.std.proofs.Common.{◌≡◌, ap, ◌∙◌, arith}
use Rattle.board.specs.Questions.{gap}
use Rattle.board.proofs.Slacks.{slack_bounds}
use Rattle.board.proofs.board.Board.slack.Goals as goal

pub returns : goal.returns
returns g c =
    let s = g.S.Source in
    let x = c.args.self.now.source in
    let t = c.args.self.now.tables in
    let same : c.carry.result ≡ s.carried x (gap t) = c.carry.ensures.value ∙ ap (s.carried x) (c.gap.ensures ∙ ap gap c.view.ensures) in
    record {
      value = same;
      truth = λ shows b p. omega (arith, same, slack_bounds t c.args.self.now.kept (s.size x) (s.rows x) (s.highest x) (s.carried x) (s.laws x) shows b p);
    }
