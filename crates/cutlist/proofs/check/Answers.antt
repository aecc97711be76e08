use Rattle.std.proofs.Common.{◌≡◌, Ok, Result, sym, rules}
use Rattle.faults.specs.declared.layers.SourceFault.{SourceFault}
use Rattle.faults.specs.Checks.{judged}
use Rattle.cutlist.specs.Cutlists.{length_fault}
use Rattle.cutlist.proofs.Passed.{passed_rising}
use Rattle.cutlist.proofs.check.Goals as goal

pub returns-clause-rising : goal.returns-clause-rising
returns-clause-rising c =
    let good : ◌≡◌ {A = Result (Unit {0}) SourceFault} (Ok tt) (judged (length_fault c.args.lengths.now c.args.stock.now c.args.cut)) = search rules in
    λ _. passed_rising c.args.lengths.now c.args.stock.now c.args.cut (sym good)
