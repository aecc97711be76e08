use Rattle.std.proofs.Common.{◌≡◌, ◌∙◌, rules, tests}
use Rattle.std.proofs.lemmas.Iterator.{YieldsList-from_slice}
use Rattle.std.proofs.lemmas.Iterator.Search.{position_from_yields_List}
use Rattle.cutlist.specs.Cutlists.{bad_length}
use Rattle.cutlist.proofs.First.{unfit, first_unfit}
use Rattle.cutlist.proofs.check_lengths.Goals as goal

pub returns-in-Some : goal.returns-in-Some
returns-in-Some c =
    let first : c.position.result ≡ bad_length c.args.top 0 c.args.lengths.now =
    position_from_yields_List (unfit c.args.top) _ _ c.position.result c.position.ensures.ran (YieldsList-from_slice c.args.lengths.now cc) (λ x b q k. search (rules, tests))
    ∙ first_unfit c.args.top c.args.lengths.now in
    search rules

pub returns-in-None : goal.returns-in-None
returns-in-None c =
    let first : c.position.result ≡ bad_length c.args.top 0 c.args.lengths.now =
    position_from_yields_List (unfit c.args.top) _ _ c.position.result c.position.ensures.ran (YieldsList-from_slice c.args.lengths.now cc) (λ x b q k. search (rules, tests))
    ∙ first_unfit c.args.top c.args.lengths.now in
    search rules
