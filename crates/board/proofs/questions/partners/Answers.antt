use Rattle.std.proofs.Common.{ℕ, cond, ltb, get_or, None, ap, ◌∙◌, arith, rules}
use Rattle.std.proofs.lemmas.List.{get_or-map}
use Rattle.matching.specs.Sums.{below}
use Rattle.matching.proofs.Sums.{length_below, getD_below}
use Rattle.matching.proofs.Made.{made_by}
use Rattle.board.specs.Questions.{partner_of}
use Rattle.board.proofs.questions.partners.Goals as goal

pub returns : goal.returns
returns c = λ v l.
    let t = c.args.view.tables.now in
    let f = λ (u : ℕ). cond (ltb u t.members) (partner_of t u) None in
    ap (λ ps. get_or ps v None) (made_by f None c.from_fn.ensures.items (λ u y q called. (search rules, search rules)))
    ∙ get_or-map f (below 200) v 0 None (omega (arith, l, length_below 200))
    ∙ ap f (getD_below 200 v 0 l)
