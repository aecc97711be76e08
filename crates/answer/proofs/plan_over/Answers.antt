use Rattle.std.proofs.Common.{Ok, sym, ap, ◌∙◌, subst}
use Rattle.sources.specs.ListRows.{list_rows, list_carry}
use Rattle.coarse.specs.Coarse.{part_of, coarse_rows, coarse_carry}
use Rattle.board.specs.Questions.{gap}
use Rattle.board.specs.Released.{Released}
use Rattle.board.specs.Truth.{Shows, Bounds}
use Rattle.answer.specs.Answers.{Begins}
use Rattle.answer.proofs.Piles.{Made, board_is, accepted, begun, planned}
use Rattle.answer.proofs.plan_over.Goals as goal

pub returns : goal.returns
returns c =
    let s = c.args.sheet in
    let os = c.args.offers.now in
    let pile = c.new.result in
    let under = c.new.ensures.under in
    let list = c.new-list.ensures in
    let made : Made s os c.requires pile.below.n pile.below.offers.now pile.below.top pile.ratio.x pile.ratio.whole = record {
      members = ap (λ l. l.n) under ∙ list.members;
      list = ap (λ l. l.offers.now) under ∙ list.list;
      highest = ap (λ l. l.top) under ∙ list.top;
      part = c.new.ensures.taken;
      whole = c.new.ensures.full;
    } in
    let t = c.new-board.result.tables in
    let t' = c.begin.new.self.tables in
    let p = c.release.result in
    let said = c.in_ok-begin.ensures in
    let kept = said.source ∙ c.new-board.ensures.source in
    let same = c.new-board.ensures.tables ∙ board_is s os c.requires pile.below.n pile.below.offers.now pile.below.top pile.ratio.x pile.ratio.whole made in
    let now = begun s os c.requires t t' same c.in_ok-begin.field-0 said.value said.after in
    let none = accepted s os c.requires t t' same c.in_ok-begin.field-0 said.value in
    let plan = planned s os c.requires t t' same pile.below.n pile.below.offers.now pile.below.top pile.ratio.x pile.ratio.whole made p now c.new-board.ensures.shows
    (subst (λ z. Released t' (coarse_carry z.ratio.x z.ratio.whole z.below.n z.below.top (list_carry z.below.n z.below.top) (gap t')) p) kept c.release.ensures.value)
    (subst (λ z. Shows z.below.n (coarse_rows z.ratio.x z.ratio.whole (list_rows z.below.offers.now)) (part_of z.ratio.x z.ratio.whole z.below.top) t' → Bounds (coarse_rows z.ratio.x z.ratio.whole (list_rows z.below.offers.now)) p.ground p.slack) kept c.release.ensures.truth)
    in
    subst (λ o. Begins o s os (Ok p)) (sym none) plan
