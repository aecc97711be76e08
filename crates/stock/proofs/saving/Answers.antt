use Rattle.std.proofs.Common.{sym, ◌∙◌, arith, rules}
use Rattle.stock.specs.Stock.{saving_of}
use Rattle.stock.proofs.StockLaws.{grows}
use Rattle.stock.proofs.saving.Goals as goal

pub overflow_sub-r : goal.overflow_sub-r
overflow_sub-r c =
    let arm = c.in-Some-Some-Some in
    let one = sym c.stock_for-q.ensures.value ∙ arm.is-1 in
    let whole = sym c.stock_for-r.ensures.value ∙ arm.is-2 in
    grows c.args.stock.now _ _ arm.q arm.r one whole (omega arith)

pub returns-in-Some-Some-Some : goal.returns-in-Some-Some-Some
unfolding saving_of
returns-in-Some-Some-Some c =
    let arm = c.in-Some-Some-Some in
    let one = sym c.stock_for-q.ensures.value ∙ arm.is-1 in
    let whole = sym c.stock_for-r.ensures.value ∙ arm.is-2 in
    let h = grows c.args.stock.now _ _ arm.q arm.r one whole (omega arith) in
    search rules
