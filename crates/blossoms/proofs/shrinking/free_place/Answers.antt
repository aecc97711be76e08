use Rattle.std.proofs.Common.{◌%◌, eqb, leb, length, sym, ◌∙◌, subst, arith}
use Rattle.std.proofs.lemmas.Bool.{and_from, eq-eqb, le-leb}
use Rattle.tables.specs.States.{state}
use Rattle.blossoms.specs.Steps.{Places}
use Rattle.blossoms.proofs.Refusing.{places_by}
use Rattle.blossoms.proofs.shrinking.free_place.Goals as goal

pub returns : goal.returns
returns c =
    let s = state c.args.view.tables.now in
    let n = length c.args.offers.now in
    subst (Places s c.args.root c.args.offers.now) (sym c.ok_or.ensures.value)
    (places_by s c.args.root c.args.offers.now
    c.if-is_none.ensures
    (sym c.is_root.ensures ∙ c.if-not-is_root.false)
    (and_from (eqb (n % 2) 1) (leb 3 n) (eq-eqb (n % 2) 1 (omega arith)) (le-leb 3 n (omega arith)))
    c.in_ok-follow.field-0 c.in_ok-follow.ensures c.lowest_free.result c.lowest_free.ensures)
