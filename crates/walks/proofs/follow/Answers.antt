use Rattle.std.proofs.Common.{Bool, List, [], ◌∷◌, Err, sym, refl, ap, ◌∙◌, subst, arith}
use Rattle.std.proofs.lemmas.Result.{err_from_is_err_and}
use Rattle.faults.proofs.Judged.{or_fault_ok, or_fault_err}
use Rattle.tables.specs.States.{state}
use Rattle.walks.specs.Coming.{walked}
use Rattle.walks.proofs.Following.{Marks, marks_none, marks_more, marks_past, stuck, barred, onward, arrived}
use Rattle.walks.proofs.follow.Goals as goal
use Rattle.walks.proofs.follow.Goals.{then-root-lt300, else-root-lt300}

pub loop-i-init : goal.loop-i-init
loop-i-init c =
    let r = c.args.root in
    record {
      used = r ∷ [];
      marked = elim c.if-root-lt300.branch [
        | then-root-lt300 w ↦ subst (λ (m : List Bool). Marks m (r ∷ [])) (sym w.used-is) (marks_more _ [] r w.if-root-lt300.true marks_none)
        | else-root-lt300 w ↦ subst (λ (m : List Bool). Marks m (r ∷ [])) (sym w.used-is) (marks_past _ r w.if-root-lt300.false marks_none)
      ];
      rest = refl;
    }

pub returns-in_err-next : goal.returns-in_err-next
returns-in_err-next c =
    let p = err_from_is_err_and c.from_residual.result c.from_residual.ensures.1 in
    let missed = or_fault_err c.next_root.result _ c.in_err-next.field-0.0 c.in_err-next.ensures.value in
    p.1 ∙ ap Err (p.2 ∙ missed.1) ∙ ap walked (stuck (state c.args.view.tables.now) c.args.back c.args.root c.args.offers.now c.loop-i.i c.loop-i.at c.loop-i.turn c.loop-i.used c.loop-i.invariant c.loop-i-test.true (sym missed.0 ∙ c.next_root.ensures.value))

pub returns-then-not-may_come : goal.returns-then-not-may_come
returns-then-not-may_come c =
    let next = or_fault_ok c.next_root.result _ c.in_ok-next.next c.in_ok-next.ensures.value in
    ap walked (barred (state c.args.view.tables.now) c.args.back c.args.root c.args.offers.now c.loop-i.i c.loop-i.at c.loop-i.turn c.loop-i.used c.loop-i.invariant c.loop-i-test.true
    c.in_ok-next.next (c.next_root.ensures.low c.in_ok-next.next next) (sym next ∙ c.next_root.ensures.value) _ c.may_come.result refl c.may_come.ensures c.if-not-may_come.true)

pub loop-i-preserved : goal.loop-i-preserved
loop-i-preserved c =
    let next = or_fault_ok c.next_root.result _ c.in_ok-next.next c.in_ok-next.ensures.value in
    onward (state c.args.view.tables.now) c.args.back c.args.root c.args.offers.now c.loop-i.i c.loop-i.at c.loop-i.turn c.loop-i.used c.loop-i.invariant c.loop-i-test.true
    c.in_ok-next.next (c.next_root.ensures.low c.in_ok-next.next next) (sym next ∙ c.next_root.ensures.value) _ c.may_come.result refl c.may_come.ensures c.if-not-may_come.false

pub returns : goal.returns
returns c = ap walked (arrived (state c.args.view.tables.now) c.args.back c.args.root c.args.offers.now c.loop-i.i c.loop-i.at c.loop-i.turn c.loop-i.used c.loop-i.invariant (omega (arith, c.loop-i-test.false)))
