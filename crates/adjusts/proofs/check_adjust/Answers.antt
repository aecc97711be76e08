use Rattle.std.proofs.Common.{None, Err, sym, ap, ◌∙◌, subst, arith}
use Rattle.std.proofs.lemmas.Result.{err_from_is_err_and}
use Rattle.steps.specs.Adjust.{label_fault, zero_fault, bound_fault}
use Rattle.tables.specs.States.{state}
use Rattle.adjusts.specs.Adjusts.{Judges}
use Rattle.faults.proofs.Judged.{or_fault_ok, told_err, told_ok}
use Rattle.adjusts.proofs.Accepting.{labels_counted, mislabelled, at_zero, unpriced, bounded}
use Rattle.adjusts.proofs.check_adjust.Goals as goal

pub returns-in_err-check_labels : goal.returns-in_err-check_labels
returns-in_err-check_labels c =
    let begun = or_fault_ok c.args.view.tables.now.begun _ c.in_ok-k.k c.in_ok-k.ensures.value in
    let s = state c.args.view.tables.now in
    let ls = c.args.labels.now in
    let p = err_from_is_err_and c.from_residual-in_err-check_labels.result c.from_residual-in_err-check_labels.ensures.1 in
    let f = c.in_err-check_labels.field-0.0 in
    subst (Judges s ls) (sym (p.1 ∙ ap Err p.2)) (mislabelled s ls c.in_ok-k.k begun f (told_err (label_fault s ls) f c.in_err-check_labels.ensures))

pub returns-then-view-eq0 : goal.returns-then-view-eq0
returns-then-view-eq0 c =
    let begun = or_fault_ok c.args.view.tables.now.begun _ c.in_ok-k.k c.in_ok-k.ensures.value in
    let s = state c.args.view.tables.now in
    let ls = c.args.labels.now in
    at_zero s ls c.in_ok-k.k begun (told_ok (label_fault s ls) c.in_ok-check_labels.field-0 c.in_ok-check_labels.ensures) c.if-view-eq0.true

pub returns-in_err-check_zero : goal.returns-in_err-check_zero
returns-in_err-check_zero c =
    let begun = or_fault_ok c.args.view.tables.now.begun _ c.in_ok-k.k c.in_ok-k.ensures.value in
    let s = state c.args.view.tables.now in
    let ls = c.args.labels.now in
    let p = err_from_is_err_and c.from_residual-in_err-check_zero.result c.from_residual-in_err-check_zero.ensures.1 in
    let f = c.in_err-check_zero.field-0.0 in
    let labelled = told_ok (label_fault s ls) c.in_ok-check_labels.field-0 c.in_ok-check_labels.ensures in
    subst (Judges s ls) (sym (p.1 ∙ ap Err p.2))
    (unpriced s ls c.in_ok-k.k begun labelled c.if-view-eq0.false f (told_err (zero_fault s ls) f (c.in_err-check_zero.ensures ls c.root_labels-common.ensures)))

pub invariant_of-labelling : goal.invariant_of-labelling
invariant_of-labelling c =
    let s = state c.args.view.tables.now in
    let ls = c.args.labels.now in
    record { all = labels_counted s ls (told_ok (label_fault s ls) c.in_ok-check_labels.field-0 c.in_ok-check_labels.ensures) }

pub check_bounds-requires : goal.check_bounds-requires
check_bounds-requires c =
    let begun = or_fault_ok c.args.view.tables.now.begun _ c.in_ok-k.k c.in_ok-k.ensures.value in
    let s = state c.args.view.tables.now in
    let ls = c.args.labels.now in
    let labelled = told_ok (label_fault s ls) c.in_ok-check_labels.field-0 c.in_ok-check_labels.ensures in
    record {
      begun = begun;
      above = let some = c.if-view-eq0.false in omega arith;
      labelled = labelled;
      priced = told_ok (zero_fault s ls) c.in_ok-check_zero.field-0 (c.in_ok-check_zero.ensures ls c.root_labels-common.ensures);
    }

pub returns-in_err-check_bounds : goal.returns-in_err-check_bounds
returns-in_err-check_bounds c =
    let begun = or_fault_ok c.args.view.tables.now.begun _ c.in_ok-k.k c.in_ok-k.ensures.value in
    let s = state c.args.view.tables.now in
    let ls = c.args.labels.now in
    let p = err_from_is_err_and c.from_residual-in_err-check_bounds.result c.from_residual-in_err-check_bounds.ensures.1 in
    let f = c.in_err-check_bounds.field-0.0 in
    let labelled = told_ok (label_fault s ls) c.in_ok-check_labels.field-0 c.in_ok-check_labels.ensures in
    let priced = told_ok (zero_fault s ls) c.in_ok-check_zero.field-0 (c.in_ok-check_zero.ensures ls c.root_labels-common.ensures) in
    subst (Judges s ls) (sym (p.1 ∙ ap Err p.2))
    (bounded s ls c.in_ok-k.k begun labelled c.if-view-eq0.false _ priced (told_err (bound_fault s ls) f c.in_err-check_bounds.ensures))

pub returns : goal.returns
returns c =
    let begun = or_fault_ok c.args.view.tables.now.begun _ c.in_ok-k.k c.in_ok-k.ensures.value in
    let s = state c.args.view.tables.now in
    let ls = c.args.labels.now in
    let labelled = told_ok (label_fault s ls) c.in_ok-check_labels.field-0 c.in_ok-check_labels.ensures in
    let priced = told_ok (zero_fault s ls) c.in_ok-check_zero.field-0 (c.in_ok-check_zero.ensures ls c.root_labels-common.ensures) in
    record {
      none = bounded s ls c.in_ok-k.k begun labelled c.if-view-eq0.false None priced (told_ok (bound_fault s ls) c.in_ok-check_bounds.field-0 c.in_ok-check_bounds.ensures);
      roots = c.root_labels-common.ensures;
    }
