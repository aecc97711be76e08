use Rattle.std.proofs.Common.{◌≡◌, ◌≤◌, None, Err, sym, refl, ap, ◌∙◌, subst, rules}
use Rattle.std.proofs.lemmas.Result.{err_from_is_err_and}
use Rattle.faults.specs.Checks.{judged, unless_fault}
use Rattle.board.specs.Begins.{begin_fault, begun_with}
use Rattle.tables.specs.Kept.{Keeps}
use Rattle.faults.proofs.Judged.{told_err}
use Rattle.board.proofs.Keeping.{begun_keeps}
use Rattle.board.proofs.board.Board.begin.Goals as goal

pub invariant_of-self : goal.invariant_of-self
invariant_of-self g c =
    let b = c.args.self.now in
    let fresh : b.tables.begun ≡ None = search rules in
    let some : 1 ≤ c.args.k = search rules in
    let most : c.args.k ≤ 32 = search rules in
    let tall : b.tables.top ≤ 1000 = search rules in
    record { kept = subst Keeps (sym c.begin.ensures) (begun_keeps b.tables c.args.k b.kept fresh some most tall) }

pub returns-in_err-check_begin : goal.returns-in_err-check_begin
returns-in_err-check_begin g c =
    let t = c.args.self.now.tables in
    let k = c.args.k in
    let p = err_from_is_err_and c.from_residual.result c.from_residual.ensures.1 in
    let f = c.in_err-check_begin.field-0.0 in
    let fault = told_err (begin_fault t k) f c.in_err-check_begin.ensures in
    record {
      value = p.1 ∙ ap Err p.2 ∙ sym (ap judged fault);
      after = sym (ap (λ o. unless_fault o (begun_with t k) t) fault);
      source = refl;
      shows = λ n rs top h. h;
    }
