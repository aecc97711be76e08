use Rattle.std.proofs.Common.{◌+◌, ◌≤◌, ◌&&◌, sym, ap, ◌∙◌, subst, arith, rules}
use Rattle.std.proofs.lemmas.Bool.{lt-ltb}
use Rattle.matching.specs.Mates.{paired}
use Rattle.tables.specs.States.{offered}
use Rattle.tables.proofs.Keeping.{short, row_offered}
use Rattle.board.specs.Savings.{saving_in}
use Rattle.board.proofs.Savings.{Sofar, sofar_none, sofar_skip, sofar_more, sofar_all, saving_low}
use Rattle.board.proofs.questions.saved.Goals as goal
use Rattle.board.proofs.questions.saved.Goals.{then-is_paired, else-is_paired}

pub loop-e-init : goal.loop-e-init
loop-e-init c = sofar_none c.args.saving c.args.view.tables.now

pub overflow_add-sum : goal.overflow_add-sum
overflow_add-sum c =
    let b = c.loop-e.invariant.bound in
    let s = short c.args.view.tables.now c.args.view.kept in
    let l : c.of.result ≤ 100000 = omega (arith, c.of.ensures, ap (saving_in c.args.saving) (c.row.ensures.value ∙ row_offered c.args.view.tables.now c.loop-e.e c.loop-e-test.true), saving_low c.args.saving c.args.view.tables.now c.args.view.kept c.loop-e.e c.loop-e-test.true) in
    let m : c.loop-e.sum ≤ 400000000 = omega arith in
    search rules

pub loop-e-preserved : goal.loop-e-preserved
loop-e-preserved c =
    let s = c.args.saving in
    let t = c.args.view.tables.now in
    let e = c.loop-e.e in
    let there = c.loop-e-test.true in
    let tested = c.is_paired.ensures ∙ ap (λ b. b && paired (offered t) t.mates e) (lt-ltb e t.offers there) in
    elim c.if-is_paired.branch [
      | then-is_paired w ↦ subst (Sofar s t (e + 1)) (sym w.sum-is) (sofar_more s t c.args.view.kept e c.loop-e.sum w.from-sum.result c.loop-e-test.true c.loop-e.invariant (sym tested ∙ w.if-is_paired.true) (w.from-sum.ensures ∙ w.of.ensures ∙ ap (saving_in s) (w.row.ensures.value ∙ row_offered t e there)))
      | else-is_paired w ↦ subst (Sofar s t (e + 1)) (sym w.sum-is) (sofar_skip s t e c.loop-e.sum c.loop-e.invariant (sym tested ∙ w.if-is_paired.false))
    ]

pub returns : goal.returns
returns c = sofar_all c.args.saving c.args.view.tables.now c.args.view.kept c.loop-e.e c.loop-e.sum (omega arith) c.loop-e.invariant
