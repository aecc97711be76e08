use Rattle.std.proofs.Common.{Err, sym, refl, ap, ◌∙◌, subst}
use Rattle.std.proofs.lemmas.Result.{err_from_is_err_and}
use Rattle.std.proofs.lemmas.Bool.{true≢false}
use Rattle.faults.specs.Checks.{judged, unless_fault}
use Rattle.steps.specs.Adjust.{adjusted}
use Rattle.tables.specs.States.{state}
use Rattle.board.specs.Moves.{all_moved}
use Rattle.board.specs.Truth.{Shows}
use Rattle.board.proofs.Moving.{state_moved}
use Rattle.board.proofs.Stepping.{room, above, low, full, idle, cheap, adjust_held}
use Rattle.board.proofs.board.Board.adjust.Goals as goal

pub returns-in_err-common : goal.returns-in_err-common
returns-in_err-common g c =
    let t = c.args.self.now.tables in
    let ls = c.args.labels.now in
    let p = err_from_is_err_and c.from_residual.result c.from_residual.ensures.1 in
    let fault = c.in_err-common.ensures in
    record {
      value = p.1 ∙ ap Err p.2 ∙ sym (ap judged fault);
      after = sym (ap (λ o. unless_fault o (adjusted (state t) ls) (state t)) fault);
      refused = λ _. refl;
      source = refl;
      shows = λ n rs top h. h;
    }

pub adjust-requires : goal.adjust-requires
adjust-requires g c =
    let b = c.args.self.now in
    let ls = c.args.labels.now in
    let common = c.in_ok-common.common in
    let ready = c.in_ok-common.ensures in
    record {
      few = room b.tables b.kept ls common ready;
      above = above b.tables b.kept ls common ready;
      low = low b.tables b.kept ls common ready;
      full = full b.tables b.kept ls common ready;
      cheap = cheap b.tables b.kept ls common ready;
    }

pub invariant_of-self : goal.invariant_of-self
invariant_of-self g c =
    let b = c.args.self.now in
    record { kept = adjust_held b.tables b.kept c.args.labels.now c.in_ok-common.common c.in_ok-common.ensures c.adjust.new.tables c.adjust.ensures }

pub returns : goal.returns
returns g c =
    let b = c.args.self.now in
    let t = b.tables in
    let ls = c.args.labels.now in
    let common = c.in_ok-common.common in
    let ready = c.in_ok-common.ensures in
    record {
      value = sym (ap judged ready.none);
      after = ap state c.adjust.ensures ∙ state_moved t ls common (full t b.kept ls common ready) ready.roots (idle t b.kept ls common ready) ∙ sym (ap (λ o. unless_fault o (adjusted (state t) ls) (state t)) ready.none);
      refused = λ h. absurd (true≢false (sym h));
      source = refl;
      shows = λ n rs top h.
          let still : Shows n rs top (all_moved t ls common) = record { members = h.members; offers = h.offers; highest = h.highest } in
          subst (Shows n rs top) (sym c.adjust.ensures) still;
    }
