use Rattle.std.proofs.Common.{Err, sym, refl, ap, ◌∙◌, subst}
use Rattle.std.proofs.lemmas.Result.{err_from_is_err_and}
use Rattle.std.proofs.lemmas.Bool.{true≢false}
use Rattle.faults.specs.Checks.{judged}
use Rattle.paths.specs.Augment.{augment_fault, Augmented}
use Rattle.tables.specs.declared.tables.Tables.{Tables}
use Rattle.tables.specs.States.{state}
use Rattle.tables.specs.Kept.{Keeps}
use Rattle.board.specs.Steps.{Leaves, mated_anew}
use Rattle.board.specs.Truth.{Shows}
use Rattle.board.proofs.Turning.{augmented_is, augment_held}
use Rattle.board.proofs.board.Board.augment.Goals as goal

pub returns-in_err-mates : goal.returns-in_err-mates
returns-in_err-mates g c =
    let t = c.args.self.now.tables in
    let r = c.args.root in
    let es = c.args.offers.now in
    let p = err_from_is_err_and c.from_residual.result c.from_residual.ensures.1 in
    let fault = c.in_err-mates.ensures in
    record {
      value = p.1 ∙ ap Err p.2 ∙ sym (ap judged fault);
      after = subst (λ o. Leaves o (Augmented (state t) r es) (state t) (state t)) (sym fault) refl;
      refused = λ _. refl;
      source = refl;
      shows = λ n rs top h. h;
    }

pub invariant_of-self : goal.invariant_of-self
invariant_of-self g c =
    let b = c.args.self.now in
    let ready = c.in_ok-mates.ensures in
    record { kept = subst Keeps (sym c.set_mates.ensures) (augment_held b.tables c.args.root c.args.offers.now c.in_ok-mates.mates b.kept ready.none ready.mates) }

pub returns : goal.returns
returns g c =
    let t = c.args.self.now.tables in
    let r = c.args.root in
    let es = c.args.offers.now in
    let m = c.in_ok-mates.mates in
    let ready = c.in_ok-mates.ensures in
    let left : Leaves (augment_fault (state t) r es) (Augmented (state t) r es) (state t) (state (mated_anew t m)) = subst (λ o. Leaves o (Augmented (state t) r es) (state t) (state (mated_anew t m))) (sym ready.none) (augmented_is t r es m ready.mates) in
    record {
      value = sym (ap judged ready.none);
      after = subst (λ (u : Tables). Leaves (augment_fault (state t) r es) (Augmented (state t) r es) (state t) (state u)) (sym c.set_mates.ensures) left;
      refused = λ h. absurd (true≢false (sym h));
      source = refl;
      shows = λ n rs top h.
          let still : Shows n rs top (mated_anew t m) = record { members = h.members; offers = h.offers; highest = h.highest } in
          subst (Shows n rs top) (sym c.set_mates.ensures) still;
    }
