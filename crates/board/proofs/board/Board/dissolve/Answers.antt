use Rattle.std.proofs.Common.{◌-◌, None, Err, sym, refl, ap, ◌∙◌, subst}
use Rattle.std.proofs.lemmas.Result.{err_from_is_err_and}
use Rattle.std.proofs.lemmas.Bool.{true≢false}
use Rattle.faults.specs.Checks.{judged, unless_fault}
use Rattle.rings.specs.Dissolve.{dissolved}
use Rattle.tables.specs.States.{state}
use Rattle.tables.specs.Kept.{Keeps}
use Rattle.board.specs.Steps.{ringed_anew}
use Rattle.board.specs.Truth.{Shows}
use Rattle.board.proofs.Turning.{dissolved_is, dissolve_held, dissolve_low}
use Rattle.board.proofs.board.Board.dissolve.Goals as goal

pub returns-in_err-roots : goal.returns-in_err-roots
returns-in_err-roots g c =
    let t = c.args.self.now.tables in
    let p = err_from_is_err_and c.from_residual.result c.from_residual.ensures.1 in
    let fault = c.in_err-roots.ensures in
    record {
      value = p.1 ∙ ap Err p.2 ∙ sym (ap judged fault);
      after = sym (ap (λ o. unless_fault o (dissolved (state t) c.args.node) (state t)) fault);
      refused = λ _. refl;
      source = refl;
      shows = λ n rs top h. h;
    }

pub set_place-requires : goal.set_place-requires
set_place-requires g c =
    let b = c.args.self.now in
    let split = c.in_ok-roots.ensures in
    dissolve_low b.tables c.args.node c.in_ok-roots.roots split.roots split.none b.kept

pub invariant_of-self : goal.invariant_of-self
invariant_of-self g c =
    let b = c.args.self.now in
    let split = c.in_ok-roots.ensures in
    record { kept = subst Keeps (sym c.set_place.ensures) (dissolve_held b.tables c.args.node c.in_ok-roots.roots split.roots b.kept split.none) }

pub returns : goal.returns
returns g c =
    let t = c.args.self.now.tables in
    let p = c.args.node in
    let rs = c.in_ok-roots.roots in
    let split = c.in_ok-roots.ensures in
    record {
      value = sym (ap judged split.none);
      after = ap state c.set_place.ensures ∙ dissolved_is t p rs split.roots ∙ sym (ap (λ o. unless_fault o (dissolved (state t) p) (state t)) split.none);
      refused = λ h. absurd (true≢false (sym h));
      source = refl;
      shows = λ n rs' top h.
          let still : Shows n rs' top (ringed_anew t rs (p - 200) None) = record { members = h.members; offers = h.offers; highest = h.highest } in
          subst (Shows n rs' top) (sym c.set_place.ensures) still;
    }
