use Rattle.std.proofs.Common.{◌≡◌, ◌+◌, ◌-◌, Some, Err, sym, refl, ap, ◌∙◌, subst, arith}
use Rattle.std.proofs.lemmas.Result.{err_from_is_err_and}
use Rattle.std.proofs.lemmas.Bool.{true≢false}
use Rattle.matching.specs.State.{blossom_at}
use Rattle.rings.specs.Shrink.{shrunk}
use Rattle.tables.specs.States.{state}
use Rattle.tables.specs.Kept.{Keeps}
use Rattle.board.specs.Steps.{ShrinkLeaves, ringed_anew}
use Rattle.board.specs.Truth.{Shows}
use Rattle.board.proofs.Turning.{shrunk_is, shrink_held}
use Rattle.board.proofs.board.Board.shrink.Goals as goal

pub returns-in_err-ring : goal.returns-in_err-ring
returns-in_err-ring g c =
    let t = c.args.self.now.tables in
    let r = c.args.root in
    let es = c.args.offers.now in
    let p = err_from_is_err_and c.from_residual.result c.from_residual.ensures.1 in
    record {
      answer = subst (λ a. ShrinkLeaves (state t) r es a (state t)) (sym (p.1 ∙ ap Err p.2)) (c.in_err-ring.ensures, refl);
      refused = λ _. refl;
      source = refl;
      shows = λ n rs top h. h;
    }

pub invariant_of-self : goal.invariant_of-self
invariant_of-self g c =
    let b = c.args.self.now in
    let x = c.in_ok-ring.ring in
    let made = c.in_ok-ring.ensures in
    record { kept = subst Keeps (sym c.set_place.ensures) (shrink_held b.tables c.args.root c.args.offers.now x.place (Some x.blossom) x.roots made.blossom made.roots b.kept made.none made.low made.free) }

pub returns : goal.returns
returns g c =
    let t = c.args.self.now.tables in
    let r = c.args.root in
    let es = c.args.offers.now in
    let x = c.in_ok-ring.ring in
    let made = c.in_ok-ring.ensures in
    let same : 200 + x.place - 200 ≡ x.place = omega arith in
    record {
      answer = record {
        none = made.none;
        least = omega arith;
        most = omega (arith, made.low);
        free = ap (λ i. (blossom_at (state t) i).used) same ∙ made.free;
        after = ap state c.set_place.ensures ∙ shrunk_is t r es x.place (Some x.blossom) x.roots made.blossom made.roots ∙ ap (shrunk (state t) r es) (sym same);
      };
      refused = λ h. absurd (true≢false (sym h));
      source = refl;
      shows = λ n rs top h.
          let still : Shows n rs top (ringed_anew t x.roots x.place (Some x.blossom)) = record { members = h.members; offers = h.offers; highest = h.highest } in
          subst (Shows n rs top) (sym c.set_place.ensures) still;
    }
