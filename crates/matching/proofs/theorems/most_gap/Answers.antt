use Rattle.std.proofs.Common.{◌≡◌, ℕ, ◌+◌, ◌*◌, ◌/◌, ◌<◌, Some, None, Option, unwrap_or, sym, ap, ◌∙◌, arith}
use native.Mathlib.Nat.{div-zero}
use Rattle.std.specs.Option.{SomeIff}
use Rattle.matching.specs.Slack.{reach}
use Rattle.matching.proofs.Gap.{gap, true_slack}
use Rattle.matching.proofs.theorems.most_gap.Goals as goal

-- a quotient by 0 is 0
quotient : (o : Option ℕ) (a b : ℕ) → SomeIff o (0 < b) (a / b) → unwrap_or o 0 ≡ a / b
quotient None a b h = let z : b ≡ 0 = omega arith in sym (ap (λ x. a / x) z ∙ div-zero a)
quotient (Some x) a b h = h.1

pub returns-in-None : goal.returns-in-None
returns-in-None c =
    let a = c.args in
    let same = ap (λ o. reach o a.members a.top a.floor a.free) c.in-None.is in
    record { value = omega (arith, c.most_shown-most.ensures.value, same); gap = gap; slack = true_slack }

pub returns-in-Some : goal.returns-in-Some
returns-in-Some c =
    let a = c.args in
    let same = ap (λ o. reach o a.members a.top a.floor a.free) c.in-Some.is in
    let ticks = ap (λ x. (2 * x + a.floor * a.free) / (2 * c.in-Some.k)) c.most_pairs.ensures.value in
    let divided = quotient c.checked_div.result _ _ c.checked_div.ensures in
    record {
      value = omega (arith, c.most_shown-most.ensures.value, same, ticks, divided, c.unwrap_or.ensures, c.min.ensures);
      gap = gap;
      slack = true_slack;
    }
