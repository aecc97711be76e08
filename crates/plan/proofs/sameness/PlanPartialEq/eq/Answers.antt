use Rattle.std.proofs.Common.{◌≡◌, Decides, sym, subst, rules}
use Rattle.plan.specs.Plans.{Same, is_same}
use Rattle.plan.proofs.Partners.{same_decides}
use Rattle.plan.proofs.sameness.PlanPartialEq.eq.Goals as goal

pub returns-then-self-other : goal.returns-then-self-other
returns-then-self-other c =
    let p = c.args.self.now in
    let q = c.args.other.now in
    let value : c.eq.result ≡ is_same p q = search rules in
    record { value = value; decided = subst (λ r. Decides r (Same p q)) (sym value) (same_decides p q); tested = same_decides }

pub returns-else-self-other-clause-tested : goal.returns-else-self-other-clause-tested
returns-else-self-other-clause-tested c = same_decides
