-- When two plans are the same. Assumes nothing.
use Rattle.std.specs.Prelude.{◌≡◌, ℕ, Bool, List, take, Decides, Option, nat_eq}
use Rattle.std.specs.Ordering.{eq_of_both, on}
use Rattle.std.specs.Option.{option_eq}
use Rattle.std.specs.Cmp.Lexicographic.{pointwise}
use Rattle.plan.specs.declared.plan.Plan.{Plan}

-- the partners of the members, from member 0 on
abbrev pub partners_of : Plan → List (Option ℕ)
partners_of p = take p.members p.partners

-- so many members, and each has the same partner
abbrev pub Same : Plan → Plan → Type 0
Same p q = (p.members ≡ q.members) × (partners_of p ≡ partners_of q)

-- whether two plans are the same, as a test
abbrev pub is_same : Plan → Plan → Bool
is_same = eq_of_both (on (λ (p : Plan). p.members) nat_eq) (on partners_of (pointwise (option_eq nat_eq)))

-- the test answers true exactly where two plans are the same
abbrev pub SameIsTested : Type 0
SameIsTested = (p q : Plan) → Decides (is_same p q) (Same p q)
