use Rattle.std.proofs.Common.{ℕ, false, cond, get_or, rules}
use Rattle.matching.specs.State.{root_at}
use Rattle.matching.proofs.Made.{made_by}
use Rattle.tables.specs.States.{state}
use Rattle.blossoms.proofs.shrinking.roots_under.Goals as goal

pub returns : goal.returns
returns c = made_by (λ (v : ℕ). cond (get_or c.args.holds.now v false) c.args.root (root_at (state c.args.view.tables.now) v)) 0 c.from_fn.ensures.items (λ v y q called. (search rules, search rules))
