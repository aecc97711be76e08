use Rattle.std.proofs.lemmas.List.{map-id}
use Rattle.matching.specs.Sums.{below}
use Rattle.std.proofs.Common.{ℕ, ◌∙◌, rules}
use Rattle.matching.proofs.Made.{made_by}
use Rattle.board.proofs.making.own_roots.Goals as goal

pub returns : goal.returns
returns c = made_by (λ (v : ℕ). v) 0 c.from_fn.ensures.items (λ v y q called. (search rules, search rules)) ∙ map-id (below 200)
