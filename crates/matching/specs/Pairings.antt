-- Pairings: sets of offers in which no member occurs twice, and what they save. Assumes nothing.
use Rattle.std.specs.Prelude.{ℕ, ◌<◌, ◌≢◌, List, [], ◌∷◌, length}
use Rattle.std.specs.List.{AllByRecursion}
use Rattle.matching.specs.declared.row.Row.{Row}
use Rattle.matching.specs.Rows.{row}
use Rattle.matching.specs.Sums.{total}

-- the members of a list of offers, two for each
abbrev pub ends : List Row → List ℕ → List ℕ
ends rs [] = []
ends rs (e ∷ es) = (row rs e).first ∷ (row rs e).second ∷ ends rs es

-- no number stands in the list twice
abbrev pub Different : List ℕ → Type 0
Different [] = Unit {0}
Different (x ∷ xs) = AllByRecursion (λ y. x ≢ y) xs × Different xs

-- offers of the list rs, by number, whose members are all different
pub record Pairing (rs : List Row) (es : List ℕ) : Type 0 where
  pub offers : AllByRecursion (λ e. e < length rs) es
  pub apart : Different (ends rs es)

abbrev pub shown_of : List Row → List ℕ → ℕ
shown_of rs es = total (λ e. (row rs e).shown) es

abbrev pub ground_of : List Row → List ℕ → ℕ
ground_of rs es = total (λ e. (row rs e).ground) es
