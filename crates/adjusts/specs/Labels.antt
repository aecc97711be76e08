-- Tables of the labels by roots. Assumes nothing.
use Rattle.std.specs.Prelude.{◌≡◌, ℕ, ◌<◌, Bool, false, not, ◌&&◌, ◌||◌, List, ◌==◌, nat_lt, slice_index, slice_index_or}
use Rattle.matching.specs.State.{State, root_at}
use Rattle.matching.specs.Mates.{mate, is_none}
use Rattle.steps.specs.Adjust.{label_at, root_label}
use Rattle.steps.specs.Searches.{some_below}

-- the label of each node as a root
abbrev pub RootLabels : State → List ℕ → List ℕ → Type 0
RootLabels s ls rl = (p : ℕ) → p < 300 → slice_index rl p ≡ root_label s ls p

-- whether the member w lies in the root p and its label is unlike the root's, over 2, or not out though w is loose
abbrev pub wrong : State → List ℕ → List ℕ → ℕ → ℕ → Bool
wrong s ls rl p w =
    (root_at s w == p)
    && (not (label_at ls w == slice_index rl p)
    || (nat_lt 2 (label_at ls w)
    || (is_none (mate s.mates w) && not (label_at ls w == 1))))

-- for each node whether it is a root with a wrong label
abbrev pub Mislabelled : State → List ℕ → List ℕ → List Bool → Type 0
Mislabelled s ls rl bad = (p : ℕ) → p < 300 → slice_index_or bad p false ≡ some_below (wrong s ls rl p) s.members
