-- The pairing that a board holds: for each member the offer by which it is paired, if any. Assumes nothing.
use Rattle.std.specs.Prelude.{ℕ, Bool, true, false, cond, List, length, Some, None, filter, Option, ◌==◌, slice_index_or}
use Rattle.matching.specs.declared.row.Row.{Row}
use Rattle.matching.specs.Rows.{row}
use Rattle.matching.specs.Sums.{count, below}

-- the offer by which the member v is paired
abbrev pub mate : List (Option ℕ) → ℕ → Option ℕ
mate ms v = slice_index_or ms v None

abbrev pub is_some : Option ℕ → ℕ → Bool
is_some None e = false
is_some (Some d) e = d == e

abbrev pub is_none : Option ℕ → Bool
is_none None = true
is_none (Some d) = false

-- whether the offer e pairs its members
abbrev pub paired : List Row → List (Option ℕ) → ℕ → Bool
paired rs ms e = is_some (mate ms (row rs e).first) e

-- the paired offers, in rising order
unfoldable pub taken : List Row → List (Option ℕ) → List ℕ
taken rs ms = filter (paired rs ms) (below (length rs))

-- how many of the members below n are loose: paired by no offer
abbrev pub loose : ℕ → List (Option ℕ) → ℕ
loose n ms = count (λ v. is_none (mate ms v)) (below n)

-- the other member of an offer
abbrev pub other : Row → ℕ → ℕ
other r v = cond (r.first == v) r.second r.first

abbrev pub partner_by : List Row → Option ℕ → ℕ → Option ℕ
partner_by rs None v = None
partner_by rs (Some e) v = Some (other (row rs e) v)

-- the member that v is paired with
abbrev pub partner : List Row → List (Option ℕ) → ℕ → Option ℕ
partner rs ms v = partner_by rs (mate ms v) v
