-- No pairing saves more ground millimetres than the board's pairing and the slack. Assumes nothing.
use Rattle.std.proofs.Common.{ℕ, List, sym, refl, subst}
use mathlib.Core.Logic.{∥∥₁_elim}
use native.Mathlib.Bridge.{le_prop}
use Rattle.matching.specs.declared.row.Row.{Row}
use Rattle.matching.specs.Lawful.{Lawful, Carries}
use Rattle.matching.proofs.Gap.{true_slack}
use Rattle.tables.specs.declared.tables.Tables.{Tables}
use Rattle.board.specs.Fresh.{fresh}
use Rattle.tables.specs.States.{offered, state}
use Rattle.tables.specs.Kept.{Keeps}
use Rattle.board.specs.Questions.{ground_saving, gap}
use Rattle.board.specs.Truth.{Shows, Bounds}
use Rattle.board.proofs.Padding.{take_padded}

pub slack_bounds : (t : Tables) → Keeps t → (n : ℕ) (rs : List Row) (top : ℕ) (carry : ℕ → ℕ) → Lawful n rs top carry → Shows n rs top t → Bounds rs (ground_saving t) (carry (gap t))
slack_bounds t k n rs top carry law shows = subst (λ l. Bounds l (ground_saving t) (carry (gap t))) shows.offers own
  where
    own : Bounds (offered t) (ground_saving t) (carry (gap t))
    own b p = ∥∥₁_elim k le_prop (λ h. true_slack (state t) carry b h.kept (subst (λ l. Carries l carry) (sym shows.offers) law.carries) p)

pub fresh_shows : (n : ℕ) (rs : List Row) (top : ℕ) (carry : ℕ → ℕ) → Lawful n rs top carry → Shows n rs top (fresh n rs top)
fresh_shows n rs top carry law = record { members = refl; offers = take_padded rs law.short; highest = refl }
