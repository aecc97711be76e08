-- What the board's pairing saves, shown or in ground millimetres. Assumes nothing.
use Rattle.std.specs.Prelude.{ℕ}
use Rattle.matching.specs.declared.row.Row.{Row}
use Rattle.matching.specs.Rows.{row}
use Rattle.matching.specs.Sums.{total}
use Rattle.board.specs.declared.saving.Saving.{Saving}
use Rattle.board.specs.declared.saving.Saving.TheVariants.{Shown, Ground}
use Rattle.tables.specs.declared.tables.Tables.{Tables}
use Rattle.tables.specs.States.{offered}
use Rattle.board.specs.Questions.{pairing}

abbrev pub saving_in : Saving → Row → ℕ
saving_in Shown r = r.shown
saving_in Ground r = r.ground

-- the sum over the paired offers
abbrev pub saved : Saving → Tables → ℕ
saved s t = total (λ e. saving_in s (row (offered t) e)) (pairing t)
