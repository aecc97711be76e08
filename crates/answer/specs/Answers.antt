-- What answers a sheet: the plan of a begun board over its pile, or a refusal. Assumes nothing.
use Rattle.std.specs.Prelude.{◌≡◌, ℕ, List, Some, None, Ok, Err, Option, Result}
use Rattle.faults.specs.declared.fault.Fault.{Fault}
use Rattle.faults.specs.declared.fault.Fault.TheVariants.{Board as OnBoard}
use Rattle.faults.specs.declared.layers.BoardFault.{BoardFault}
use Rattle.faults.specs.declared.layers.SheetFault.{SheetFault}
use Rattle.matching.specs.declared.row.Row.{Row}
use Rattle.sources.specs.declared.offer.Offer.{Offer}
use Rattle.sources.specs.ListRows.{list_rows, largest_saving, list_carry}
use Rattle.coarse.specs.Coarse.{part_of, coarse_rows, coarse_carry}
use Rattle.plan.specs.declared.plan.Plan.{Plan}
use Rattle.report.specs.Texts.{plan_text, refusal_text, written, write_result}
use Rattle.tables.specs.declared.tables.Tables.{Tables}
use Rattle.board.specs.Fresh.{fresh}
use Rattle.board.specs.Begins.{begin_fault, begun_with}
use Rattle.board.specs.Questions.{gap}
use Rattle.board.specs.Released.{Released}
use Rattle.board.specs.Truth.{Bounds}
use Rattle.sheet.specs.declared.reader.Sheet.{Sheet}
use Rattle.sheet.specs.Sheets.{Outcome}

-- the pile is the coarse layer over the list of the offers
abbrev pub pile_rows : Sheet → List Offer → List Row
pile_rows s os = coarse_rows s.x s.whole (list_rows os)

abbrev pub pile_top : Sheet → List Offer → ℕ
pile_top s os = part_of s.x s.whole (largest_saving os)

abbrev pub pile_carry : Sheet → List Offer → ℕ → ℕ
pile_carry s os = coarse_carry s.x s.whole s.members (largest_saving os) (list_carry s.members (largest_saving os))

-- a new board over the pile, and once it is begun with the sheet's k
abbrev pub new_board : Sheet → List Offer → Tables
new_board s os = fresh s.members (pile_rows s os) (pile_top s os)

abbrev pub begun_board : Sheet → List Offer → Tables
begun_board s os = begun_with (new_board s os) s.k

-- the plan of the begun board, whose slack is true of the listed offers, before any rounding
pub record Planned (s : Sheet) (os : List Offer) (p : Plan) : Type 0 where
  pub released : Released (begun_board s os) (pile_carry s os (gap (begun_board s os))) p
  pub truth : Bounds (list_rows os) p.ground p.slack

abbrev pub Begins : Option BoardFault → Sheet → List Offer → Result Plan Fault → Type 0
Begins (Some f) s os r = r ≡ Err (OnBoard f)
Begins None s os (Ok p) = Planned s os p
Begins None s os (Err f) = ⊥

abbrev pub Reads : Result Sheet Fault → List Offer → Result Plan Fault → Type 0
Reads (Err f) os r = r ≡ Err f
Reads (Ok s) os r = Begins (begin_fault (new_board s os) s.k) s os r

-- the plan, or the refusal of the sheet or of the board's beginning
abbrev pub Answers : Outcome → Result Plan Fault → Type 0
Answers o r = Reads o.answer o.taken r

abbrev pub answer_text : Result Plan Fault → List ℕ
answer_text (Ok p) = plan_text p
answer_text (Err f) = refusal_text f

-- the answer's text is written into the buffer, if it fits
pub record Texts (o : Outcome) (old : List ℕ) (r : Result ℕ SheetFault) (new : List ℕ) : Type 0 where
  pub answer : Result Plan Fault
  pub right : Answers o answer
  pub result : r ≡ write_result (answer_text answer) old
  pub bytes : new ≡ written (answer_text answer) old
