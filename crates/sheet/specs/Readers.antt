-- How far a sheet is read, by the state of the reader and its slots. Assumes nothing.
use Rattle.std.specs.Prelude.{◌≡◌, ℕ, ◌≤◌, min, List, length, take, drop, Ok, Err, Result}
use Rattle.faults.specs.declared.fault.Fault.{Fault}
use Rattle.sources.specs.declared.offer.Offer.{Offer as Listed}
use Rattle.forms.specs.declared.form.Form.{Form}
use Rattle.sheet.specs.declared.reader.Reader.{Reader}
use Rattle.sheet.specs.declared.reader.State.{State}
use Rattle.sheet.specs.declared.reader.State.TheVariants.{Frame, Coarse, Body}
use Rattle.forms.specs.Forms.{form}
use Rattle.sheet.specs.Counts.{count}
use Rattle.sheet.specs.Lines.{lines}
use Rattle.sheet.specs.Sheets.{Stage, start, framed, listing, accept, judge, Outcome, over}

abbrev pub stage_of : State → List Listed → Stage
stage_of Frame slots = start
stage_of (Coarse n k) slots = framed n k
stage_of (Body s) slots = listing s.members s.k s.x s.whole (take s.offers slots)

abbrev pub slots_in : Reader → List Listed
slots_in r = r.slots.now

abbrev pub stage_at : Reader → Stage
stage_at r = stage_of r.state (slots_in r)

abbrev pub most_at : Reader → ℕ
most_at r = min 4000 (length (slots_in r))

-- what becomes of a form, and of a line
abbrev pub accepted : Reader → Form → Result Stage Fault
accepted r f = accept (most_at r) r.line (stage_at r) f

abbrev pub judged_line : Reader → List ℕ → Result Stage Fault
judged_line r l = judge (most_at r) r.line (stage_at r) (form l)

-- what becomes of the lines of a text
abbrev pub outcome_at : Reader → List ℕ → Outcome
outcome_at r text = over (most_at r) r.line (stage_at r) (lines text)

-- the answer to a step, and the stage after it
abbrev pub told : {A E : Type 0} → Result A E → Result (Unit {0}) E
told (Ok s) = Ok tt
told (Err f) = Err f

abbrev pub settled : {E : Type 0} → Stage → Result Stage E → Stage
settled s (Ok s') = s'
settled s (Err f) = s

-- both read into the same slots
abbrev pub Lent : Reader → Reader → Type 0
Lent r r' = r.slots.ghost_name ≡ r'.slots.ghost_name

-- a step from r to r'; slots that are not in use stay as they are
pub record Moves (r : Reader) (step : Result Stage Fault) (answer : Result (Unit {0}) Fault) (r' : Reader) : Type 0 where
  pub lent : Lent r r'
  pub same : answer ≡ told step
  pub stage : stage_at r' ≡ settled (stage_at r) step
  pub used : count r.state ≤ count r'.state
  pub long : length (slots_in r') ≡ length (slots_in r)
  pub rest : drop (count r'.state) (slots_in r') ≡ drop (count r'.state) (slots_in r)
