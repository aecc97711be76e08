-- What a sheet says: one frame, one coarse, then offers, each line judged by what came before it. Assumes nothing.
use Rattle.std.specs.Prelude.{◌≡◌, ℕ, ◌+◌, ◌≤◌, min, List, [], ◌∷◌, ◌++◌, length, drop, Some, None, Ok, Err, Option, Result, nat_le, nat_lt}
use Rattle.faults.specs.declared.fault.Fault.{Fault}
use Rattle.faults.specs.declared.fault.Fault.TheVariants.{Sheet as InSheet, Source as InSource}
use Rattle.faults.specs.declared.layers.SheetFault.{SheetFault}
use Rattle.faults.specs.declared.layers.SheetFault.TheVariants.{TooLong, BadForm}
use Rattle.faults.specs.declared.layers.SourceFault.{SourceFault}
use Rattle.faults.specs.declared.layers.SourceFault.TheVariants.{TooManyOffers}
use Rattle.sources.specs.declared.offer.Offer.{Offer as Listed}
use Rattle.faults.specs.Checks.{unless}
use Rattle.sources.specs.Lists.{size_fault, list_fault}
use Rattle.coarse.specs.Ratios.{ratio_fault}
use Rattle.forms.specs.declared.form.Form.{Form}
use Rattle.forms.specs.declared.form.Form.TheVariants.{Frame, Coarse, Offer}
use Rattle.sheet.specs.declared.reader.Sheet.{Sheet}
use Rattle.forms.specs.Forms.{form}
use Rattle.sheet.specs.Lines.{lines}

-- how far a sheet is read: nothing; members and k; and x and N, with the offers so far
pub data Stage : Type 0 where
  start : Stage
  framed : ℕ → ℕ → Stage
  listing : ℕ → ℕ → ℕ → ℕ → List Listed → Stage

abbrev bad_form : {A : Type 0} → ℕ → Result A Fault
bad_form line = Err (InSheet (BadForm line))

-- x, unless there is a fault
abbrev pub unless_fault : {A : Type 0} → Option SourceFault → A → Result A Fault
unless_fault None x = Ok x
unless_fault (Some f) x = Err (InSource f)

-- where at most so many offers are taken, and so many are there
abbrev pub room_fault : ℕ → ℕ → Option SourceFault
room_fault most used = unless (nat_lt used most) (TooManyOffers most)

-- a form at a line, where at most so many offers are taken
abbrev pub accept : ℕ → ℕ → Stage → Form → Result Stage Fault
accept most line start (Frame n k) = unless_fault (size_fault n) (framed n k)
accept most line start (Coarse x w) = bad_form line
accept most line start (Offer o) = bad_form line
accept most line (framed n k) (Frame _ _) = bad_form line
accept most line (framed n k) (Coarse x w) = unless_fault (ratio_fault x w) (listing n k x w [])
accept most line (framed n k) (Offer o) = bad_form line
accept most line (listing n k x w os) (Frame _ _) = bad_form line
accept most line (listing n k x w os) (Coarse _ _) = bad_form line
accept most line (listing n k x w os) (Offer o) =
    unless_fault (room_fault most (length os)) (listing n k x w (os ++ o ∷ []))

-- a line, if it is the line of a form
abbrev pub judge : ℕ → ℕ → Stage → Option Form → Result Stage Fault
judge most line s None = bad_form line
judge most line s (Some f) = accept most line s f

-- the end, where the next line would have this number
abbrev pub finish : ℕ → Stage → Result Sheet Fault
finish line start = bad_form line
finish line (framed n k) = bad_form line
finish line (listing n k x w os) = unless_fault (list_fault n os) (record { members = n; k = k; x = x; whole = w; offers = length os })

abbrev pub offers_in : Stage → List Listed
offers_in start = []
offers_in (framed n k) = []
offers_in (listing n k x w os) = os

-- the answer, and the offers that were taken
pub record Outcome : Type 0 where
  pub answer : Result Sheet Fault
  pub taken : List Listed

abbrev pub onward : Stage → Result Stage Fault → (Stage → Outcome) → Outcome
onward s (Ok s') go = go s'
onward s (Err f) go = record { answer = Err f; taken = offers_in s }

-- the lines from this one on
abbrev pub over : ℕ → ℕ → Stage → List (List ℕ) → Outcome
over most line s [] = record { answer = finish line s; taken = offers_in s }
over most line s (l ∷ ls) = onward s (judge most line s (form l)) (λ s'. over most (line + 1) s' ls)

abbrev pub length_fault : List ℕ → Option SheetFault
length_fault input = unless (nat_le (length input) 65535) TooLong

-- the outcome, unless there is a fault
abbrev pub otherwise : Option SheetFault → Outcome → Outcome
otherwise None o = o
otherwise (Some f) o = record { answer = Err (InSheet f); taken = [] }

-- a whole sheet, where so many slots are there for its offers
abbrev pub sheet_of : ℕ → List ℕ → Outcome
sheet_of slots input = otherwise (length_fault input) (over (min 4000 slots) 1 start (lines input))

-- the slots with offers at the front
abbrev pub placed : List Listed → List Listed → List Listed
placed os slots = os ++ drop (length os) slots

-- what a sheet that is read promises of its offers
pub record Sound (s : Sheet) (os : List Listed) : Type 0 where
  pub listed : list_fault s.members os ≡ None
  pub ratio : ratio_fault s.x s.whole ≡ None
  pub counted : length os ≡ s.offers
  pub few : s.offers ≤ 4000
