-- The table of refusals: layer, number and place of every case. Contracts name a refusal by its case, and this says what it is told as.
-- Assumes nothing.
use Rattle.std.specs.Prelude.{ℕ, List, ◌++◌, codes, decimal}
use Rattle.faults.specs.declared.code.Code.{Code}
use Rattle.faults.specs.declared.fault.Fault.{Fault}
use Rattle.faults.specs.declared.fault.Fault.TheVariants.{Sheet, Source, Board, Stack}
use Rattle.faults.specs.declared.layers.SheetFault.{SheetFault}
use Rattle.faults.specs.declared.layers.SheetFault.TheVariants.{TooLong, BadForm, ShortBuffer}
use Rattle.faults.specs.declared.layers.SourceFault.{SourceFault}
use Rattle.faults.specs.declared.layers.SourceFault.TheVariants.{TooManyMembers, TooManyOffers, BadMember, HighSaving, BadStock, BadLength, WideCut, BadRatio}
use Rattle.faults.specs.declared.layers.BoardFault.{BoardFault}
use Rattle.faults.specs.declared.layers.BoardFault.TheVariants.{NotBegun, AlreadyBegun, BadK, HighTop, NotRoot, WrongCount, BadOffer, NotLoose, NoNumber, BadLabels, FloorZero, InAtZero, OutOfBounds, Priced, NoMember}
use Rattle.faults.specs.declared.layers.StackFault.{StackFault}
use Rattle.faults.specs.declared.layers.StackFault.TheVariants.{Full}

abbrev told : ℕ → ℕ → ℕ → Code
told l m p = record { layer = l; number = m; place = p }

abbrev pub sheet_code : SheetFault → Code
sheet_code TooLong = told 1 1 0
sheet_code (BadForm line) = told 1 2 line
sheet_code (ShortBuffer size) = told 1 4 size

abbrev pub source_code : SourceFault → Code
source_code (TooManyMembers count) = told 2 11 count
source_code (TooManyOffers most) = told 2 12 most
source_code (BadMember offer) = told 2 13 offer
source_code (HighSaving offer) = told 2 14 offer
source_code (BadStock index) = told 2 15 index
source_code (BadLength member) = told 2 16 member
source_code (WideCut cut) = told 2 17 cut
source_code BadRatio = told 2 18 0

abbrev pub board_code : BoardFault → Code
board_code NotBegun = told 3 21 0
board_code AlreadyBegun = told 3 22 0
board_code (BadK k) = told 3 23 k
board_code (HighTop top) = told 3 24 top
board_code (NotRoot node) = told 3 25 node
board_code (WrongCount count) = told 3 26 count
board_code (BadOffer position) = told 3 27 position
board_code (NotLoose root) = told 3 28 root
board_code NoNumber = told 3 29 0
board_code (BadLabels at) = told 3 30 at
board_code FloorZero = told 3 31 0
board_code (InAtZero node) = told 3 32 node
board_code (OutOfBounds offer) = told 3 33 offer
board_code (Priced node) = told 3 34 node
board_code (NoMember member) = told 3 35 member

abbrev pub stack_code : StackFault → Code
stack_code (Full slots) = told 4 41 slots

abbrev pub code_of : Fault → Code
code_of (Sheet f) = sheet_code f
code_of (Source f) = source_code f
code_of (Board f) = board_code f
code_of (Stack f) = stack_code f

-- the three numbers in decimal, with a space between
abbrev pub numbers_text : Code → List ℕ
numbers_text c = decimal c.layer ++ (codes " " ++ (decimal c.number ++ (codes " " ++ decimal c.place)))
