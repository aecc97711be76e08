-- How many slots a reader uses, by its state. Assumes nothing.
use Rattle.std.specs.Prelude.{ℕ}
use Rattle.sheet.specs.declared.reader.State.{State}
use Rattle.sheet.specs.declared.reader.State.TheVariants.{Frame, Coarse, Body}

abbrev pub count : State → ℕ
count Frame = 0
count (Coarse n k) = 0
count (Body s) = s.offers
