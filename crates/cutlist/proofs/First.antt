-- The first length that fits no stock is at the first position that passes the opposite test. Assumes nothing.
use Rattle.std.proofs.Common.{◌≡◌, ℕ, ◌+◌, Bool, ◌||◌, List, [], ◌∷◌, ◌==◌, nat_lt, refl, ◌∙◌, arith}
use Rattle.std.proofs.lemmas.Bool.Decides.{nat_tests}
use Rattle.std.proofs.lemmas.Iterator.Adapters.{position_from-zero}
use Rattle.std.specs.List.{position, position_from}
use Rattle.cutlist.specs.Cutlists.{bad_length}

abbrev pub unfit : ℕ → ℕ → Bool
unfit top l = l == 0 || nat_lt top l

from : (top i : ℕ) (ls : List ℕ) → position_from (unfit top) i ls ≡ bad_length top i ls
from top i [] = refl
from top i (l ∷ ls) = let h = from top (i + 1) ls in grind (arith, nat_tests, h)

pub first_unfit : (top : ℕ) (ls : List ℕ) → position (unfit top) ls ≡ bad_length top 0 ls
first_unfit top ls = position_from-zero (unfit top) ls ∙ from top 0 ls
