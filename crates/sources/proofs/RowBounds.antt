-- What is read of a source's rows, past the last one too, keeps its bounds. Assumes nothing.
use Rattle.std.proofs.Common.{ℕ, ◌<◌, ◌≤◌, List, length, sym, subst, ⊎_elim, arith}
use Rattle.std.proofs.lemmas.List.{get_or_past}
use Rattle.std.proofs.lemmas.Bool.{cases_lt}
use Rattle.matching.specs.declared.row.Row.{Row}
use Rattle.matching.specs.Rows.{row, no_row}
use Rattle.matching.specs.Lawful.{Lawful}

pub record Bounded (r : Row) : Type 0 where
  pub first_low : r.first < 200
  pub second_low : r.second < 200
  pub shown_low : r.shown ≤ 100000
  pub ground_low : r.ground ≤ 100000

nothing : Bounded no_row
nothing = record { first_low = omega arith; second_low = omega arith; shown_low = omega arith; ground_low = omega arith }

pub row_bounds : {n : ℕ} {rs : List Row} {top : ℕ} {carry : ℕ → ℕ} → Lawful n rs top carry → (e : ℕ) → Bounded (row rs e)
row_bounds {n} {rs} {top} laws e =
    ⊎_elim
    (λ (l : e < length rs). let s = laws.sound e l in record {
      first_low = omega (arith, s.first_in, laws.few);
      second_low = omega (arith, s.second_in, laws.few);
      shown_low = omega (arith, s.shown_low, laws.low);
      ground_low = s.ground_low;
    })
    (λ (p : length rs ≤ e). subst Bounded (sym (get_or_past rs e no_row p)) nothing)
    (cases_lt e (length rs))
