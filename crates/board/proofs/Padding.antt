-- Filling a table of 4,000 places with the offers, one by one. Assumes nothing.
use Rattle.std.proofs.Common.{◌≡◌, ℕ, suc, ◌+◌, ◌-◌, ◌<◌, ◌≤◌, List, [], ◌∷◌, ◌++◌, length, take, set, replicate, sym, refl, ap, ◌∙◌, append_assoc, arith, length-take-le}
use lib.ListN.{length-replicate}
use Rattle.std.proofs.lemmas.List.{take_more, take_all, set_at, length-append, take_at}
use Rattle.matching.specs.declared.row.Row.{Row}
use Rattle.matching.specs.Rows.{no_row, row}
use Rattle.board.specs.Fresh.{padded}

module _ (rs : List Row) (short : length rs ≤ 4000) where
  padded_more : (i : ℕ) → i < length rs → set (take i rs ++ replicate (4000 - i) no_row) i (row rs i) ≡ take (i + 1) rs ++ replicate (4000 - (i + 1)) no_row
  padded_more i l =
      let room : 4000 - i ≡ suc (4000 - (i + 1)) = omega arith in
      ap (λ k. set (take i rs ++ replicate k no_row) i (row rs i)) room
      ∙ set_at (take i rs) no_row (replicate (4000 - (i + 1)) no_row) (row rs i) i (length-take-le i rs (omega arith))
      ∙ sym (append_assoc (take i rs) (row rs i ∷ []) (replicate (4000 - (i + 1)) no_row))
      ∙ ap (λ l. l ++ replicate (4000 - (i + 1)) no_row) (sym (take_more rs i no_row l))

  -- the turn of a loop that writes the offer i into the table xs
  pub padded_turn : (xs : List Row) (i : ℕ) (r : Row) → xs ≡ take i rs ++ replicate (4000 - i) no_row → r ≡ row rs i → i < length rs → set xs i r ≡ take (i + 1) rs ++ replicate (4000 - (i + 1)) no_row
  padded_turn xs i r e f l = ap (λ l. set l i r) e ∙ ap (set (take i rs ++ replicate (4000 - i) no_row) i) f ∙ padded_more i l

  pub padded_all : (i : ℕ) → i ≡ length rs → take i rs ++ replicate (4000 - i) no_row ≡ padded rs
  padded_all i e = ap (λ k. take k rs ++ replicate (4000 - k) no_row) e ∙ ap (λ l. l ++ replicate (4000 - length rs) no_row) (take_all (length rs) rs (omega arith))

  pub length_padded : length (padded rs) ≡ 4000
  length_padded = length-append rs (replicate (4000 - length rs) no_row) ∙ omega (arith, length-replicate (4000 - length rs) no_row)

  pub take_padded : take (length rs) (padded rs) ≡ rs
  take_padded = take_at rs (replicate (4000 - length rs) no_row) (length rs) refl
