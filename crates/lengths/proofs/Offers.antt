-- The row of a length source's offer, by its two members; past the last offer there is none. Assumes nothing.
use Rattle.std.proofs.Common.{◌≡◌, ℕ, ◌<◌, ◌≤◌, leb, List, length, Some, None, Option, refl, sym, ap, ◌∙◌, ⊎_elim, arith}
use Rattle.std.specs.List.{slice_get}
use Rattle.std.specs.Option.{option_map_or, IfSome}
use Rattle.std.proofs.lemmas.List.{get_or_past}
use Rattle.std.proofs.lemmas.Option.{slice_get-get_or}
use Rattle.std.proofs.lemmas.Bool.{cases_lt, le-leb, cond-true}
use Rattle.matching.specs.Rows.{row, no_row}
use Rattle.numbering.specs.Numbering.{number, twos, twos_at, number_at}
use Rattle.numbering.proofs.NumberingLaws.{length_twos}
use Rattle.lengths.specs.Lengths.{length_row, length_rows}
use Rattle.lengths.specs.LengthLaws.{row_numbered, length_length_rows}
use Rattle.numbering.proofs.Members.{number_is}

module _ (ls ss : List ℕ) (c : ℕ) (few : length ls ≤ 89) (e : ℕ) where
  row_there : (u v : ℕ) → (u < v) × (v < length ls) × (number_at u v ≡ Some e) → row (length_rows ls ss c) e ≡ length_row ls ss c (u, v)
  row_there u v h =
      let some : Some (number u v) ≡ Some e = sym (number_is u v h.0 (omega (arith, h.1))) ∙ h.2 in
      let is : number u v ≡ e = cc in
      ap (λ i. row (length_rows ls ss c) i) (sym is) ∙ row_numbered ls ss c u v h.0 h.1

  row_past : None ≡ twos_at (length ls) e → row (length_rows ls ss c) e ≡ no_row
  row_past none =
      ⊎_elim
      (λ (l : e < length (twos (length ls))).
      let some = sym (cond-true (leb (length ls) 89) (slice_get (twos (length ls)) e) None (le-leb (length ls) 89 few)) in
      let there = slice_get-get_or (twos (length ls)) e (0, 0) l in
      let z : ◌≡◌ {A = ℕ} 0 1 = cc in
      absurd (omega arith))
      (λ (p : length (twos (length ls)) ≤ e). get_or_past (length_rows ls ss c) e no_row (omega (arith, length_twos (length ls), length_length_rows ls ss c)))
      (cases_lt e (length (twos (length ls))))

  pub row_of_pair : (o : Option (ℕ × ℕ)) → o ≡ twos_at (length ls) e → ((u v : ℕ) → o ≡ Some (u, v) → (u < v) × (v < length ls) × (number_at u v ≡ Some e))
      → row (length_rows ls ss c) e ≡ option_map_or (length_row ls ss c) o no_row
  row_of_pair None is back = row_past is
  row_of_pair (Some p) is back = row_there p.0 p.1 (back p.0 p.1 refl)

  pub within : (o : Option (ℕ × ℕ)) → ((u v : ℕ) → o ≡ Some (u, v) → (u < v) × (v < length ls) × (number_at u v ≡ Some e)) → IfSome o (λ p. (p.0 < p.1) × (p.1 < length ls))
  within None back = tt
  within (Some p) back = let b = back p.0 p.1 refl in (b.0, b.1)
