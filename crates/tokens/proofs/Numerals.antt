-- A numeral is what the library prints. Assumes nothing.
use Rattle.std.proofs.Common.{◌≡◌, ℕ, suc, zero, ◌^◌, ◌<◌, eqb, sym, ◌∙◌, decimal, arith}
use Rattle.std.proofs.lemmas.Fmt.{decimal_digit, decimal-digits_of}
use Rattle.std.proofs.lemmas.Bool.{ne_eqb, cond-false}
use Rattle.tokens.specs.Numerals.{numeral_of}

pub numeral_written : (n : ℕ) → n < 2 ^ 64 → numeral_of n ≡ decimal n
numeral_written zero small = sym (decimal_digit 0 (omega arith))
numeral_written (suc n) small = cond-false (eqb (suc n) 0) _ _ (ne_eqb (suc n) 0 (λ e. omega (arith, e))) ∙ sym (decimal-digits_of (suc n) (omega arith) small)
