-- Numerals are short, and so are the lines made of them. Assumes nothing.
use Rattle.std.proofs.Common.{ℕ, suc, ◌+◌, ◌*◌, ◌^◌, ◌<◌, ◌≤◌, List, [], ◌∷◌, ◌++◌, length, get_or, arith}
use Rattle.std.proofs.lemmas.List.{length-append}
use Rattle.std.proofs.lemmas.Fmt.{length-decimal-le}
use Rattle.tokens.proofs.Numerals.{numeral_written}
use Rattle.tokens.specs.Numerals.{numeral_of}
use Rattle.report.specs.Texts.{spaced, form, pair_line}

pub numeral_short : (n : ℕ) → n < 2 ^ 64 → length (numeral_of n) ≤ 20
numeral_short n small = rw (numeral_written n small) (length-decimal-le 20 n (omega arith) (omega arith) small)

pub spaced_short : (ns : List ℕ) → ((i : ℕ) → get_or ns i 0 < 2 ^ 64) → length (spaced ns) ≤ 21 * length ns
spaced_short [] h = omega arith
spaced_short (n ∷ ns) h =
    let one = numeral_short n (h 0) in
    let more = spaced_short ns (λ i. h (suc i)) in
    omega (arith, one, more, length-append (numeral_of n) (spaced ns))

pub form_short : (name ns : List ℕ) → ((i : ℕ) → get_or ns i 0 < 2 ^ 64) → length (form name ns) ≤ length name + 21 * length ns + 3
form_short name ns h =
    omega (arith, spaced_short ns h, length-append name (spaced ns ++ 41 ∷ 10 ∷ []), length-append (spaced ns) (41 ∷ 10 ∷ []))

pub pair_short : (u v : ℕ) → u < 2 ^ 64 → v < 2 ^ 64 → length (pair_line u v) ≤ 51
pair_short u v hu hv =
    let tail : List ℕ = 41 ∷ 41 ∷ 10 ∷ [] in
    omega (arith, numeral_short u hu, numeral_short v hv, length-append (numeral_of u) (32 ∷ (numeral_of v ++ tail)), length-append (numeral_of v) tail)
