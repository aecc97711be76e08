-- The longest run of bytes of one kind: what is in it. Assumes nothing.
use Rattle.std.proofs.Common.{◌≡◌, ℕ, ◌<◌, Bool, true, eqb, List, [], ◌∷◌, length, get_or, take, Some, None, Option, sym, ap, ◌∙◌, subst, arith}
use Rattle.tokens.specs.declared.token.Kind.TheVariants.{Letter, Digit}
use Rattle.std.proofs.lemmas.List.{get_or-take}
use Rattle.std.proofs.lemmas.List.Folds.{length-prefix_len}
use Rattle.std.proofs.lemmas.List.Sums.{prefix_len_passes}
use Rattle.std.proofs.lemmas.Bool.{cond_both}
use Rattle.tokens.specs.Tokens.{belongs, run, Word, opening, closing, name, numeral, token_of}

-- all of the front that is a run
pub front_passes : (p : ℕ → Bool) (bs : List ℕ) (i : ℕ) → i < length (take (run p bs) bs) → p (get_or (take (run p bs) bs) i 0) ≡ true
front_passes p bs i l =
    let k : i < run p bs = omega (arith, length-prefix_len p bs) in
    ap p (get_or-take (run p bs) bs i 0 k) ∙ prefix_len_passes p bs i 0 k

-- the bytes of a numeral are digits
abbrev of_digits : Word → Type 0
of_digits opening = Unit {0}
of_digits closing = Unit {0}
of_digits (name w) = Unit {0}
of_digits (numeral w) = (i : ℕ) → i < length w → belongs Digit (get_or w i 0) ≡ true

abbrev Sound : Option (Word × List ℕ) → Type 0
Sound None = Unit {0}
Sound (Some p) = of_digits p.0

token_sound : (t : List ℕ) → Sound (token_of t)
token_sound [] = tt
token_sound (b ∷ bs) =
    cond_both (eqb b 40) _ _ Sound (λ _. tt) (λ _.
    cond_both (eqb b 41) _ _ Sound (λ _. tt) (λ _.
    cond_both (belongs Letter b) _ _ Sound (λ _. tt) (λ _.
    cond_both (belongs Digit b) _ _ Sound (λ _. front_passes (belongs Digit) (b ∷ bs)) (λ _. tt))))

pub numeral_digits : (t w r : List ℕ) → Some (numeral w, r) ≡ token_of t → (i : ℕ) → i < length w → belongs Digit (get_or w i 0) ≡ true
numeral_digits t w r e = subst Sound (sym e) (token_sound t)
