-- The value of digits, digit by digit. Assumes nothing.
use Rattle.std.proofs.Common.{◌≡◌, ℕ, zero, suc, ◌+◌, ◌-◌, ◌*◌, ◌^◌, ◌%◌, ◌<◌, ◌≤◌, true, List, [], ◌∷◌, length, get_or, Some, sym, refl, ap, ◌∙◌, pow-suc, add-one, arith}
use Rattle.std.specs.List.{fold}
use Rattle.std.proofs.lemmas.Bool.{cond-true}
use Rattle.std.proofs.Math.Nat.{mod-eq_of_lt, pow-le-pow_right}
use Rattle.forms.specs.Forms.{amount, digit_more, plain, value_of, Digits}
use Rattle.forms.proofs.Numbers.{Digital, in_digits, plain_parts}

-- one digit more
below_power : (n d i : ℕ) → n < 10 ^ i → d < 10 → n * 10 + d < 10 ^ (i + 1)
below_power n d i l k = let e : 10 ^ (i + 1) ≡ 10 ^ i * 10 = ap (λ j. 10 ^ j) (add-one i) ∙ pow-suc 10 i in omega arith

-- digits behind a number of i digits: with six in all, nothing wraps
folded : (ds : List ℕ) (n i : ℕ) → Digital ds → n < 10 ^ i → i + length ds ≤ 6 → fold digit_more n ds ≡ amount n ds
folded [] n i h l few = refl
folded (d ∷ ds) n i h l few =
    let digit = h 0 (omega arith) in
    let more = below_power n (d - 48) i l (omega (arith, digit)) in
    let six : 10 ^ (i + 1) ≤ 10 ^ 6 = pow-le-pow_right (omega arith) {i = i + 1} {j = 6} (omega arith) in
    let whole : digit_more n d ≡ n * 10 + (d - 48) = mod-eq_of_lt (omega (arith, more, six)) in
    ap (λ m. fold digit_more m ds) whole ∙ folded ds (n * 10 + (d - 48)) (i + 1) (λ j k. h (suc j) (omega arith)) more (omega arith)

pub value_folded : (ds : List ℕ) → Digits ds → plain ds ≡ true → Some (fold digit_more 0 ds) ≡ value_of ds
value_folded ds h p =
    let digital = λ (i : ℕ) (l : i < length ds). in_digits (get_or ds i 0) (h i l) in
    ap Some (folded ds 0 0 digital (omega arith) (omega (arith, (plain_parts ds p).1))) ∙ sym (cond-true (plain ds) _ _ p)
