-- A number and its digits: each gives the other back. Assumes nothing.
use Rattle.std.proofs.Common.{◌≡◌, ℕ, ◌^◌, ◌<◌, ◌≤◌, Bool, true, false, List, ◌∷◌, ◌++◌, length, get_or, take, drop, Some, None, decimal, Option, sym, refl, ap, ◌∙◌, subst, ⊎_elim, arith, rules}
use Rattle.std.specs.Int.{IsInRange}
use Rattle.std.proofs.lemmas.Fmt.{decimal_digit, digits_decimal, digits_value-decimal, length-decimal-le, decimal_nonempty, first_decimal, decimal-digits_value}
use Rattle.std.proofs.lemmas.List.{take-append-drop, take_at, drop_at}
use Rattle.std.proofs.lemmas.Str.Parse.{IsNumeralModel, FoldsDigits, tells_by_index, numerals_by_fold, digits_value_short}
use Rattle.std.proofs.lemmas.Bool.{cases_Bool, cases_eq, cond-true, cond-false}
use Rattle.std.proofs.lemmas.Bool.Decides.{nat_tests}
use Rattle.tokens.specs.declared.token.Kind.TheVariants.{Digit}
use Rattle.tokens.specs.Tokens.{belongs, run}
use Rattle.std.proofs.lemmas.Grind.{common_steps}
use Rattle.std.proofs.lemmas.List.Sums.{prefix_len_is}
use Rattle.tokens.specs.Numerals.{numeral_of}
use Rattle.forms.specs.Forms.{next, amount, plain, value_of, number_of}
use Rattle.tokens.proofs.Numerals.{numeral_written}
use Rattle.tokens.proofs.Runs.{front_passes}

-- P of what is there
abbrev pub Holds : {A : Type 0} → (A → Type 0) → Option A → Type 0
Holds P None = Unit {0}
Holds P (Some a) = P a

abbrev pub Digital : List ℕ → Type 0
Digital ds = (i : ℕ) → i < length ds → IsInRange 48 57 (get_or ds i 0)

folds : FoldsDigits amount
folds = search rules

pub own : IsNumeralModel Digital (amount 0)
own = numerals_by_fold Digital tells_by_index amount folds

pub in_digits : (b : ℕ) → belongs Digit b ≡ true → IsInRange 48 57 b
in_digits b h = grind (arith, nat_tests)

is_digit : (b : ℕ) → IsInRange 48 57 b → belongs Digit b ≡ true
is_digit b h = grind (arith, nat_tests)

pub plain_parts : (ds : List ℕ) → plain ds ≡ true → (1 ≤ length ds) × (length ds ≤ 6) × (get_or ds 0 0 ≡ 48 → length ds ≡ 1)
plain_parts ds h = (grind (arith, nat_tests), grind (arith, nat_tests), λ e. grind (arith, nat_tests))

plain_from : (ds : List ℕ) → 1 ≤ length ds → length ds ≤ 6 → (get_or ds 0 0 ≡ 48 → length ds ≡ 1) → plain ds ≡ true
plain_from ds a b c = ⊎_elim (λ e. let one = c e in grind (arith, nat_tests)) (λ e. grind (arith, nat_tests)) (cases_eq (get_or ds 0 0) 48)

-- plain digits are the numeral of their value
digits_back : (ds : List ℕ) → Digital ds → plain ds ≡ true → (ds ≡ numeral_of (amount 0 ds)) × (amount 0 ds ≤ 999999)
digits_back ds d h =
    let parts = plain_parts ds h in
    let small : amount 0 ds < 10 ^ 6 = digits_value_short own ds 6 d parts.1 in
    let few : amount 0 ds ≤ 999999 = omega arith in
    (sym (numeral_written (amount 0 ds) (omega arith) ∙ decimal-digits_value own ds d parts.0 parts.2 (omega arith)), few)

module _ (t : List ℕ) where
  abbrev front : List ℕ
  front = take (run (belongs Digit) t) t

  abbrev behind : List ℕ
  behind = drop (run (belongs Digit) t) t

  pub number_holds : Holds (λ p. (t ≡ numeral_of p.0 ++ p.1) × (p.0 ≤ 999999)) (number_of t)
  number_holds =
      let P : Option (ℕ × List ℕ) → Type 0 = Holds (λ p. (t ≡ numeral_of p.0 ++ p.1) × (p.0 ≤ 999999)) in
      let go : Option ℕ → Option (ℕ × List ℕ) = λ o. next o (λ n. Some (n, behind)) in
      ⊎_elim
      (λ h.
      let back = digits_back front (λ i l. in_digits _ (front_passes (belongs Digit) t i l)) h in
      let e : number_of t ≡ Some (amount 0 front, behind) = ap go (cond-true (plain front) _ _ h) in
      subst P (sym e) (sym (take-append-drop (run (belongs Digit) t) t) ∙ ap (λ l. l ++ behind) back.0, back.1))
      (λ h. let e : number_of t ≡ None = ap go (cond-false (plain front) _ _ h) in subst P (sym e) tt)
      (cases_Bool (plain front))

-- a run ends where a byte fails the test
run_append : (p : ℕ → Bool) (ds : List ℕ) (c : ℕ) (r : List ℕ) → ((i : ℕ) → i < length ds → p (get_or ds i 0) ≡ true) → p c ≡ false → run p (ds ++ (c ∷ r)) ≡ length ds
run_append p ds c r all stop =
    prefix_len_is p (ds ++ (c ∷ r)) (length ds) 0 (grind (arith, common_steps)) (λ k l. let h = all k l in grind (arith, common_steps)) (λ l. grind (arith, common_steps))

pub number_back : (n c : ℕ) (r : List ℕ) → n ≤ 999999 → belongs Digit c ≡ false → number_of (numeral_of n ++ (c ∷ r)) ≡ Some (n, c ∷ r)
number_back n c r small stop =
    let ds = decimal n in
    let tail = c ∷ r in
    let digital = digits_decimal own n (omega arith) in
    let ran : run (belongs Digit) (ds ++ tail) ≡ length ds = run_append (belongs Digit) ds c r (λ i l. is_digit _ (digital i l)) stop in
    let one : get_or ds 0 0 ≡ 48 → length ds ≡ 1 = λ e. ⊎_elim (λ z. ap length (decimal_digit n (omega arith))) (λ z. absurd (omega (arith, first_decimal n (omega arith) (omega arith)))) (cases_eq n 0) in
    let flat = plain_from ds (decimal_nonempty n (omega arith)) (length-decimal-le 6 n (omega arith) (omega arith) (omega arith)) one in
    let worth : value_of ds ≡ Some n = cond-true (plain ds) _ _ flat ∙ ap Some (digits_value-decimal own n (omega arith)) in
    ap (λ l. number_of (l ++ tail)) (numeral_written n (omega arith))
    ∙ ap (λ m. next (value_of (take m (ds ++ tail))) (λ v. Some (v, drop m (ds ++ tail)))) ran
    ∙ ap (λ l. next (value_of l) (λ v. Some (v, drop (length ds) (ds ++ tail)))) (take_at ds tail (length ds) refl)
    ∙ ap (λ o. next o (λ v. Some (v, drop (length ds) (ds ++ tail)))) worth
    ∙ ap (λ l. Some (n, l)) (drop_at ds tail (length ds) refl)
