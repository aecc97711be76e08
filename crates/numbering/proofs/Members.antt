-- The members of an offer by its number, where the numbers end, and the number of two members. Assumes nothing.
use Rattle.std.proofs.Common.{◌≡◌, ℕ, zero, suc, ◌-◌, ◌<◌, ◌≤◌, ◌&&◌, ltb, leb, Some, None, Option, sym, refl, ap, ◌∙◌, arith}
use Rattle.std.specs.List.{slice_get}
use Rattle.std.proofs.lemmas.Option.{slice_get-get_or, slice_get_past}
use Rattle.std.proofs.lemmas.Bool.{le-leb, lt-leb, lt-ltb, and_from, cond-true, cond-false, cond_both}
use Rattle.numbering.specs.Numbering.{offers_among, number, twos, twos_at, number_at}
use Rattle.numbering.proofs.NumberingLaws.{among_more, length_twos, number_low, twos_number}

pub at_number : (n u v e : ℕ) → n ≤ 89 → u < v → v < n → number u v ≡ e → twos_at n e ≡ Some (u, v)
at_number n u v e few l h is =
    cond-true (leb n 89) (slice_get (twos n) e) None (le-leb n 89 few)
    ∙ sym (ap (λ i. slice_get (twos n) i) is)
    ∙ slice_get-get_or (twos n) (number u v) (0, 0) (omega (arith, number_low u v n l h, length_twos n))
    ∙ ap Some (twos_number u v n l h)

pub too_many : (n e : ℕ) → 89 < n → None ≡ twos_at n e
too_many n e h = sym (cond-false (leb n 89) (slice_get (twos n) e) None (lt-leb n 89 h))

pub past_last : (n e : ℕ) → offers_among n ≤ e → None ≡ twos_at n e
past_last n e h = cond_both (leb n 89) (slice_get (twos n) e) None (λ o. None ≡ o) (λ _. sym (slice_get_past (twos n) e (omega (arith, length_twos n)))) (λ _. refl)

pub number_is : (u v : ℕ) → u < v → v < 89 → number_at u v ≡ Some (number u v)
number_is u v l h = cond-true (ltb u v && ltb v 89) (Some (number u v)) None (and_from (ltb u v) (ltb v 89) (lt-ltb u v l) (lt-ltb v 89 h))

-- the row that an offer lies in
pub in_row : (v e : ℕ) → offers_among v ≤ e → e < offers_among (suc v) → e - offers_among v < v
in_row v e from to = omega (arith, among_more v)

-- none lies below the first row
pub none_left : {A : Type 0} (e v : ℕ) → e < offers_among v → v ≤ 0 → A
none_left e zero short least = absurd (omega arith)
none_left e (suc v) short least = absurd (omega arith)

pub these : (n e x y u v : ℕ) → ◌≡◌ {A = Option (ℕ × ℕ)} (Some (x, y)) (Some (u, v)) → n ≤ 89 → x < y → y < n → number x y ≡ e → (u < v) × (v < n) × (number_at u v ≡ Some e)
these n e x y u v same few l h is =
    let both : ◌≡◌ {A = ℕ × ℕ} (x, y) (u, v) = cc in
    let a : x ≡ u = ap (λ (p : ℕ × ℕ). p.0) both in
    let b : y ≡ v = ap (λ (p : ℕ × ℕ). p.1) both in
    rw (← a, ← b) (l, h, number_is x y l (omega arith) ∙ ap Some is)
