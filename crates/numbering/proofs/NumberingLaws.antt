-- Every offer number has its two members, and every two members their number. Assumes nothing.
use Rattle.std.proofs.Common.{◌≡◌, ℕ, zero, suc, ◌+◌, ◌-◌, ◌*◌, ◌<◌, ◌≤◌, map, length, get_or, refl, ap, ◌∙◌, ⊎_elim, suc-mul, mul-suc, arith, length-append}
use lib.ListN.{length-map}
use Rattle.std.proofs.lemmas.List.{get_or_append_left, get_or-append_right, get_or-map}
use Rattle.std.proofs.lemmas.Bool.{cases_lt}
use Rattle.matching.specs.Sums.{below}
use Rattle.matching.proofs.Sums.{length_below, getD_below}
use Rattle.numbering.specs.Numbering.{offers_among, number, twos}

-- the row of v has v offers
one_less : (m v : ℕ) → m * (suc v - 1) ≡ m * v
one_less m v = ap (λ x. m * x) (omega arith)

product_more : (v : ℕ) → suc v * v ≡ v * (v - 1) + 2 * v
product_more zero = refl
product_more (suc k) = omega (arith, suc-mul (suc k) (suc k), mul-suc (suc k) k, one_less (suc k) k)

pub among_more : (v : ℕ) → offers_among (suc v) ≡ offers_among v + v
among_more v = omega (arith, product_more v, one_less (suc v) v)

pub length_twos : (n : ℕ) → length (twos n) ≡ offers_among n
length_twos zero = refl
length_twos (suc v) =
    let with-v : ℕ → ℕ × ℕ = λ u. (u, v) in
    length-append (twos v) (map with-v (below v)) ∙ omega (arith, length_twos v, length-map (below v) with-v, length_below v, among_more v)

-- a number is below the offers of more members
pub number_low : (u v n : ℕ) → u < v → v < n → number u v < offers_among n
number_low u v zero l h = absurd (omega arith)
number_low u v (suc m) l h =
    ⊎_elim
    (λ (k : v < m). omega (arith, number_low u v m l k, among_more m))
    (λ (k : m ≤ v). let e : v ≡ m = omega arith in rw e omega (arith, among_more m))
    (cases_lt v m)

pub twos_number : (u v n : ℕ) → u < v → v < n → get_or (twos n) (number u v) (0, 0) ≡ (u, v)
twos_number u v zero l h = absurd (omega arith)
twos_number u v (suc m) l h =
    let with-m : ℕ → ℕ × ℕ = λ x. (x, m) in
    ⊎_elim
    (λ (k : v < m). get_or_append_left (twos m) (map with-m (below m)) (0, 0) (number u v) (omega (arith, number_low u v m l k, length_twos m)) ∙ twos_number u v m l k)
    (λ (k : m ≤ v).
    let e : v ≡ m = omega arith in
    let lu : u < m = omega arith in
    get_or-append_right (twos m) (map with-m (below m)) (offers_among m) (number u v) (0, 0) (length_twos m) (rw e omega arith)
    ∙ ap (λ i. get_or (map with-m (below m)) i (0, 0)) (rw e omega arith)
    ∙ get_or-map with-m (below m) u 0 (0, 0) (omega (arith, length_below m))
    ∙ rw (getD_below m u 0 lu, e) refl)
    (cases_lt v m)

-- the members of an offer, by its number
pub record Named (n e : ℕ) : Type 0 where
  pub low : ℕ
  pub high : ℕ
  pub rising : low < high
  pub inside : high < n
  pub is : number low high ≡ e

pub named : (n e : ℕ) → e < offers_among n → Named n e
named zero e l = absurd (omega arith)
named (suc m) e l =
    ⊎_elim
    (λ (k : e < offers_among m). let r = named m e k in record { low = r.low; high = r.high; rising = r.rising; inside = omega (arith, r.inside); is = r.is })
    (λ (k : offers_among m ≤ e). record { low = e - offers_among m; high = m; rising = omega (arith, among_more m); inside = omega arith; is = omega arith })
    (cases_lt e (offers_among m))
