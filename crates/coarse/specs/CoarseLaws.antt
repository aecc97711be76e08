-- A coarse layer over any source that keeps the laws keeps them too. The proof stands here, since `laws` of the layer is this term.
-- Assumes nothing.
use Rattle.std.specs.Prelude.{◌≡◌, ℕ, zero, suc, ◌+◌, ◌-◌, ◌*◌, ◌/◌, ◌<◌, ◌≤◌, min, List, [], ◌∷◌, length, refl}
use Rattle.std.proofs.Common.{sym, ap, ◌∙◌, mul-zero, mul-add, add-mul, mul_comm, mul-le-mul_left, mul-le-mul_right, arith}
use Rattle.std.proofs.Math.Path.{fun_ext}
use Rattle.std.proofs.Math.Nat.{zero-div, mul-sub, mul-div-le, lt-mul-div-succ, div-le_of_le-mul}
use Rattle.std.proofs.lemmas.List.{length-map}
use Rattle.std.proofs.lemmas.Nat.{le-div}
use Rattle.matching.specs.declared.row.Row.{Row}
use Rattle.matching.specs.Rows.{row_with, row, AllSound}
use Rattle.matching.specs.Pairings.{ends, Pairing, shown_of, ground_of}
use Rattle.matching.specs.Sums.{total}
use Rattle.matching.specs.Lawful.{Lawful}
use Rattle.matching.proofs.Pairs.{pairs_few, shown_most}
use Rattle.matching.proofs.Sums.{total_nil, total_cons}
use Rattle.coarse.specs.Coarse.{part_of, coarse_row, coarse_rows, gap_below, coarse_carry}

none_of : (x N : ℕ) → part_of x N 0 ≡ 0
none_of x N = ap (λ v. v / N) (mul-zero x) ∙ zero-div N

pub row_coarse : (x N : ℕ) (rs : List Row) (e : ℕ) → row (coarse_rows x N rs) e ≡ coarse_row x N (row rs e)
row_coarse x N [] e = ap (λ v. row_with 0 0 v 0) (sym (none_of x N))
row_coarse x N (r ∷ rs) zero = refl
row_coarse x N (r ∷ rs) (suc e) = row_coarse x N rs e

part_mono : (x N v w : ℕ) → 1 ≤ N → v ≤ w → part_of x N v ≤ part_of x N w
part_mono x N v w pos h =
    le-div (x * v / N) (x * w) N (omega arith) (omega (arith, mul-div-le (x * v) N, mul_comm (x * v / N) N, mul-le-mul_left x h))

pub part_le : (x N v : ℕ) → x ≤ N → part_of x N v ≤ v
part_le x N v h = div-le_of_le-mul N (mul-le-mul_right v h)

-- rounding takes at most N - 1
part_near : (x N v : ℕ) → 1 ≤ N → x * v ≤ N * part_of x N v + (N - 1)
part_near x N v pos =
    let p : 0 < N = omega arith in
    omega (arith, lt-mul-div-succ (x * v) p, mul-add N (x * v / N) 1)

module _ (x N : ℕ) (rs : List Row) where
  pub same_ends : (es : List ℕ) → ends (coarse_rows x N rs) es ≡ ends rs es
  same_ends [] = refl
  same_ends (e ∷ es) = rw (row_coarse x N rs e, same_ends es)

  pub same_ground : (es : List ℕ) → ground_of (coarse_rows x N rs) es ≡ ground_of rs es
  same_ground es = ap (λ f. total f es) (fun_ext (λ e. ap (λ (r : Row). r.ground) (row_coarse x N rs e)))

  same_pairing : (es : List ℕ) → Pairing (coarse_rows x N rs) es → Pairing rs es
  same_pairing es p = record {
    offers = rw (length-map rs (coarse_row x N)) at p.offers;
    apart = rw (same_ends es) at p.apart;
  }

  -- what is shown above, as a sum over what is shown below
  shown_above : (es : List ℕ) → shown_of (coarse_rows x N rs) es ≡ total (λ e. part_of x N (row rs e).shown) es
  shown_above es = ap (λ f. total f es) (fun_ext (λ e. ap (λ (r : Row). r.shown) (row_coarse x N rs e)))

-- sums of rounded parts lie close to the parts of the sums
module _ (x N : ℕ) (f : ℕ → ℕ) where
  abbrev parts : ℕ → ℕ
  parts e = part_of x N (f e)

  sum_floor : (es : List ℕ) → N * total parts es ≤ x * total f es
  sum_floor [] = omega (arith, total_nil parts, total_nil f, mul-zero N, ap (λ v. N * v) (total_nil parts))
  sum_floor (e ∷ es) =
      rw (total_cons parts e es, total_cons f e es) omega (
        arith,
        mul-add N (parts e) (total parts es),
        mul-add x (f e) (total f es),
        mul-div-le (x * f e) N,
        sum_floor es,
      )

  sum_near : 1 ≤ N → (es : List ℕ) → x * total f es ≤ N * total parts es + length es * (N - 1)
  sum_near pos [] = omega (arith, mul-zero x, ap (λ v. x * v) (total_nil f))
  sum_near pos (e ∷ es) =
      rw (total_cons parts e es, total_cons f e es) omega (
        arith,
        mul-add N (parts e) (total parts es),
        mul-add x (f e) (total f es),
        part_near x N (f e) pos,
        add-mul (length es) 1 (N - 1),
        sum_near pos es,
      )

module _ (x N : ℕ) (some : 1 ≤ x) (within : x ≤ N) {n : ℕ} {rs : List Row} {top : ℕ} {carry : ℕ → ℕ} (laws : Lawful n rs top carry) where
  coarse_sound : AllSound n (part_of x N top) (coarse_rows x N rs)
  coarse_sound e l =
      let s = laws.sound e (omega (arith, length-map rs (coarse_row x N))) in
      rw (row_coarse x N rs e) record {
        differ = s.differ;
        first_in = s.first_in;
        second_in = s.second_in;
        shown_low = part_mono x N (row rs e).shown top (omega arith) s.shown_low;
        ground_low = s.ground_low;
      }

  gap_holds : (a b : List ℕ) (s : ℕ) → Pairing (coarse_rows x N rs) b → shown_of (coarse_rows x N rs) b ≤ shown_of (coarse_rows x N rs) a + s → shown_of rs b ≤ shown_of rs a + gap_below x N n top s
  gap_holds a b s pb h =
      let pos : 1 ≤ N = omega arith in
      let cut = min s (n / 2 * part_of x N top) in
      let all = N * cut + (N - 1) * (n / 2) in
      let f : ℕ → ℕ = λ e. (row rs e).shown in
      let va = shown_of rs a in
      let vb = shown_of rs b in
      let qa = total (λ e. part_of x N (f e)) a in
      let qb = total (λ e. part_of x N (f e)) b in
      let pb' = same_pairing x N rs b pb in
      let most = shown_most n (part_of x N top) (coarse_rows x N rs) coarse_sound b pb in
      let most' = shown_most n top rs laws.sound b pb' in
      let near : qb ≤ qa + cut = omega (arith, h, most, shown_above x N rs a, shown_above x N rs b) in
      let count = mul-le-mul_right (N - 1) (pairs_few n top rs laws.sound b pb') in
      let bound : x * vb ≤ x * va + all =
      omega (
        arith,
        mul-le-mul_left N near,
        mul-add N qa cut,
        sum_floor x N f a,
        sum_near x N f pos b,
        count,
        mul_comm (n / 2) (N - 1),
      )
      in
      let d : vb - va ≤ all / x = le-div (vb - va) all x (omega arith) (omega (arith, mul_comm (vb - va) x, mul-sub x vb va, bound)) in
      omega (arith, d, most')

  pub coarse_laws : Lawful n (coarse_rows x N rs) (part_of x N top) (coarse_carry x N n top carry)
  coarse_laws = record {
    few = laws.few;
    short = omega (arith, laws.short, length-map rs (coarse_row x N));
    low = omega (arith, laws.low, part_le x N top within);
    sound = coarse_sound;
    capped = λ s. laws.capped (gap_below x N n top s);
    carries = λ a b s pa pb h.
        rw (same_ground x N rs a, same_ground x N rs b)
        (laws.carries a b (gap_below x N n top s) (same_pairing x N rs a pa) (same_pairing x N rs b pb) (gap_holds a b s pb h));
  }
