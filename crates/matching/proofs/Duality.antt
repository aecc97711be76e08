-- Weak duality: the prices of a state bound the weight of every pairing. Assumes nothing.
use Rattle.std.proofs.Common.{◌≡◌, ℕ, ◌+◌, ◌*◌, ◌<◌, ◌≤◌, Bool, true, false, cond, not, ◌&&◌, eqb, ◌⊎◌, List, [], ◌∷◌, length, get_or, Some, None, Option, sym, refl, ap, ◌∙◌, inl, inr, mul_comm, mul-le-mul_left, mul-add, arith}
use mathlib.Core.Path.{fun_ext}
use native.Mathlib.Nat.{mul-sub}
use Rattle.std.specs.List.{AllByRecursion as All}
use Rattle.std.proofs.ByRecursion.{All-from_get_or, All-weaker}
use Rattle.std.proofs.lemmas.Bool.{and_parts, cases_Bool, both_ways}
use Rattle.matching.specs.Mates.{mate, is_none}
use Rattle.matching.specs.Pairings.{Pairing, ends, shown_of}
use Rattle.matching.specs.Rows.{row, AllSound}
use Rattle.matching.specs.Sums.{total, count, below}
use Rattle.matching.specs.State.{State, Blossom, no_blossom, k_in, first_of, second_of, weight, price_at, blossom_at, inside, spans, around, yz, paired_in, pairing_in, loose_in}
use Rattle.matching.specs.Kept.{Kept, met, bare}
use Rattle.matching.specs.Theorems.{weight_of, WeakDuality, OwnPairing, OwnSize}
use Rattle.matching.proofs.Sums.{total_nil, total_cons, total_add, total_mul, total_le, total_swap, total_below_same, total_below_le, total_below_const, total_zero, total_const, scale}
use Rattle.matching.proofs.Counts.{different_total, different_from, times, once_below}
use Rattle.matching.proofs.Pairs.{ends_below, length_ends}
use Rattle.matching.proofs.Mates.{at_mate, mate_total, taken_known, taken_paired}

-- 1 for true
abbrev one : Bool → ℕ
one b = cond b 1 0

module _ (s : State) where
  total_ends : (f : ℕ → ℕ) (es : List ℕ) → total f (ends s.rows es) ≡ total (λ e. f (first_of s e) + f (second_of s e)) es
  total_ends f [] = total_nil f ∙ sym (total_nil (λ e. f (first_of s e) + f (second_of s e)))
  total_ends f (e ∷ es) =
      omega (
        arith,
        total_cons f (first_of s e) (second_of s e ∷ ends s.rows es),
        total_cons f (second_of s e) (ends s.rows es),
        total_cons (λ e. f (first_of s e) + f (second_of s e)) e es,
        total_ends f es,
      )

  -- what a list of offers costs: the prices of its members, and of each blossom for each offer that it spans
  at_ends : ℕ → ℕ
  at_ends e = price_at s (first_of s e) + price_at s (second_of s e)

  yz_split : (es : List ℕ) → total (yz s) es ≡ total at_ends es + total (λ b. b.price * count (spans s b) es) s.blossoms
  unfolding at_ends
  yz_split es =
      total_add at_ends (around s) es
      ∙ ap (λ k. total at_ends es + k)
      (total_swap (λ e b. cond (spans s b e) b.price 0) es s.blossoms
      ∙ ap (λ g. total g s.blossoms) (fun_ext (λ b. ap (λ g. total g es) (fun_ext (λ e. scale b.price (spans s b e))) ∙ total_mul b.price (λ e. one (spans s b e)) es)))

  pub weight_shown : (es : List ℕ) → weight_of s es ≡ 2 * k_in s * shown_of s.rows es
  weight_shown es = total_mul (2 * k_in s) (λ e. (row s.rows e).shown) es

-- any pairing
module _ (s : State) (sound : AllSound s.members s.top s.rows) (es : List ℕ) (p : Pairing s.rows es) where
  -- its members are different, and each that it leaves out costs at least the floor
  pair_prices : ((v : ℕ) → v < s.members → s.floor ≤ price_at s v) → total (at_ends s) es + s.floor * s.members ≤ total (price_at s) (below s.members) + s.floor * (2 * length es)
  unfolding at_ends
  pair_prices least =
      omega (
        arith,
        total_ends s (price_at s) es,
        ap (λ k. s.floor * k) (length_ends s.rows es ∙ mul_comm (length es) 2),
        different_total (price_at s) s.floor s.members (ends s.rows es) (ends_below s.members s.top s.rows sound es p.offers) p.apart least,
      )

  -- a blossom spans at most half as many of its offers as it holds members
  pub pair_spans : (b : Blossom) → 2 * count (spans s b) es ≤ count (inside b) (below s.members)
  pair_spans b =
      omega (
        arith,
        total_mul 2 (λ e. one (spans s b e)) es,
        total_le (λ e. 2 * one (spans s b e)) (λ e. one (inside b (first_of s e)) + one (inside b (second_of s e))) es (each es),
        total_ends s (λ v. one (inside b v)) es,
        different_total (λ v. one (inside b v)) 0 s.members (ends s.rows es) (ends_below s.members s.top s.rows sound es p.offers) p.apart (λ v h. omega arith),
      )
    where
      both : (x y : Bool) → 2 * one (x && y) ≤ one x + one y
      both true true = omega arith
      both true false = omega arith
      both false true = omega arith
      both false false = omega arith

      each : (xs : List ℕ) → All (λ e. 2 * one (spans s b e) ≤ one (inside b (first_of s e)) + one (inside b (second_of s e))) xs
      each [] = tt
      each (e ∷ xs) = (both (inside b (first_of s e)) (inside b (second_of s e)), each xs)

-- the state's own pairing
module _ (s : State) (kept : Kept s) where
  own_total : (g : ℕ → ℕ → ℕ) → total (λ v. at_mate (g v) (mate s.mates v)) (below s.members) ≡ total (λ e. g (first_of s e) e + g (second_of s e) e) (pairing_in s)
  own_total g = mate_total s kept.rows kept.mates g

  -- every member is loose, at the floor, or named by one paired offer
  own_prices : total (at_ends s) (pairing_in s) + s.floor * loose_in s ≡ total (price_at s) (below s.members)
  unfolding at_ends
  own_prices =
      omega (
        arith,
        own_total (λ v e. price_at s v),
        total_mul s.floor (λ v. one (is_none (mate s.mates v))) (below s.members),
        total_add (λ v. at_mate (λ e. price_at s v) (mate s.mates v)) (λ v. s.floor * one (is_none (mate s.mates v))) (below s.members),
        total_below_same (λ v. at_mate (λ e. price_at s v) (mate s.mates v) + s.floor * one (is_none (mate s.mates v))) (price_at s) s.members (λ v h. go v h (mate s.mates v) refl),
      )
    where
      go : (v : ℕ) → v < s.members → (o : Option ℕ) → mate s.mates v ≡ o → at_mate (λ e. price_at s v) o + s.floor * one (is_none o) ≡ price_at s v
      go v h None e = omega (arith, kept.floored.loose v h e)
      go v h (Some d) e = omega arith

  -- a blossom with one bare member spans a paired offer for each two of the others
  pub own_spans : (b : Blossom) → bare s b ≡ 1 → count (inside b) (below s.members) ≡ 2 * count (spans s b) (pairing_in s) + 1
  own_spans b only =
      omega (
        arith,
        only,
        own_total (λ v e. one (spans s b e)),
        total_add (λ e. one (spans s b e)) (λ e. one (spans s b e)) (pairing_in s),
        total_add (λ v. one (inside b v && not (met s b (mate s.mates v)))) (λ v. at_mate (λ e. one (spans s b e)) (mate s.mates v)) (below s.members),
        total_below_same (λ v. one (inside b v)) (λ v. one (inside b v && not (met s b (mate s.mates v))) + at_mate (λ e. one (spans s b e)) (mate s.mates v)) s.members
            (λ v h. go v h (mate s.mates v) refl),
      )
    where
      end_inside : (v e : ℕ) → (v ≡ first_of s e) ⊎ (v ≡ second_of s e) → spans s b e ≡ true → inside b v ≡ true
      end_inside v e (inl w) h = ap (inside b) w ∙ (and_parts (inside b (first_of s e)) (inside b (second_of s e)) h).0
      end_inside v e (inr w) h = ap (inside b) w ∙ (and_parts (inside b (first_of s e)) (inside b (second_of s e)) h).1

      split : (x y : Bool) → (y ≡ true → x ≡ true) → one x ≡ one (x && not y) + one y
      split true true h = omega arith
      split true false h = omega arith
      split false true h = absurd (both_ways false refl (h refl))
      split false false h = omega arith

      go : (v : ℕ) → v < s.members → (o : Option ℕ) → mate s.mates v ≡ o → one (inside b v) ≡ one (inside b v && not (met s b o)) + at_mate (λ e. one (spans s b e)) o
      go v h None e = split (inside b v) false (λ t. absurd (both_ways false refl t))
      go v h (Some d) e = split (inside b v) (spans s b d) (end_inside v d (kept.mates v d h e).names)

  module _ (es : List ℕ) (p : Pairing s.rows es) where
    spans_most : (b : Blossom) → (b.used ≡ true → bare s b ≡ 1) → count (spans s b) es ≤ count (spans s b) (pairing_in s)
    spans_most b only = elim (cases_Bool b.used) [
      | inl u ↦ omega (arith, pair_spans s kept.rows es p b, own_spans b (only u))
      | inr u ↦ omega (
        arith,
        pair_spans s kept.rows es p b,
        total_zero (below s.members),
        total_below_same (λ v. one (inside b v)) (λ v. 0) s.members (λ v h. ap (λ t. one (t && get_or b.holds v false)) u),
      )
    ]

    costs : total (yz s) es + s.floor * s.members ≤ total (yz s) (pairing_in s) + s.floor * loose_in s + s.floor * (2 * length es)
    costs =
        omega (
          arith,
          yz_split s es,
          yz_split s (pairing_in s),
          pair_prices s kept.rows es p kept.floored.above,
          own_prices,
          total_le (λ b. b.price * count (spans s b) es) (λ b. b.price * count (spans s b) (pairing_in s)) s.blossoms
              (All-from_get_or (λ b. b.price * count (spans s b) es ≤ b.price * count (spans s b) (pairing_in s)) s.blossoms no_blossom
              (λ i h. mul-le-mul_left (blossom_at s i).price (spans_most (blossom_at s i) (kept.one_bare i)))),
        )

    pub balance : weight_of s es + s.floor * s.members ≤ weight_of s (pairing_in s) + 2 * length es + s.floor * loose_in s + s.floor * (2 * length es)
    balance =
        omega (
          arith,
          costs,
          total_const 2 es,
          total_add (yz s) (λ e. 2) es,
          total_le (weight s) (λ e. yz s e + 2) es (All-weaker (λ e. e < length s.rows) (λ e. weight s e ≤ yz s e + 2) kept.fair.all es p.offers),
          total_le (yz s) (weight s) (pairing_in s) (tight (pairing_in s) (taken_known s) (taken_paired s)),
        )
      where
        tight : (xs : List ℕ) → All (λ e. e < length s.rows) xs → All (λ e. paired_in s e ≡ true) xs → All (λ e. yz s e ≤ weight s e) xs
        tight [] g h = tt
        tight (e ∷ xs) g h = (kept.fair.paired e g.0 h.0, tight xs g.1 h.1)

pub weak_duality : WeakDuality
weak_duality s es kept p =
    omega (arith, balance s kept es p, mul-sub s.floor (loose_in s + 2 * length es) s.members, mul-add s.floor (loose_in s) (2 * length es))

pub own_pairing : OwnPairing
own_pairing s kept = record { offers = taken_known s; apart = different_from (ends s.rows (pairing_in s)) single }
  where
    less : (v u : ℕ) (o : Option ℕ) → at_mate (λ e. one (eqb u v)) o ≤ one (eqb u v)
    less v u None = omega arith
    less v u (Some e) = omega arith

    single : (v : ℕ) → times v (ends s.rows (pairing_in s)) ≤ 1
    single v =
        unfold times in
        omega (
          arith,
          total_ends s (λ u. one (eqb u v)) (pairing_in s),
          own_total s kept (λ u e. one (eqb u v)),
          once_below v s.members,
          total_below_le (λ u. at_mate (λ e. one (eqb u v)) (mate s.mates u)) (λ u. one (eqb u v)) s.members (λ u h. less v u (mate s.mates u)),
        )

pub own_size : OwnSize
own_size s kept =
    omega (
      arith,
      own_total s kept (λ v e. 1),
      total_const 2 (pairing_in s),
      total_below_const 1 s.members,
      total_add (λ v. at_mate (λ e. 1) (mate s.mates v)) (λ v. one (is_none (mate s.mates v))) (below s.members),
      total_below_same (λ v. at_mate (λ e. 1) (mate s.mates v) + one (is_none (mate s.mates v))) (λ v. 1) s.members (λ v h. go (mate s.mates v)),
    )
  where
    go : (o : Option ℕ) → at_mate (λ e. 1) o + one (is_none o) ≡ 1
    go None = omega arith
    go (Some e) = omega arith
