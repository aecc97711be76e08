-- From the weights to the shown and the ground savings. Assumes nothing.
use Rattle.std.proofs.Common.{◌≡◌, ℕ, ◌+◌, ◌-◌, ◌*◌, ◌/◌, ◌<◌, ◌≤◌, Bool, true, false, cond, ltb, ◌≢◌, List, [], ◌∷◌, length, Some, None, filter, Option, refl, ap, ◌∙◌, subst, inl, inr, mul_assoc, mul_comm, mul-le-mul_left, arith}
use mathlib.Core.Path.{fun_ext}
use native.Mathlib.Nat.{mul-sub}
use Rattle.std.specs.List.{AllByRecursion as All}
use Rattle.std.proofs.lemmas.Nat.{le-div}
use Rattle.std.proofs.ByRecursion.{All-weaker, all_kept_by, kept_by_passes}
use Rattle.std.proofs.lemmas.Bool.{cases_lt, cases_Bool, ltb-true, ltb-false}
use Rattle.matching.specs.declared.row.Row.{Row}
use Rattle.matching.specs.Rows.{row}
use Rattle.matching.specs.Pairings.{Pairing, Different, ends, shown_of}
use Rattle.matching.specs.Slack.{reach}
use Rattle.matching.specs.Sums.{total}
use Rattle.matching.specs.State.{State, or_zero, k_in, pairing_in, loose_in, gap_in}
use Rattle.matching.specs.Kept.{Kept}
use Rattle.matching.specs.Theorems.{Gap, TrueSlack, Ratio}
use Rattle.matching.proofs.Sums.{total_le, total_const, total_kept}
use Rattle.matching.proofs.Pairs.{pairs_few, shown_most}
use Rattle.matching.proofs.Duality.{balance, weight_shown, own_pairing}

-- in ticks, with the room for as many offers as a pairing can have
module _ (s : State) (es : List ℕ) (kept : Kept s) (p : Pairing s.rows es) where
  abbrev few : length es ≤ s.members / 2
  few = pairs_few s.members s.top s.rows kept.rows es p

  abbrev ticks : 2 * k_in s * shown_of s.rows es ≤ 2 * k_in s * shown_of s.rows (pairing_in s) + 2 * length es + s.floor * loose_in s
  ticks =
      omega (
        arith,
        balance s kept es p,
        weight_shown s es,
        weight_shown s (pairing_in s),
        few,
        mul-le-mul_left s.floor (let h : 2 * length es ≤ s.members = omega (arith, few) in h),
      )

-- a lead of so many ticks, in shown millimetres
lead_shown : (k mine theirs room : ℕ) → 1 ≤ k → 2 * k * theirs ≤ 2 * k * mine + room → theirs ≤ mine + room / (2 * k)
lead_shown k mine theirs room big h = elim (cases_lt mine theirs) [
  | inl l ↦ omega (arith, le-div (theirs - mine) room (2 * k) (omega arith) (omega (arith, mul_comm (theirs - mine) (2 * k), mul-sub (2 * k) theirs mine)))
  | inr l ↦ omega arith
]

pub gap : Gap
gap s es kept p = go s.begun refl
  where
    most : shown_of s.rows es ≤ s.members / 2 * s.top
    most = shown_most s.members s.top s.rows kept.rows es p

    go : (o : Option ℕ) → s.begun ≡ o → shown_of s.rows es ≤ shown_of s.rows (pairing_in s) + reach o s.members s.top s.floor (loose_in s)
    go None e = omega (arith, most)
    go (Some k) e =
        let is : k_in s ≡ k = ap or_zero e in
        let t = subst (λ x. 2 * x * shown_of s.rows es ≤ 2 * x * shown_of s.rows (pairing_in s) + 2 * length es + s.floor * loose_in s) is (ticks s es kept p) in
        omega (arith, most, lead_shown k (shown_of s.rows (pairing_in s)) (shown_of s.rows es) (2 * (s.members / 2) + s.floor * loose_in s) (kept.begun k e).positive (omega (arith, t, few s es kept p)))

pub true_slack : TrueSlack
true_slack s carry es kept carries p = carries (pairing_in s) es (gap_in s) (own_pairing s kept) p (gap s es kept p)

-- some offers of a pairing are a pairing
module _ (rs : List Row) (q : ℕ → Bool) where
  all_fewer : (P : ℕ → Type 0) (es : List ℕ) → All P (ends rs es) → All P (ends rs (filter q es))
  all_fewer P [] h = tt
  all_fewer P (e ∷ es) h = go (all_fewer P es h.1.1) (q e)
    where
      go : All P (ends rs (filter q es)) → (b : Bool) → All P (ends rs (cond b (e ∷ filter q es) (filter q es)))
      go rest true = (h.0, (h.1.0, rest))
      go rest false = rest

  different_fewer : (es : List ℕ) → Different (ends rs es) → Different (ends rs (filter q es))
  different_fewer [] h = tt
  different_fewer (e ∷ es) h = go (different_fewer es h.1.1) (q e)
    where
      go : Different (ends rs (filter q es)) → (b : Bool) → Different (ends rs (cond b (e ∷ filter q es) (filter q es)))
      go rest true = ((h.0.0, all_fewer (λ y. (row rs e).first ≢ y) es h.0.1), (all_fewer (λ y. (row rs e).second ≢ y) es h.1.0, rest))
      go rest false = rest

  fewer : (es : List ℕ) → Pairing rs es → Pairing rs (filter q es)
  fewer es p = record { offers = all_kept_by q (λ e. e < length rs) es p.offers; apart = different_fewer es p.apart }

-- offers that show nothing are left out, and then there are no more offers than shown millimetres
pub ratio : Ratio
ratio s es kept none p =
    omega (
      arith,
      ticks s some kept (fewer s.rows shows es p),
      none,
      enough,
      mul_comm (k_in s - 1) (shown_of s.rows es),
      mul-sub (shown_of s.rows es) (k_in s) 1,
      mul_comm (shown_of s.rows es) (k_in s),
      mul_assoc 2 (k_in s) (shown_of s.rows es),
      mul_assoc 2 (k_in s) (shown_of s.rows (pairing_in s)),
      same,
      ap (λ x. 2 * k_in s * x) same,
    )
  where
    saving : ℕ → ℕ
    saving e = (row s.rows e).shown

    shows : ℕ → Bool
    shows e = ltb 0 (saving e)

    some : List ℕ
    some = filter shows es

    whole : (x : ℕ) → cond (ltb 0 x) x 0 ≡ x
    whole x = elim (cases_Bool (ltb 0 x)) [
      | inl h ↦ ap (λ b. cond b x 0) h
      | inr h ↦ ap (λ b. cond b x 0) h ∙ omega (arith, ltb-false 0 x h)
    ]

    same : shown_of s.rows some ≡ shown_of s.rows es
    same = total_kept saving shows es ∙ ap (λ g. total g es) (fun_ext (λ e. whole (saving e)))

    enough : length some ≤ shown_of s.rows some
    enough =
        omega (
          arith,
          total_const 1 some,
          total_le (λ e. 1) saving some
              (All-weaker (λ e. shows e ≡ true) (λ e. 1 ≤ saving e) (λ e h. omega (arith, ltb-true 0 (saving e) h)) some (kept_by_passes shows es)),
        )
