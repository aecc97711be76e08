-- The paired offers, counted by their members: each member that is not loose is named by exactly one. Assumes nothing.
use Rattle.std.proofs.Common.{◌≡◌, ℕ, ◌+◌, ◌<◌, Bool, true, false, cond, eqb, length, Some, None, Option, sym, refl, ap, ◌∙◌, subst, inl, inr, arith}
use Rattle.std.specs.List.{AllByRecursion as All}
use Rattle.std.proofs.ByRecursion.{all_kept_by, kept_by_passes}
use Rattle.std.proofs.lemmas.Bool.{eqb-true, eqb-false, eq-eqb, cases_Bool, both_ways}
use Rattle.matching.specs.Rows.{AllSound}
use Rattle.matching.specs.Mates.{is_some, mate, taken}
use Rattle.matching.specs.Sums.{total, below}
use Rattle.matching.specs.State.{State, first_of, second_of, paired_in, pairing_in}
use Rattle.matching.specs.Kept.{Mated}
use Rattle.matching.proofs.Sums.{total_add, total_swap, total_zero, total_kept, total_below_same, all_below, point}

-- what g says of the offer of a mate, and 0 of none
abbrev pub at_mate : (ℕ → ℕ) → Option ℕ → ℕ
at_mate g None = 0
at_mate g (Some e) = g e

pub some_from : (o : Option ℕ) (e : ℕ) → is_some o e ≡ true → o ≡ Some e
some_from None e h = absurd (both_ways false refl h)
some_from (Some d) e h = ap Some (eqb-true d e h)

pub from_some : (o : Option ℕ) (e : ℕ) → o ≡ Some e → is_some o e ≡ true
from_some o e h = ap (λ o. is_some o e) h ∙ eq-eqb e e refl

module _ (s : State) (sound : AllSound s.members s.top s.rows) (mates : (v e : ℕ) → v < s.members → mate s.mates v ≡ Some e → Mated s v e) where
  -- one member: its offer, among all offers
  by_offers : (g : ℕ → ℕ) (o : Option ℕ) → ((e : ℕ) → o ≡ Some e → e < length s.rows) → at_mate g o ≡ total (λ e. cond (is_some o e) (g e) 0) (below (length s.rows))
  by_offers g None h = sym (total_zero (below (length s.rows)))
  by_offers g (Some d) h = sym (point g d (length s.rows) (h d refl))

  -- one offer that is paired: its two ends
  ends_paired : (g : ℕ → ℕ) (e : ℕ) → e < length s.rows → mate s.mates (first_of s e) ≡ Some e → total (λ v. cond (is_some (mate s.mates v) e) (g v) 0) (below s.members) ≡ g (first_of s e) + g (second_of s e)
  ends_paired g e h p =
      total_below_same (λ v. cond (is_some (mate s.mates v) e) (g v) 0) (λ v. cond (eqb (first_of s e) v) (g v) 0 + cond (eqb (second_of s e) v) (g v) 0) s.members each
      ∙ total_add (λ v. cond (eqb (first_of s e) v) (g v) 0) (λ v. cond (eqb (second_of s e) v) (g v) 0) (below s.members)
      ∙ omega (arith, point g (first_of s e) s.members (sound e h).first_in, point g (second_of s e) s.members (sound e h).second_in)
    where
      q : mate s.mates (second_of s e) ≡ Some e
      q = (mates (first_of s e) e (sound e h).first_in p).second

      go : (v : ℕ) (x y z : Bool) → x ≡ is_some (mate s.mates v) e → y ≡ eqb (first_of s e) v → z ≡ eqb (second_of s e) v → v < s.members → cond x (g v) 0 ≡ cond y (g v) 0 + cond z (g v) 0
      go v x true true ex ey ez lt = absurd ((sound e h).differ (eqb-true (first_of s e) v (sym ey) ∙ sym (eqb-true (second_of s e) v (sym ez))))
      go v true true false ex ey ez lt = omega arith
      go v true false true ex ey ez lt = omega arith
      go v true false false ex ey ez lt =
          elim (mates v e lt (some_from (mate s.mates v) e (sym ex))).names [
            | inl w ↦ absurd (eqb-false (first_of s e) v (sym ey) (sym w))
            | inr w ↦ absurd (eqb-false (second_of s e) v (sym ez) (sym w))
          ]
      go v false true false ex ey ez lt = absurd (both_ways false refl (ex ∙ from_some (mate s.mates v) e (subst (λ u. mate s.mates u ≡ Some e) (eqb-true (first_of s e) v (sym ey)) p)))
      go v false false true ex ey ez lt = absurd (both_ways false refl (ex ∙ from_some (mate s.mates v) e (subst (λ u. mate s.mates u ≡ Some e) (eqb-true (second_of s e) v (sym ez)) q)))
      go v false false false ex ey ez lt = omega arith

      each : (v : ℕ) → v < s.members → cond (is_some (mate s.mates v) e) (g v) 0 ≡ cond (eqb (first_of s e) v) (g v) 0 + cond (eqb (second_of s e) v) (g v) 0
      each v lt = go v (is_some (mate s.mates v) e) (eqb (first_of s e) v) (eqb (second_of s e) v) refl refl refl lt

  -- one offer that is not paired: no member
  ends_unpaired : (g : ℕ → ℕ) (e : ℕ) → is_some (mate s.mates (first_of s e)) e ≡ false → total (λ v. cond (is_some (mate s.mates v) e) (g v) 0) (below s.members) ≡ 0
  ends_unpaired g e p = total_below_same (λ v. cond (is_some (mate s.mates v) e) (g v) 0) (λ v. 0) s.members each ∙ total_zero (below s.members)
    where
      go : (v : ℕ) (x : Bool) → x ≡ is_some (mate s.mates v) e → v < s.members → cond x (g v) 0 ≡ 0
      go v true ex lt = absurd (both_ways (is_some (mate s.mates (first_of s e)) e) p (from_some (mate s.mates (first_of s e)) e (mates v e lt (some_from (mate s.mates v) e (sym ex))).first))
      go v false ex lt = refl

      each : (v : ℕ) → v < s.members → cond (is_some (mate s.mates v) e) (g v) 0 ≡ 0
      each v lt = go v (is_some (mate s.mates v) e) refl lt

  by_ends : (g : ℕ → ℕ) (e : ℕ) → e < length s.rows → total (λ v. cond (is_some (mate s.mates v) e) (g v) 0) (below s.members) ≡ cond (is_some (mate s.mates (first_of s e)) e) (g (first_of s e) + g (second_of s e)) 0
  by_ends g e h = elim (cases_Bool (is_some (mate s.mates (first_of s e)) e)) [
    | inl p ↦ ends_paired g e h (some_from (mate s.mates (first_of s e)) e p) ∙ sym (ap (λ t. cond t (g (first_of s e) + g (second_of s e)) 0) p)
    | inr p ↦ ends_unpaired g e p ∙ sym (ap (λ t. cond t (g (first_of s e) + g (second_of s e)) 0) p)
  ]

  pub mate_total : (g : ℕ → ℕ → ℕ) → total (λ v. at_mate (g v) (mate s.mates v)) (below s.members) ≡ total (λ e. g (first_of s e) e + g (second_of s e) e) (pairing_in s)
  unfolding taken
  mate_total g =
      total_below_same (λ v. at_mate (g v) (mate s.mates v)) (λ v. total (λ e. cond (is_some (mate s.mates v) e) (g v e) 0) (below (length s.rows))) s.members
      (λ v h. by_offers (g v) (mate s.mates v) (λ e p. (mates v e h p).known))
      ∙ total_swap (λ v e. cond (is_some (mate s.mates v) e) (g v e) 0) (below s.members) (below (length s.rows))
      ∙ total_below_same (λ e. total (λ v. cond (is_some (mate s.mates v) e) (g v e) 0) (below s.members)) (λ e. cond (is_some (mate s.mates (first_of s e)) e) (g (first_of s e) e + g (second_of s e) e) 0) (length s.rows)
      (λ e h. by_ends (λ v. g v e) e h)
      ∙ sym (total_kept (λ e. g (first_of s e) e + g (second_of s e) e) (paired_in s) (below (length s.rows)))

module _ (s : State) where
  pub taken_known : All (λ e. e < length s.rows) (pairing_in s)
  unfolding taken
  taken_known = all_kept_by (paired_in s) (λ e. e < length s.rows) (below (length s.rows)) (all_below (λ e. e < length s.rows) (length s.rows) (λ e h. h))

  pub taken_paired : All (λ e. paired_in s e ≡ true) (pairing_in s)
  unfolding taken
  taken_paired = kept_by_passes (paired_in s) (below (length s.rows))
