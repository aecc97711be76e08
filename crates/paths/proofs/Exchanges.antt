-- Along the list of an accepted augment paired and unpaired are exchanged, and it leaves one state. Assumes nothing.
use Rattle.std.proofs.Common.{◌≡◌, ℕ, ◌%◌, ◌<◌, false, not, List, length, get_or, Option, sym, ap, ◌∙◌, subst, ⊎_elim, arith}
use Rattle.std.proofs.lemmas.Bool.{both_ways, cases_Bool, cases_eq}
use Rattle.matching.specs.State.{State, first_of, second_of, root_at, paired_in}
use Rattle.matching.specs.Kept.{Kept}
use Rattle.matching.proofs.Mates.{some_from, from_some}
use Rattle.paths.specs.Augment.{way, with_mates, Exchanged}
use Rattle.paths.specs.Theorems.{Exchanges, OneAugment}
use Rattle.paths.proofs.Rings.{rings_of}
use Rattle.paths.proofs.Unique.{one_result_of}
use Rattle.paths.proofs.Walks.{Accepted, accepted, turn_joins, join_at, step_at_odd}
use Rattle.paths.proofs.Paths.{After, after_of}

module _ (s : State) (r : ℕ) (es : List ℕ) (kept : Kept s) (a : Accepted s r es) (m : List (Option ℕ)) (laid : Exchanged s r es m) (i : ℕ) (lt : i < length es) where
  after : After s (way s r es) m
  after = after_of s r es kept a m laid

  -- at even positions an unpaired offer becomes paired
  at_even : i % 2 ≡ 0 → paired_in (with_mates s m) (get_or es i 0) ≡ not (paired_in s (get_or es i 0))
  at_even h =
      let j = join_at s r es i lt h in
      let k = (turn_joins s false r es j.0 a.steps j.1).1 in
      subst (λ (e : ℕ). paired_in (with_mates s m) e ≡ not (paired_in s e)) j.2
      (from_some _ j.0.offer (after.joins j.0 j.1).0 ∙ sym (ap not k.turns))

  -- at odd positions a paired offer is no longer so: its first member's mate lies inside one root, or was unpaired
  at_odd : i % 2 ≡ 1 → paired_in (with_mates s m) (get_or es i 0) ≡ not (paired_in s (get_or es i 0))
  at_odd h =
      let e = get_or es i 0 in
      let k = step_at_odd s false r es i a.steps lt h in
      ⊎_elim
      (λ still.
      let p = after.on (first_of s e) k.2 in
      let by = p.by in
      let by' = some_from _ e still in
      let q : p.offer ≡ e = cc in
      ⊎_elim
      (λ ring. absurd (k.1.two_roots (subst (λ (d : ℕ). root_at s (first_of s d) ≡ root_at s (second_of s d)) q ring.one_root)))
      (λ j. absurd (both_ways (paired_in s e) (subst (λ (d : ℕ). paired_in s d ≡ false) (j.2 ∙ q) (turn_joins s false r es j.0 a.steps j.1).1.turns) k.1.turns))
      p.source)
      (λ gone. gone ∙ sym (ap not k.1.turns))
      (cases_Bool (paired_in (with_mates s m) e))

  exchanged : paired_in (with_mates s m) (get_or es i 0) ≡ not (paired_in s (get_or es i 0))
  exchanged = ⊎_elim at_even (λ d. at_odd (omega (arith, d))) (cases_eq (i % 2) 0)

pub exchanges : Exchanges
exchanges s t r es i kept none step lt =
    subst (λ (u : State). paired_in u (get_or es i 0) ≡ not (paired_in s (get_or es i 0))) (sym step.rest)
    (exchanged s r es kept (accepted s r es kept none) t.mates step.mates i lt)

pub one_augment : OneAugment
one_augment s t₁ t₂ r es kept none one two =
    let ready = (after_of s r es kept (accepted s r es kept none) t₁.mates one.mates).ready in
    one.rest ∙ ap (with_mates s) (one_result_of s (rings_of s kept) ready one.mates two.mates) ∙ sym two.rest
