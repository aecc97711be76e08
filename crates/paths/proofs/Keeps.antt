-- An accepted augment keeps what every state keeps. Assumes nothing.
use Rattle.std.proofs.Common.{◌≡◌, ℕ, ◌+◌, ◌<◌, ◌≤◌, true, List, length, Option, sym, refl, ◌∙◌, subst, ⊎_elim, arith}
use Rattle.matching.specs.State.{State, weight, yz, paired_in, loose_in}
use Rattle.matching.specs.Kept.{Kept, Nested}
use Rattle.matching.proofs.Mates.{some_from, from_some}
use Rattle.steps.proofs.Alike.{nested_on}
use Rattle.steps.proofs.Searches.{some_not_none}
use Rattle.paths.specs.Bare.{by_twos}
use Rattle.paths.specs.Augment.{way, with_mates, Exchanged}
use Rattle.paths.specs.Theorems.{AugmentKeeps, TwoFewerLoose}
use Rattle.paths.proofs.Links.{length_joined}
use Rattle.paths.proofs.Rings.{rings_of}
use Rattle.paths.proofs.Law.{node_of, bare_one}
use Rattle.paths.proofs.Walks.{Accepted, accepted, turn_joins}
use Rattle.paths.proofs.Paths.{After, after_of, length_laid}

module _ (s : State) (r : ℕ) (es : List ℕ) (kept : Kept s) (a : Accepted s r es) (m : List (Option ℕ)) (laid : Exchanged s r es m) where
  after : After s (way s r es) m
  after = after_of s r es kept a m laid

  -- a paired offer was paired before, or is a ring offer, or was an unpaired one of the list
  paired : (e : ℕ) → e < length s.rows → paired_in (with_mates s m) e ≡ true → yz s e ≤ weight s e
  paired e lt h = ⊎_elim
      (λ was. kept.fair.paired e lt (from_some _ e was))
      (λ new. ⊎_elim
      (λ k. subst (λ (d : ℕ). yz s d ≤ weight s d) k.is (kept.fair.ring k.place k.at k.used k.there))
      (λ k.
      let tight = (turn_joins s _ r es k.0 a.steps k.1).1.tight in
      subst (λ (d : ℕ). yz s d ≤ weight s d) k.2 (omega (arith, tight)))
      new)
      (after.source _ e (some_from _ e h))

  nested : Nested (with_mates s m)
  nested = nested_on s (with_mates s m) (λ i. refl) kept.nested

  keeps : Kept (with_mates s m)
  keeps = record {
    sized = record {
      few = kept.sized.few;
      short = kept.sized.short;
      low = kept.sized.low;
      prices = kept.sized.prices;
      mates = length_laid laid ∙ length_joined s (by_twos (way s r es)) s.mates ∙ kept.sized.mates;
      roots = kept.sized.roots;
      blossoms = kept.sized.blossoms;
    };
    rows = kept.rows;
    unbegun = λ e. absurd (some_not_none s.begun a.begun e);
    begun = λ k e. let b = kept.begun k e in record { positive = b.positive; small = b.small; top = b.top };
    mates = after.mated;
    floored = record { above = kept.floored.above; loose = λ v lt h. kept.floored.loose v lt (after.still v h) };
    fair = record { all = kept.fair.all; paired = paired; ring = kept.fair.ring };
    even = kept.even;
    nested = nested;
    one_bare = λ i u. bare_one s m i (rings_of s kept) u (after.bare _ (node_of s i u));
    one_parity = kept.one_parity;
    small = record { floor = kept.small.floor; members = kept.small.members; blossoms = kept.small.blossoms };
  }

  fewer : loose_in s ≡ loose_in (with_mates s m) + 2
  fewer = after.fewer

pub augment_keeps : AugmentKeeps
augment_keeps s t r es kept none step =
    subst Kept (sym step.rest) (keeps s r es kept (accepted s r es kept none) t.mates step.mates)

pub two_fewer_loose : TwoFewerLoose
two_fewer_loose s t r es kept none step =
    subst (λ (u : State). loose_in s ≡ loose_in u + 2) (sym step.rest) (fewer s r es kept (accepted s r es kept none) t.mates step.mates)
