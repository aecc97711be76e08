-- Laying bare has one result. Assumes nothing.
use Rattle.std.proofs.Common.{◌≡◌, ℕ, ◌≤◌, true, List, [], ◌∷◌, ◌++◌, Option, sym, refl, ap, ◌∙◌, subst, arith}
use Rattle.matching.specs.State.{State, node_holds}
use Rattle.paths.specs.Bare.{Link, by_twos, joined, Task, piled, Laid}
use Rattle.paths.specs.Theorems.{OneResult}
use Rattle.paths.proofs.Lists.{here, there, cons_each, crowd, bit_of, bit_le1, crowd_in, in_right}
use Rattle.paths.proofs.Rings.{Rings, rings_of}
use Rattle.paths.proofs.Laid.{Ready, blossom_of, ready_round}

-- a list split at a part that holds u, where no other part does
pub record Same (b b' a a' : List Link) (x x' : Link) : Type 0 where
  pub before : b ≡ b'
  pub at : x ≡ x'
  pub after : a ≡ a'

pub one_place : (s : State) (u : ℕ) (b b' a a' : List Link) (x x' : Link) → b ++ (x ∷ a) ≡ b' ++ (x' ∷ a') →
    node_holds s x.part u ≡ true → node_holds s x'.part u ≡ true → crowd s (b ++ (x ∷ a)) u ≤ 1 → Same b b' a a' x x'
one_place s u [] [] a a' x x' e h h' most = record { before = refl; at = cc; after = cc }
one_place s u [] (y ∷ b') a a' x x' e h h' most =
    let rest : a ≡ b' ++ (x' ∷ a') = cc in
    absurd (omega (arith, bit_of _ h, most, ap (λ (zs : List Link). crowd s zs u) rest, crowd_in s {x = x'} {xs = b' ++ (x' ∷ a')} u (in_right b' here) h'))
one_place s u (y ∷ b) [] a a' x x' e h h' most =
    let first : y ≡ x' = cc in
    absurd (omega (arith, bit_of _ (subst (λ (z : Link). node_holds s z.part u ≡ true) (sym first) h'), most, crowd_in s {x = x} {xs = b ++ (x ∷ a)} u (in_right b here) h))
one_place s u (y ∷ b) (y' ∷ b') a a' x x' e h h' most =
    let first : y ≡ y' = cc in
    let rest : b ++ (x ∷ a) ≡ b' ++ (x' ∷ a') = cc in
    let r = one_place s u b b' a a' x x' rest h h' (omega arith) in
    let q = r.before in
    record { before = cc; at = r.at; after = r.after }

module _ (s : State) (nest : Rings s) where
  pub one_result_of : {ts : List Task} {m m₁ m₂ : List (Option ℕ)} → Ready s ts → Laid s ts m m₁ → Laid s ts m m₂ → m₁ ≡ m₂
  one_result_of ready Laid.none Laid.none = refl
  one_result_of ready (Laid.alone lt l) (Laid.alone lt' l') = one_result_of (λ t i. ready t (there i)) l l'
  one_result_of ready (Laid.alone lt l) (Laid.round before after x ge eq h l') = absurd (omega arith)
  one_result_of ready (Laid.round before after x ge eq h l) (Laid.alone lt l') = absurd (omega arith)
  one_result_of ready (Laid.round {t = t} {ts = ts} {m = m} {m' = m₁} before after x ge eq h l) (Laid.round {m' = m₂} before' after' x' ge' eq' h' l') =
      let b = blossom_of s t.node nest ge (ready t here).0 in
      let r = nest.rings t.node b in
      let most = bit_le1 (node_holds s t.node t.member) in
      let same = one_place s t.member before before' after after' x x' (sym eq ∙ eq') h h'
      (omega (arith, r.splits t.member, most, ap (λ (zs : List Link). crowd s zs t.member) eq)) in
      let q = same.before in
      let k = same.after in
      let turned : after' ++ before' ≡ after ++ before = cc in
      let other : Laid s (piled s (by_twos (after ++ before)) (record { node = x.part; member = t.member } ∷ ts)) (joined s (by_twos (after ++ before)) m) m₂ =
      subst (λ (y : Link). Laid s (piled s (by_twos (after ++ before)) (record { node = y.part; member = t.member } ∷ ts)) (joined s (by_twos (after ++ before)) m) m₂) (sym same.at)
      (subst (λ (zs : List Link). Laid s (piled s (by_twos zs) (record { node = x'.part; member = t.member } ∷ ts)) (joined s (by_twos zs) m) m₂) turned l') in
      one_result_of (ready_round s nest t ts before after x b eq h ready) l other

pub one_result : OneResult
one_result s p u m m₁ m₂ kept node held l l' =
    one_result_of s (rings_of s kept) (cons_each _ (record { node = p; member = u }) [] (node, held) (λ y i. elim i [ ])) l l'
