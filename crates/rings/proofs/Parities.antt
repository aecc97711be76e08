-- In the ring of a shrink all prices have one parity. Assumes nothing.
use Rattle.std.proofs.Common.{◌≡◌, ℕ, zero, suc, ◌+◌, ◌%◌, ◌<◌, Bool, true, false, cond, List, [], length, get_or, sym, ap, ◌∙◌, subst, ⊎_elim, mul_assoc, arith}
use Rattle.matching.specs.Rows.{row}
use Rattle.matching.specs.State.{State, k_in, first_of, second_of, price_at, root_at, blossom_at, inside, node_holds, around, yz, weight}
use Rattle.matching.specs.Kept.{Kept, part_at}
use Rattle.matching.proofs.Nodes.{holds_cases}
use Rattle.steps.proofs.Offers.{outer_offers_move}
use Rattle.paths.proofs.Walks.{Step}
use Rattle.rings.proofs.Closed.{Closed, turn_at, step_at, new_ring, part_first, inside_member}
use Rattle.rings.proofs.Bares.{joint, place_in}

-- the two ends of a step have one parity: between two roots no blossom adds to yz, and the weight is even
ends_even : (s : State) → Kept s → (turn : Bool) (r e : ℕ) → Step s turn r e → price_at s (first_of s e) % 2 ≡ price_at s (second_of s e) % 2
ends_even s kept turn r e st =
    let none = (outer_offers_move s [] e kept st.known st.two_roots).free in
    go turn st.tight none
  where
    go : (b : Bool) → yz s e + cond b 0 2 ≡ weight s e → around s e ≡ 0 → price_at s (first_of s e) % 2 ≡ price_at s (second_of s e) % 2
    go true tight none = omega (arith, tight, none, mul_assoc 2 (k_in s) (row s.rows e).shown)
    go false tight none = omega (arith, tight, none, mul_assoc 2 (k_in s) (row s.rows e).shown)

-- in one root all prices have one parity
root_even : (s : State) → Kept s → (v w : ℕ) → v < s.members → w < s.members → root_at s v ≡ root_at s w → price_at s v % 2 ≡ price_at s w % 2
root_even s kept v w lv lw e =
    let hv = kept.nested.root_holds v lv in
    let hw = subst (λ (p : ℕ). node_holds s p w ≡ true) (sym e) (kept.nested.root_holds w lw) in
    ⊎_elim
    (λ a. ⊎_elim
    (λ b. ap (λ (u : ℕ). price_at s u % 2) (sym a ∙ b))
    (λ b. absurd (omega (arith, a, b.1, kept.sized.few)))
    (holds_cases s (root_at s v) w hw))
    (λ a. ⊎_elim
    (λ b. absurd (omega (arith, b, a.1, kept.sized.few)))
    (λ b.
    let same : b.0 ≡ a.0 = omega (arith, a.1, b.1) in
    kept.one_parity a.0 v w a.2 (subst (λ (i : ℕ). inside (blossom_at s i) w ≡ true) same b.2))
    (holds_cases s (root_at s v) w hw))
    (holds_cases s (root_at s v) v hv)

module _ (s : State) (kept : Kept s) (r : ℕ) (es : List ℕ) (c : Closed s r es) where
  -- from part to part along the ring
  along : (j v w : ℕ) → j < length es → v < s.members → w < s.members →
      root_at s v ≡ part_at (new_ring s r es) j → root_at s w ≡ part_at (new_ring s r es) 0 → price_at s v % 2 ≡ price_at s w % 2
  along zero v w l lv lw hv hw = root_even s kept v w lv lw (hv ∙ sym hw)
  along (suc j) v w l lv lw hv hw =
      let e = get_or es j 0 in
      let here : j < length es = omega arith in
      let st = step_at s false r es j c.steps here in
      let first_in = (kept.rows e st.known).first_in in
      let second_in = (kept.rows e st.known).second_in in
      let both = ends_even s kept (turn_at _ j) _ e st in
      ⊎_elim
      (λ b.
      root_even s kept v (second_of s e) lv second_in (hv ∙ b.1) ∙ sym both
      ∙ along j (first_of s e) w here first_in lw (sym b.0) hw)
      (λ b.
      root_even s kept v (first_of s e) lv first_in (hv ∙ b.1) ∙ both
      ∙ along j (second_of s e) w here second_in lw (sym b.0) hw)
      (joint s kept r es c j l)

  pub ring_even : (v w : ℕ) → inside (new_ring s r es) v ≡ true → inside (new_ring s r es) w ≡ true → price_at s v % 2 ≡ price_at s w % 2
  ring_even v w hv hw =
      let u = c.root.member in
      let lu = c.root.below in
      let first : root_at s u ≡ part_at (new_ring s r es) 0 = c.root.is ∙ sym (part_first s kept r es c) in
      let at : ((x : ℕ) → inside (new_ring s r es) x ≡ true → price_at s x % 2 ≡ price_at s u % 2) = λ x h.
      let p = place_in s kept r es c x h in
      along p.0 x u p.1 (inside_member s kept r es c x h) lu p.2 first in
      at v hv ∙ sym (at w hw)
