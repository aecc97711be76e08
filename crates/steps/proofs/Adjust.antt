-- An accepted adjust keeps what every state keeps. Assumes nothing.
use Rattle.std.proofs.Common.{◌≡◌, ℕ, ◌+◌, ◌-◌, ◌*◌, ◌%◌, ◌<◌, ◌≤◌, Bool, true, not, ◌&&◌, ◌||◌, eqb, leb, List, length, get_or, is_some, None, sym, refl, ap, ◌∙◌, subst, inl, inr, arith}
use Rattle.std.proofs.lemmas.Bool.{and_parts, and_from, or_cases, or_left, or_right, not-true, not-false, both_ways, eqb-false, leb-true}
use Rattle.faults.specs.Checks.{unless}
use Rattle.faults.specs.declared.layers.BoardFault.TheVariants.{NotBegun, FloorZero, OutOfBounds}
use Rattle.matching.specs.State.{State, Blossom, k_in, weight, price_at, blossom_at, InUse, inside, yz, paired_in}
use Rattle.matching.specs.Kept.{Kept, Floored, Fair, Nested, Small}
use Rattle.matching.proofs.Nesting.{one_root}
use Rattle.matching.proofs.Nodes.{inside_used, used_known}
use Rattle.steps.specs.Searches.{first_below}
use Rattle.steps.specs.Adjust.{label_at, label_fault, zero_fault, bound_fault, adjust_fault, root_label, moved, adjusted, among, joins_parts, in_bounds}
use Rattle.steps.specs.Theorems.{AdjustKeeps}
use Rattle.steps.proofs.Searches.{below_none, some_below_true, or_else_none, unless_none, none_mapped, some_not_none, among_at}
use Rattle.steps.proofs.Alike.{Alike, used_back, inside_same, nested_on, bare_same}
use Rattle.steps.proofs.Labels.{by_label, moved_parity, same_label, loose_out, price_read, blossom_read, prices_full, blossoms_full, adjusted_alike, in_priced}

-- the checks of an adjust, one by one
pub record Accepted (s : State) (ls : List ℕ) : Type 0 where
  pub begun : is_some s.begun ≡ true
  pub labels : label_fault s ls ≡ None
  pub floor : 1 ≤ s.floor
  pub zero : zero_fault s ls ≡ None
  pub bound : bound_fault s ls ≡ None

pub accepted : (s : State) (ls : List ℕ) → adjust_fault s ls ≡ None → Accepted s ls
accepted s ls h =
    let a = or_else_none (unless (is_some s.begun) NotBegun) _ h in
    let b = or_else_none (label_fault s ls) _ a.1 in
    let c = or_else_none (unless (not (eqb s.floor 0)) FloorZero) _ b.1 in
    let d = or_else_none (zero_fault s ls) (bound_fault s ls) c.1 in
    let high = eqb-false s.floor 0 (not-true (eqb s.floor 0) (unless_none (not (eqb s.floor 0)) FloorZero c.0)) in
    record {
      begun = unless_none (is_some s.begun) NotBegun a.0;
      labels = b.0;
      floor = omega (arith, high);
      zero = d.0;
      bound = d.1;
    }

module _ (s : State) (ls : List ℕ) (kept : Kept s) (yes : Accepted s ls) where
  alike : Alike s (adjusted s ls)
  alike = adjusted_alike s ls kept.sized.blossoms

  used : (i : ℕ) → InUse (adjusted s ls) i → InUse s i
  used i u = used_back s (adjusted s ls) alike i u

  place_low : (i : ℕ) → InUse (adjusted s ls) i → i < 100
  place_low i u = omega (arith, used_known s i (used i u), kept.sized.blossoms)

  price_is : (v : ℕ) → v < s.members → price_at (adjusted s ls) v ≡ moved (label_at ls v) (price_at s v)
  price_is v h = price_read s ls v (let few = kept.sized.few in omega arith)

  nested : Nested (adjusted s ls)
  nested = nested_on s (adjusted s ls) alike kept.nested

  floored : Floored (adjusted s ls)
  floored = record {
    above = λ v h.
        let y = kept.floored.above v h in
        let to : s.floor - 1 ≤ moved (label_at ls v) (price_at s v) =
        by_label (label_at ls v) (price_at s v - 1) (price_at s v + 1) (price_at s v) (λ x. s.floor - 1 ≤ x) (λ e. omega arith) (λ e. omega arith) (omega arith) in
        omega (arith, to, price_is v h);
    loose = λ v h m.
        price_is v h ∙ ap (λ l. moved l (price_at s v)) (loose_out s ls yes.labels v h m) ∙ ap (λ y. y - 1) (kept.floored.loose v h m);
  }

  bounds : (e : ℕ) → e < length s.rows → in_bounds (adjusted s ls) e ≡ true
  bounds e h =
      let test : ℕ → Bool = λ e. not (in_bounds (adjusted s ls) e) in
      not-false (in_bounds (adjusted s ls) e) (below_none test (length s.rows) (none_mapped OutOfBounds (first_below test (length s.rows)) yes.bound) e h)

  at_most : (e : ℕ) → e < length s.rows → (paired_in (adjusted s ls) e || joins_parts (adjusted s ls) e) ≡ true → yz (adjusted s ls) e ≤ weight (adjusted s ls) e
  at_most e h b =
      let tight = paired_in (adjusted s ls) e || joins_parts (adjusted s ls) e in
      let low = leb (yz (adjusted s ls) e) (weight (adjusted s ls) e) in
      let second = (and_parts (leb (weight (adjusted s ls) e) (yz (adjusted s ls) e + 2)) (not tight || low) (bounds e h)).1 in
      elim (or_cases (not tight) low second) [
        | inl f ↦ absurd (both_ways tight (not-true tight f) b)
        | inr f ↦ leb-true (yz (adjusted s ls) e) (weight (adjusted s ls) e) f
      ]

  joins : (i j : ℕ) → InUse (adjusted s ls) i → j < length (blossom_at (adjusted s ls) i).joins → joins_parts (adjusted s ls) (get_or (blossom_at (adjusted s ls) i).joins j 0) ≡ true
  joins i j u h =
      let ds = (blossom_at (adjusted s ls) i).joins in
      some_below_true (λ k. (blossom_at (adjusted s ls) k).used && among (get_or ds j 0) (blossom_at (adjusted s ls) k).joins) 100 i (place_low i u)
      (and_from (blossom_at (adjusted s ls) i).used (among (get_or ds j 0) ds) u (among_at ds j h))

  fair : Fair (adjusted s ls)
  fair = record {
    all = λ e h.
        leb-true (weight (adjusted s ls) e) (yz (adjusted s ls) e + 2)
        (and_parts (leb (weight (adjusted s ls) e) (yz (adjusted s ls) e + 2)) (not (paired_in (adjusted s ls) e || joins_parts (adjusted s ls) e) || leb (yz (adjusted s ls) e) (weight (adjusted s ls) e)) (bounds e h)).0;
    paired = λ e h p. at_most e h (or_left (paired_in (adjusted s ls) e) (joins_parts (adjusted s ls) e) p);
    ring = λ i j u h.
        let e = get_or (blossom_at (adjusted s ls) i).joins j 0 in
        at_most e ((nested.rings i u).offers j h) (or_right (paired_in (adjusted s ls) e) (joins_parts (adjusted s ls) e) (joins i j u h));
  }

  -- what holds of a blossom's price, out, in and neither, holds of it after the step
  blossom_price : (P : ℕ → Type 0) (i : ℕ) → InUse (adjusted s ls) i →
      P ((blossom_at s i).price + 2) → (1 ≤ (blossom_at s i).price → P ((blossom_at s i).price - 2)) → P (blossom_at s i).price → P (blossom_at (adjusted s ls) i).price
  blossom_price P i u rises falls stays =
      let l = root_label s ls (200 + i) in
      let z = (blossom_at s i).price in
      subst P (sym (ap (λ (b : Blossom). b.price) (blossom_read s ls i (place_low i u))))
      (by_label l (z + 2) (z - 2) z P (λ e. rises) (λ e. falls (in_priced s ls yes.zero i (place_low i u) (used i u) e)) stays)

  even : (i : ℕ) → InUse (adjusted s ls) i → (blossom_at (adjusted s ls) i).price % 2 ≡ 0
  even i u =
      let was = kept.even i (used i u) in
      blossom_price (λ z. z % 2 ≡ 0) i u (omega arith) (λ h. omega arith) was

  one_parity : (i v w : ℕ) → inside (blossom_at (adjusted s ls) i) v ≡ true → inside (blossom_at (adjusted s ls) i) w ≡ true → price_at (adjusted s ls) v % 2 ≡ price_at (adjusted s ls) w % 2
  one_parity i v w hv hw =
      let a = sym (inside_same s (adjusted s ls) alike i v) ∙ hv in
      let b = sym (inside_same s (adjusted s ls) alike i w) ∙ hw in
      let ring = kept.nested.rings i (inside_used (blossom_at s i) v a) in
      let lv = ring.members v a in
      let lw = ring.members w b in
      let label = same_label s ls yes.labels w v lw lv (one_root s i v w kept a b) in
      let F = yes.floor in
      let yv = kept.floored.above v lv in
      let yw = kept.floored.above w lw in
      ap (λ y. y % 2) (price_is v lv ∙ ap (λ l. moved l (price_at s v)) label)
      ∙ moved_parity (label_at ls w) (price_at s v) (price_at s w) (omega arith) (omega arith) (kept.one_parity i v w a b)
      ∙ sym (ap (λ y. y % 2) (price_is w lw))

  small : Small (adjusted s ls)
  small = record {
    floor = let h = kept.small.floor in omega arith;
    members = λ v h.
        let F = yes.floor in
        let was = kept.small.members v h in
        let y = price_at s v in
        let to : moved (label_at ls v) y + (s.floor - 1) ≤ 4 * k_in s * s.top =
        by_label (label_at ls v) (y - 1) (y + 1) y (λ x. x + (s.floor - 1) ≤ 4 * k_in s * s.top) (λ e. omega arith) (λ e. omega arith) (omega arith) in
        omega (arith, to, price_is v h);
    blossoms = λ i u.
        let F = yes.floor in
        let was = kept.small.blossoms i (used i u) in
        blossom_price (λ z. z + 2 * (s.floor - 1) ≤ 4 * k_in s * s.top) i u (omega arith) (λ h. omega arith) (omega arith);
  }

  keeps : Kept (adjusted s ls)
  keeps = record {
    sized = record {
      few = kept.sized.few;
      short = kept.sized.short;
      low = kept.sized.low;
      prices = prices_full s ls;
      mates = kept.sized.mates;
      roots = kept.sized.roots;
      blossoms = blossoms_full s ls;
    };
    rows = kept.rows;
    unbegun = λ e. absurd (some_not_none s.begun yes.begun e);
    begun = λ k e. let b = kept.begun k e in record { positive = b.positive; small = b.small; top = b.top };
    mates = λ v e h m. let p = kept.mates v e h m in record { known = p.known; names = p.names; first = p.first; second = p.second };
    floored = floored;
    fair = fair;
    even = even;
    nested = nested;
    one_bare = λ i u. bare_same s (adjusted s ls) alike refl i ∙ kept.one_bare i (used i u);
    one_parity = one_parity;
    small = small;
  }

pub adjust_keeps : AdjustKeeps
adjust_keeps s ls kept none = keeps s ls kept (accepted s ls none)
