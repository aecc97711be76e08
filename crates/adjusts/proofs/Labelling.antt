-- The tables of labels, filled member by member. Assumes nothing.
use Rattle.std.proofs.Common.{◌≡◌, ℕ, zero, suc, ◌+◌, ◌-◌, ◌<◌, ◌≤◌, Bool, true, false, cond, not, ◌&&◌, ◌||◌, eqb, ltb, List, length, get_or, set, replicate, is_some, Some, None, Ok, Err, Option, sym, refl, ap, ◌∙◌, subst, inl, inr, arith, length-set}
use Rattle.std.specs.Option.{option_map}
use Rattle.std.proofs.lemmas.List.{get_or-set_same, get_or-set_other, get_or-replicate}
use Rattle.std.proofs.lemmas.Bool.{both_ways, cases_Bool, cases_eq, eq-eqb, ne_eqb, eqb-true, and_from, and_cases, and_left, and_right, or_parts, not-false, cond-true, cond-false}
use Rattle.faults.specs.Checks.{judged, or_else, unless}
use Rattle.faults.specs.declared.layers.BoardFault.TheVariants.{BadLabels}
use Rattle.matching.specs.State.{State, root_at}
use Rattle.matching.specs.Mates.{mate, is_none}
use Rattle.steps.specs.Searches.{first_from, first_below, some_below}
use Rattle.steps.specs.Adjust.{label_at, label_of, offends, label_fault}
use Rattle.steps.proofs.Searches.{below_none, cases_below, some_below_true, some_below_false}
use Rattle.adjusts.specs.Labels.{RootLabels, wrong, Mislabelled}

-- searches, step by step
module _ (p : ℕ → Bool) where
  first_found : (i n v : ℕ) → i ≤ v → v < i + n → p v ≡ true → ((u : ℕ) → u < v → p u ≡ false) → first_from p i n ≡ Some v
  first_found i zero v a b hit miss = absurd (omega arith)
  first_found i (suc n) v a b hit miss = elim (cases_eq i v) [
    | inl e ↦ cond-true (p i) (Some i) (first_from p (i + 1) n) (ap p e ∙ hit) ∙ ap Some e
    | inr d ↦ cond-false (p i) (Some i) (first_from p (i + 1) n) (miss i (omega arith)) ∙ first_found (i + 1) n v (omega arith) (omega arith) hit miss
  ]

  first_none : (i n : ℕ) → ((u : ℕ) → u < i + n → p u ≡ false) → first_from p i n ≡ None
  first_none i zero miss = refl
  first_none i (suc n) miss = cond-false (p i) (Some i) (first_from p (i + 1) n) (miss i (omega arith)) ∙ first_none (i + 1) n (λ u l. miss u (omega arith))

  -- what is found is the least
  first_least : (i n v w : ℕ) → first_from p i n ≡ Some w → i ≤ v → v < i + n → p v ≡ true → w ≤ v
  first_least i zero v w e a b hit = absurd (omega arith)
  first_least i (suc n) v w e a b hit = elim (cases_Bool (p i)) [
    | inl here ↦
        let found = cond-true (p i) (Some i) (first_from p (i + 1) n) here in
        let is : i ≡ w = cc in
        omega arith
    | inr gone ↦ elim (cases_eq i v) [
      | inl same ↦ absurd (both_ways (p i) gone (ap p same ∙ hit))
      | inr d ↦ first_least (i + 1) n v w (sym (cond-false (p i) (Some i) (first_from p (i + 1) n) gone) ∙ e) (omega arith) (omega arith) hit
    ]
  ]

  -- one number more
  some_yes : (v : ℕ) → p v ≡ true → some_below p (v + 1) ≡ true
  some_yes v hit = some_below_true p (v + 1) v (omega arith) hit

  some_same : (v : ℕ) → p v ≡ false → some_below p (v + 1) ≡ some_below p v
  some_same v miss = elim (cases_below p v) [
    | inl none ↦
        let all : (u : ℕ) → u < 0 + (v + 1) → p u ≡ false = λ u l. elim (cases_eq u v) [ inl e ↦ ap p e ∙ miss | inr d ↦ below_none p v none u (omega arith) ] in
        ap is_some (first_none 0 (v + 1) all ∙ sym none)
    | inr f ↦
        let l = f.1.1 in
        some_below_true p (v + 1) f.0 (omega arith) f.1.2 ∙ sym (some_below_true p v f.0 l f.1.2)
  ]

-- the labels of the roots of the members from v on
pub record Lowest (s : State) (ls : List ℕ) (v : ℕ) (rl : List ℕ) : Type 0 where
  pub within : v ≤ s.members
  pub long : length rl ≡ 300
  pub labels : (p : ℕ) → p < 300 → get_or rl p 0 ≡ label_of ls (first_from (λ u. eqb (root_at s u) p) v (s.members - v))

module _ (s : State) (ls : List ℕ) where
  pub lowest_none : (v : ℕ) → v ≡ s.members → Lowest s ls v (replicate 300 0)
  lowest_none v end = record {
    within = omega arith;
    long = refl;
    labels = λ p l. get_or-replicate 300 p 0 0 l ∙ sym (ap (λ n. label_of ls (first_from (λ u. eqb (root_at s u) p) v n)) (let e : s.members - v ≡ 0 = omega arith in e));
  }

  -- the turn of the member u
  pub lowest_more : (u v x : ℕ) (rl : List ℕ) → v ≡ u + 1 → root_at s u < 300 → x ≡ label_at ls u → Lowest s ls v rl → Lowest s ls u (set rl (root_at s u) x)
  lowest_more u v x rl next low is h =
      let r = root_at s u in
      let within = h.within in
      let long = h.long in
      record {
        within = omega arith;
        long = length-set rl r x ∙ long;
        labels = λ p l.
            let q : ℕ → Bool = λ w. eqb (root_at s w) p in
            let more : s.members - u ≡ suc (s.members - v) = omega arith in
            let rest : Option ℕ = first_from q v (s.members - v) in
            let step : first_from q u (s.members - u) ≡ cond (q u) (Some u) rest = ap (first_from q u) more ∙ ap (λ k. cond (q u) (Some u) (first_from q k (s.members - v))) (sym next) in
            elim (cases_eq r p) [
              | inl e ↦
                  ap (λ k. get_or (set rl r x) k 0) (sym e)
                  ∙ get_or-set_same rl r x 0 (omega arith)
                  ∙ is
                  ∙ ap (label_of ls) (sym (step ∙ cond-true (q u) (Some u) rest (eq-eqb r p e)))
              | inr d ↦
                  get_or-set_other rl r p x 0 (λ e. d (sym e))
                  ∙ h.labels p l
                  ∙ ap (label_of ls) (sym (step ∙ cond-false (q u) (Some u) rest (ne_eqb r p d)))
            ];
      }

-- whether the label of the member w is unlike x, over 2, or not out though w is loose
abbrev pub flaw : State → List ℕ → ℕ → ℕ → Bool
flaw s ls x w = not (eqb (label_at ls w) x) || (ltb 2 (label_at ls w) || (is_none (mate s.mates w) && not (eqb (label_at ls w) 1)))

-- the roots with a wrong label among the members below v
pub record Marked (s : State) (ls rl : List ℕ) (v : ℕ) (bad : List Bool) : Type 0 where
  pub long : length bad ≡ 300
  pub marks : (p : ℕ) → p < 300 → get_or bad p false ≡ some_below (wrong s ls rl p) v

module _ (s : State) (ls rl : List ℕ) where
  pub marked_none : Marked s ls rl 0 (replicate 300 false)
  marked_none = record { long = refl; marks = λ p l. get_or-replicate 300 p false false l }

  -- the turn of a member with a flaw, and of one without
  pub marked_more : (v : ℕ) (bad : List Bool) → root_at s v < 300 → flaw s ls (get_or rl (root_at s v) 0) v ≡ true → Marked s ls rl v bad → Marked s ls rl (v + 1) (set bad (root_at s v) true)
  marked_more v bad low found h =
      let r = root_at s v in
      let long = h.long in
      record {
        long = length-set bad r true ∙ long;
        marks = λ p l. elim (cases_eq r p) [
          | inl e ↦
              ap (λ k. get_or (set bad r true) k false) (sym e)
              ∙ get_or-set_same bad r true false (omega arith)
              ∙ sym (some_yes (wrong s ls rl p) v (and_from (eqb r p) (flaw s ls (get_or rl p 0) v) (eq-eqb r p e) (subst (λ k. flaw s ls (get_or rl k 0) v ≡ true) e found)))
          | inr d ↦
              get_or-set_other bad r p true false (λ e. d (sym e))
              ∙ h.marks p l
              ∙ sym (some_same (wrong s ls rl p) v (and_left (eqb r p) (flaw s ls (get_or rl p 0) v) (ne_eqb r p d)))
        ];
      }

  pub marked_same : (v : ℕ) (bad : List Bool) → flaw s ls (get_or rl (root_at s v) 0) v ≡ false → Marked s ls rl v bad → Marked s ls rl (v + 1) bad
  marked_same v bad fine h =
      let r = root_at s v in
      record {
        long = h.long;
        marks = λ p l. h.marks p l ∙ sym (some_same (wrong s ls rl p) v (elim (cases_eq r p) [
          | inl e ↦ and_right (eqb r p) (flaw s ls (get_or rl p 0) v) (subst (λ k. flaw s ls (get_or rl k 0) v ≡ false) e fine)
          | inr d ↦ and_left (eqb r p) (flaw s ls (get_or rl p 0) v) (ne_eqb r p d)
        ]));
      }

-- the lowest member w of the root of v
record Low (s : State) (v w : ℕ) : Type 0 where
  upto : w ≤ v
  same : root_at s w ≡ root_at s v
  found : first_below (λ u. eqb (root_at s u) (root_at s v)) s.members ≡ Some w

low_member : (s : State) (v : ℕ) → v < s.members → (w : ℕ) × Low s v w
low_member s v l =
    let q : ℕ → Bool = λ u. eqb (root_at s u) (root_at s v) in
    let self : q v ≡ true = eq-eqb (root_at s v) (root_at s v) refl in
    elim (cases_below q s.members) [
      | inl none ↦ absurd (both_ways (q v) (below_none q s.members none v l) self)
      | inr f ↦ (
        f.0,
        record {
          upto = first_least q 0 s.members v f.0 f.1.0 (omega arith) (omega arith) self;
          same = eqb-true (root_at s f.0) (root_at s v) f.1.2;
          found = f.1.0;
        },
      )
    ]

-- the first member whose root is marked is the first that some member offends
module _ (s : State) (ls rl : List ℕ) (bad : List Bool) (low : (v : ℕ) → v < s.members → root_at s v < 300) (labels : RootLabels s ls rl) (marks : Mislabelled s ls rl bad) where
  abbrev marked : ℕ → Bool
  marked v = get_or bad (root_at s v) false

  abbrev offended : ℕ → Bool
  offended v = some_below (offends s ls v) s.members

  told : (v : ℕ) → v < s.members → get_or rl (root_at s v) 0 ≡ label_at ls v → marked v ≡ offended v
  told v l e = marks (root_at s v) (low v l) ∙ ap (λ x. some_below (λ w. eqb (root_at s w) (root_at s v) && flaw s ls x w) s.members) e

  unmarked : (v : ℕ) → v < s.members → marked v ≡ false → offended v ≡ false
  unmarked v l no-mark =
      let r = root_at s v in
      let x = get_or rl r 0 in
      let fine = some_below_false (wrong s ls rl r) s.members (sym (marks r (low v l)) ∙ no-mark) v l in
      elim (and_cases (eqb r r) (flaw s ls x v) fine) [
        | inl apart ↦ absurd (both_ways (eqb r r) apart (eq-eqb r r refl))
        | inr sound ↦
            let like = not-false (eqb (label_at ls v) x) (or_parts (not (eqb (label_at ls v) x)) (ltb 2 (label_at ls v) || (is_none (mate s.mates v) && not (eqb (label_at ls v) 1))) sound).0 in
            sym (told v l (sym (eqb-true (label_at ls v) x like))) ∙ no-mark
      ]

  first_marked : (v : ℕ) → v < s.members → ((u : ℕ) → u < v → marked u ≡ false) → marked v ≡ true → offended v ≡ true
  first_marked v l before here =
      let f = low_member s v l in
      let w = f.0 in
      let upto = f.1.upto in
      elim (cases_eq w v) [
        | inl e ↦ sym (told v l (labels (root_at s v) (low v l) ∙ ap (label_of ls) f.1.found ∙ ap (label_at ls) e)) ∙ here
        | inr d ↦ absurd (both_ways (marked w) (before w (omega arith)) (ap (λ p. get_or bad p false) f.1.same ∙ here))
      ]

  many : length ls ≡ s.members → label_fault s ls ≡ option_map BadLabels (first_below offended s.members)
  many e = ap (λ b. or_else (unless b (BadLabels (length ls))) (option_map BadLabels (first_below offended s.members))) (eq-eqb (length ls) s.members e)

  pub labels_refused : (v : ℕ) → length ls ≡ s.members → v < s.members → ((u : ℕ) → u < v → marked u ≡ false) → marked v ≡ true → Err (BadLabels v) ≡ judged (label_fault s ls)
  labels_refused v e l before here =
      let found = first_found offended 0 s.members v (omega arith) (omega arith) (first_marked v l before here) (λ u h. unmarked u (omega arith) (before u h)) in
      sym (ap judged (many e ∙ ap (option_map BadLabels) found))

  pub labels_fine : length ls ≡ s.members → ((u : ℕ) → u < s.members → marked u ≡ false) → Ok tt ≡ judged (label_fault s ls)
  labels_fine e all = sym (ap judged (many e ∙ ap (option_map BadLabels) (first_none offended 0 s.members (λ u h. unmarked u (omega arith) (all u (omega arith))))))

pub labels_miscounted : (s : State) (ls : List ℕ) → (length ls ≡ s.members → ⊥) → Err (BadLabels (length ls)) ≡ judged (label_fault s ls)
labels_miscounted s ls d = sym (ap (λ b. judged (or_else (unless b (BadLabels (length ls))) (option_map BadLabels (first_below (λ v. some_below (offends s ls v) s.members) s.members)))) (ne_eqb (length ls) s.members d))
