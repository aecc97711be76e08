-- How often a number stands in a list, and sums over different numbers below n. Assumes nothing.
use Rattle.std.proofs.Common.{◌≡◌, ℕ, zero, suc, ◌+◌, ◌*◌, ◌<◌, ◌≤◌, Bool, true, false, cond, eqb, ◌≢◌, List, [], ◌∷◌, length, get_or, sym, refl, ap, ◌∙◌, subst, inl, inr, arith}
use mathlib.Core.Path.{fun_ext}
use Rattle.std.specs.List.{AllByRecursion as All}
use Rattle.std.proofs.lemmas.Bool.{eq-eqb, ne_eqb, cases_eq, cases_lt, both_ways}
use Rattle.matching.specs.Sums.{total, count, below}
use Rattle.matching.specs.Pairings.{Different}
use Rattle.matching.proofs.Sums.{total_nil, total_cons, total_add, total_mul, total_same, total_zero, total_const, total_swap, total_at_most, total_below_more, total_below_none, total_below_same, total_below_le, total_below_const, point, scale}

-- a list of numbers below n, by how often each stands in it
unfoldable pub times : ℕ → List ℕ → ℕ
times v xs = count (λ x. eqb x v) xs

pub spread : (f : ℕ → ℕ) (n : ℕ) (xs : List ℕ) → All (λ x. x < n) xs → total f xs ≡ total (λ v. f v * times v xs) (below n)
unfolding times
spread f n xs h =
    total_same f (λ x. total (λ v. cond (eqb x v) (f v) 0) (below n)) xs (points xs h)
    ∙ total_swap (λ x v. cond (eqb x v) (f v) 0) xs (below n)
    ∙ ap (λ g. total g (below n)) (fun_ext (λ v. ap (λ g. total g xs) (fun_ext (λ x. scale (f v) (eqb x v))) ∙ total_mul (f v) (λ x. cond (eqb x v) 1 0) xs))
  where
    points : (ys : List ℕ) → All (λ x. x < n) ys → All (λ x. f x ≡ total (λ v. cond (eqb x v) (f v) 0) (below n)) ys
    points [] h = tt
    points (y ∷ ys) h = (sym (point f y n h.0), points ys h.1)

pub spread_length : (n : ℕ) (xs : List ℕ) → All (λ x. x < n) xs → length xs ≡ total (λ v. times v xs) (below n)
spread_length n xs h =
    omega (arith, total_const 1 xs) ∙ spread (λ v. 1) n xs h ∙ ap (λ g. total g (below n)) (fun_ext (λ v. omega arith))

absent : (v : ℕ) (xs : List ℕ) → All (λ y. v ≢ y) xs → times v xs ≡ 0
unfolding times
absent v [] h = total_nil (λ x. cond (eqb x v) 1 0)
absent v (x ∷ xs) h =
    total_cons (λ x. cond (eqb x v) 1 0) x xs
    ∙ (let gone : ◌≡◌ {A = ℕ} (cond (eqb x v) 1 0) 0 = ap (λ b. cond b 1 0) (ne_eqb x v (λ e. h.0 (sym e))) in omega (arith, gone, absent v xs h.1))

pub once : (v : ℕ) (xs : List ℕ) → Different xs → times v xs ≤ 1
unfolding times
once v [] h = omega (arith, total_nil (λ x. cond (eqb x v) 1 0))
once v (x ∷ xs) h =
    let cons = total_cons (λ x. cond (eqb x v) 1 0) x xs in
    elim (cases_eq x v) [
      | inl e ↦ let here : ◌≡◌ {A = ℕ} (cond (eqb x v) 1 0) 1 = ap (λ b. cond b 1 0) (eq-eqb x v e) in
          omega (arith, cons, here, absent v xs (subst (λ u. All (λ y. u ≢ y) xs) e h.0))
      | inr d ↦ let gone : ◌≡◌ {A = ℕ} (cond (eqb x v) 1 0) 0 = ap (λ b. cond b 1 0) (ne_eqb x v d) in omega (arith, cons, gone, once v xs h.1)
    ]

pub once_below : (v n : ℕ) → total (λ u. cond (eqb u v) 1 0) (below n) ≤ 1
once_below v n = elim (cases_lt v n) [
  | inl h ↦ omega (arith, flipped, point (λ u. 1) v n h)
  | inr h ↦ omega (arith, total_zero (below n), total_below_same (λ u. cond (eqb u v) 1 0) (λ u. 0) n (λ u lt. ap (λ b. cond b 1 0) (ne_eqb u v (omega arith))))
]
  where
    flip : (u : ℕ) → eqb u v ≡ eqb v u
    flip u = elim (cases_eq u v) [ inl e ↦ eq-eqb u v e ∙ sym (eq-eqb v u (sym e)) | inr d ↦ ne_eqb u v d ∙ sym (ne_eqb v u (λ e. d (sym e))) ]

    flipped : total (λ u. cond (eqb u v) 1 0) (below n) ≡ total (λ u. cond (eqb v u) 1 0) (below n)
    flipped = ap (λ g. total g (below n)) (fun_ext (λ u. ap (λ b. cond b 1 0) (flip u)))

present : (v : ℕ) (xs : List ℕ) → times v xs ≡ 0 → All (λ y. v ≢ y) xs
unfolding times
present v [] h = tt
present v (x ∷ xs) h =
    let cons = total_cons (λ x. cond (eqb x v) 1 0) x xs in
    (λ e. (let here : ◌≡◌ {A = ℕ} (cond (eqb x v) 1 0) 1 = ap (λ b. cond b 1 0) (eq-eqb x v (sym e)) in omega (arith, cons, here)), present v xs (omega (arith, cons)))

pub different_from : (xs : List ℕ) → ((v : ℕ) → times v xs ≤ 1) → Different xs
unfolding times
different_from [] h = tt
different_from (x ∷ xs) h = (
  present x xs (let here : ◌≡◌ {A = ℕ} (cond (eqb x x) 1 0) 1 = ap (λ b. cond b 1 0) (eq-eqb x x refl) in omega (arith, h x, total_cons (λ y. cond (eqb y x) 1 0) x xs, here)),
  different_from xs (λ v. omega (arith, h v, total_cons (λ y. cond (eqb y v) 1 0) x xs)),
)

-- different members, each of which costs at least c: those that are left out cost at least c each
pub different_total : (f : ℕ → ℕ) (c n : ℕ) (xs : List ℕ) → All (λ x. x < n) xs → Different xs → ((v : ℕ) → v < n → c ≤ f v) → total f xs + c * n ≤ total f (below n) + c * length xs
different_total f c n xs fit apart least =
    omega (
      arith,
      total_below_le _ _ n each,
      spread f n xs fit,
      total_add (λ v. f v * times v xs) (λ v. c) (below n),
      total_add f (λ v. c * times v xs) (below n),
      total_mul c (λ v. times v xs) (below n),
      total_below_const c n,
      ap (λ k. c * k) (spread_length n xs fit),
    )
  where
    small : (a t : ℕ) → c ≤ a → t ≤ 1 → a * t + c ≤ a + c * t
    small a zero p q = omega arith
    small a (suc zero) p q = omega arith
    small a (suc (suc t)) p q = omega arith

    each : (v : ℕ) → v < n → f v * times v xs + c ≤ f v + c * times v xs
    each v h = small (f v) (times v xs) (least v h) (once v xs apart)

-- a list in which an element passes, and one with no more than it has elements
pub count_at : {X : Type 0} (p : X → Bool) (xs : List X) (j : ℕ) (d : X) → j < length xs → p (get_or xs j d) ≡ true → 1 ≤ count p xs
count_at p [] j d l h = absurd (omega arith)
count_at p (x ∷ xs) zero d l h = let here : ◌≡◌ {A = ℕ} (cond (p x) 1 0) 1 = ap (λ b. cond b 1 0) h in omega (arith, here, total_cons (λ y. cond (p y) 1 0) x xs)
count_at p (x ∷ xs) (suc j) d l h = omega (arith, count_at p xs j d (omega arith) h, total_cons (λ y. cond (p y) 1 0) x xs)

pub count_two : {X : Type 0} (p : X → Bool) (xs : List X) (i j : ℕ) (d : X) → i < length xs → j < length xs → i ≢ j → p (get_or xs i d) ≡ true → p (get_or xs j d) ≡ true → 2 ≤ count p xs
count_two p [] i j d li lj ne hi hj = absurd (omega arith)
count_two p (x ∷ xs) zero zero d li lj ne hi hj = absurd (ne refl)
count_two p (x ∷ xs) zero (suc j) d li lj ne hi hj =
    let here : ◌≡◌ {A = ℕ} (cond (p x) 1 0) 1 = ap (λ b. cond b 1 0) hi in
    omega (arith, here, count_at p xs j d (omega arith) hj, total_cons (λ y. cond (p y) 1 0) x xs)
count_two p (x ∷ xs) (suc i) zero d li lj ne hi hj =
    let here : ◌≡◌ {A = ℕ} (cond (p x) 1 0) 1 = ap (λ b. cond b 1 0) hj in
    omega (arith, here, count_at p xs i d (omega arith) hi, total_cons (λ y. cond (p y) 1 0) x xs)
count_two p (x ∷ xs) (suc i) (suc j) d li lj ne hi hj =
    omega (arith, count_two p xs i j d (omega arith) (omega arith) (λ e. ne (ap suc e)) hi hj, total_cons (λ y. cond (p y) 1 0) x xs)

pub count_most : {X : Type 0} (p : X → Bool) (xs : List X) → count p xs ≤ length xs
count_most p xs = omega (arith, total_at_most (λ x. cond (p x) 1 0) 1 xs (each xs))
  where
    small : (b : Bool) → cond b 1 0 ≤ 1
    small true = omega arith
    small false = omega arith

    each : (ys : List _) → All (λ x. cond (p x) 1 0 ≤ 1) ys
    each [] = tt
    each (y ∷ ys) = (small (p y), each ys)

-- one number below n passes, and no other
module _ (p : ℕ → Bool) where
  count_none : (n : ℕ) → count p (below n) ≡ 0 → (u : ℕ) → u < n → p u ≡ true → ⊥
  count_none zero h u lt t = omega arith
  count_none (suc n) h u lt t = elim (cases_eq u n) [
    | inl e ↦ (let here : ◌≡◌ {A = ℕ} (cond (p n) 1 0) 1 = ap (λ b. cond b 1 0) (ap p (sym e) ∙ t) in omega (arith, here, total_below_more (λ u. cond (p u) 1 0) n))
    | inr d ↦ count_none n (omega (arith, total_below_more (λ u. cond (p u) 1 0) n)) u (omega arith) t
  ]

  pub only_one : (n : ℕ) → count p (below n) ≡ 1 → (v : ℕ) × (v < n) × (p v ≡ true) × ((u : ℕ) → u < n → p u ≡ true → u ≡ v)
  only_one zero h = absurd (omega (arith, total_below_none (λ u. cond (p u) 1 0)))
  only_one (suc n) h = go (p n) refl (only_one n)
    where
      more : count p (below (suc n)) ≡ count p (below n) + cond (p n) 1 0
      more = total_below_more (λ u. cond (p u) 1 0) n

      go : (b : Bool) → p n ≡ b → (count p (below n) ≡ 1 → (v : ℕ) × (v < n) × (p v ≡ true) × ((u : ℕ) → u < n → p u ≡ true → u ≡ v))
          → (v : ℕ) × (v < suc n) × (p v ≡ true) × ((u : ℕ) → u < suc n → p u ≡ true → u ≡ v)
      go true e before =
          let here : ◌≡◌ {A = ℕ} (cond (p n) 1 0) 1 = ap (λ b. cond b 1 0) e in
          let rest : count p (below n) ≡ 0 = omega (arith, h, more, here) in
          (n, omega arith, e, λ u lt t. elim (cases_eq u n) [ inl w ↦ w | inr d ↦ absurd (count_none n rest u (omega arith) t) ])
      go false e before =
          let gone : ◌≡◌ {A = ℕ} (cond (p n) 1 0) 0 = ap (λ b. cond b 1 0) e in
          let r = before (omega (arith, h, more, gone)) in
          (r.0, omega (arith, r.1), r.2, λ u lt t. elim (cases_eq u n) [ inl w ↦ absurd (both_ways (p n) e (ap p (sym w) ∙ t)) | inr d ↦ r.3 u (omega arith) t ])
