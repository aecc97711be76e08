-- Sums over lists and over the numbers below n. Assumes nothing.
use Rattle.std.proofs.Common.{◌≡◌, ℕ, zero, suc, ◌+◌, ◌*◌, ◌<◌, ◌≤◌, Bool, true, false, cond, eqb, List, [], ◌∷◌, ◌++◌, length, get_or, filter, sym, refl, ap, ◌∙◌, subst, inl, inr, mul-zero, mul-suc, mul-add, arith}
use mathlib.Core.Path.{fun_ext}
use Rattle.std.specs.List.{range_with_len, AllByRecursion as All}
use Rattle.std.proofs.lemmas.List.FromFn.{length-range_with_len, get_or-range_with_len}
use Rattle.std.proofs.ByRecursion.{All-from_get_or, sum_by_le}
use Rattle.std.proofs.lemmas.List.Sums.{sum_by-cons, sum_by-append}
use Rattle.std.proofs.lemmas.Bool.{eq-eqb, ne_eqb, cases_eq}
use Rattle.matching.specs.Sums.{total, below}

module _ {X : Type 0} where
  pub total_nil : (f : X → ℕ) → total f [] ≡ 0
  unfolding total
  total_nil f = refl

  pub total_cons : (f : X → ℕ) (x : X) (xs : List X) → total f (x ∷ xs) ≡ f x + total f xs
  unfolding total
  total_cons f x xs = sum_by-cons f x xs

  pub total_append : (f : X → ℕ) (xs ys : List X) → total f (xs ++ ys) ≡ total f xs + total f ys
  unfolding total
  total_append f xs ys = sum_by-append f xs ys

  pub total_at_most : (f : X → ℕ) (m : ℕ) (xs : List X) → All (λ x. f x ≤ m) xs → total f xs ≤ length xs * m
  unfolding total
  total_at_most f m xs h = sum_by_le f m xs h

  pub total_same : (f g : X → ℕ) (xs : List X) → All (λ x. f x ≡ g x) xs → total f xs ≡ total g xs
  total_same f g [] h = omega (arith, total_nil f, total_nil g)
  total_same f g (x ∷ xs) h = omega (arith, total_cons f x xs, total_cons g x xs, h.0, total_same f g xs h.1)

  pub total_add : (f g : X → ℕ) (xs : List X) → total (λ x. f x + g x) xs ≡ total f xs + total g xs
  total_add f g [] = omega (arith, total_nil f, total_nil g, total_nil (λ x. f x + g x))
  total_add f g (x ∷ xs) = omega (arith, total_cons f x xs, total_cons g x xs, total_cons (λ x. f x + g x) x xs, total_add f g xs)

  pub total_mul : (c : ℕ) (f : X → ℕ) (xs : List X) → total (λ x. c * f x) xs ≡ c * total f xs
  total_mul c f [] = total_nil (λ x. c * f x) ∙ sym (ap (λ n. c * n) (total_nil f) ∙ mul-zero c)
  total_mul c f (x ∷ xs) =
      total_cons (λ x. c * f x) x xs ∙ ap (λ n. c * f x + n) (total_mul c f xs) ∙ sym (ap (λ n. c * n) (total_cons f x xs) ∙ mul-add c (f x) (total f xs))

  pub total_le : (f g : X → ℕ) (xs : List X) → All (λ x. f x ≤ g x) xs → total f xs ≤ total g xs
  total_le f g [] h = omega (arith, total_nil f, total_nil g)
  total_le f g (x ∷ xs) h = omega (arith, total_cons f x xs, total_cons g x xs, h.0, total_le f g xs h.1)

  pub total_zero : (xs : List X) → total (λ (x : X). 0) xs ≡ 0
  total_zero [] = total_nil (λ (x : X). 0)
  total_zero (x ∷ xs) = omega (arith, total_cons (λ (x : X). 0) x xs, total_zero xs)

  pub total_const : (c : ℕ) (xs : List X) → total (λ (x : X). c) xs ≡ c * length xs
  total_const c [] = total_nil (λ (x : X). c) ∙ sym (mul-zero c)
  total_const c (x ∷ xs) = total_cons (λ (x : X). c) x xs ∙ ap (λ k. c + k) (total_const c xs) ∙ omega (arith, mul-suc c (length xs))

  pub total_kept : (f : X → ℕ) (p : X → Bool) (xs : List X) → total f (filter p xs) ≡ total (λ x. cond (p x) (f x) 0) xs
  total_kept f p [] = total_nil f ∙ sym (total_nil (λ x. cond (p x) (f x) 0))
  total_kept f p (x ∷ xs) = go (p x) ∙ ap (λ n. cond (p x) (f x) 0 + n) (total_kept f p xs) ∙ sym (total_cons (λ x. cond (p x) (f x) 0) x xs)
    where
      go : (b : Bool) → total f (cond b (x ∷ filter p xs) (filter p xs)) ≡ cond b (f x) 0 + total f (filter p xs)
      go true = total_cons f x (filter p xs)
      go false = omega arith

-- a sum of sums, in the other order
pub total_swap : {X Y : Type 0} (g : X → Y → ℕ) (xs : List X) (ys : List Y) → total (λ x. total (g x) ys) xs ≡ total (λ y. total (λ x. g x y) xs) ys
total_swap g [] ys = total_nil (λ x. total (g x) ys) ∙ sym (ap (λ h. total h ys) (fun_ext (λ y. total_nil (λ x. g x y))) ∙ total_zero ys)
total_swap g (x ∷ xs) ys =
    total_cons (λ x. total (g x) ys) x xs ∙ ap (λ n. total (g x) ys + n) (total_swap g xs ys)
    ∙ sym (ap (λ h. total h ys) (fun_ext (λ y. total_cons (λ x. g x y) x xs)) ∙ total_add (g x) (λ y. total (λ x. g x y) xs) ys)

-- the numbers below n
counting_push : (a n : ℕ) → range_with_len a (suc n) ≡ range_with_len a n ++ (a + n) ∷ []
counting_push a zero = ap (λ x. x ∷ []) (omega arith)
counting_push a (suc n) = ap (λ l. a ∷ l) (counting_push (a + 1) n ∙ ap (λ x. range_with_len (a + 1) n ++ x ∷ []) (omega arith))

pub below_none : below 0 ≡ []
unfolding below
below_none = refl

pub below_push : (n : ℕ) → below (suc n) ≡ below n ++ n ∷ []
unfolding below
below_push n = counting_push 0 n ∙ ap (λ x. range_with_len 0 n ++ x ∷ []) (omega arith)

pub length_below : (n : ℕ) → length (below n) ≡ n
unfolding below
length_below n = length-range_with_len 0 n

pub getD_below : (n i d : ℕ) → i < n → get_or (below n) i d ≡ i
unfolding below
getD_below n i d h = get_or-range_with_len 0 n i d h ∙ omega arith

pub all_below : (P : ℕ → Type 0) (n : ℕ) → ((v : ℕ) → v < n → P v) → All P (below n)
all_below P n h = All-from_get_or P (below n) 0 (λ i lt. let less : i < n = omega (arith, length_below n) in subst P (sym (getD_below n i 0 less)) (h i less))

pub total_below_more : (f : ℕ → ℕ) (n : ℕ) → total f (below (suc n)) ≡ total f (below n) + f n
total_below_more f n = ap (total f) (below_push n) ∙ total_append f (below n) (n ∷ []) ∙ omega (arith, total_cons f n [], total_nil f)

pub total_below_none : (f : ℕ → ℕ) → total f (below 0) ≡ 0
total_below_none f = ap (total f) below_none ∙ total_nil f

pub total_below_same : (f g : ℕ → ℕ) (n : ℕ) → ((v : ℕ) → v < n → f v ≡ g v) → total f (below n) ≡ total g (below n)
total_below_same f g n h = total_same f g (below n) (all_below (λ v. f v ≡ g v) n h)

pub total_below_le : (f g : ℕ → ℕ) (n : ℕ) → ((v : ℕ) → v < n → f v ≤ g v) → total f (below n) ≤ total g (below n)
total_below_le f g n h = total_le f g (below n) (all_below (λ v. f v ≤ g v) n h)

pub total_below_const : (c n : ℕ) → total (λ (v : ℕ). c) (below n) ≡ c * n
total_below_const c n = total_const c (below n) ∙ ap (λ k. c * k) (length_below n)

-- a sum with one term
pub point : (f : ℕ → ℕ) (x n : ℕ) → x < n → total (λ v. cond (eqb x v) (f v) 0) (below n) ≡ f x
point f x n lt = go n lt
  where
    one : ℕ → ℕ
    one v = cond (eqb x v) (f v) 0

    before : (n : ℕ) → n ≤ x → total one (below n) ≡ 0
    before n le = total_below_same one (λ v. 0) n (λ v h. ap (λ b. cond b (f v) 0) (ne_eqb x v (omega arith))) ∙ total_zero (below n)

    go : (n : ℕ) → x < n → total one (below n) ≡ f x
    go zero h = omega arith
    go (suc n) h =
        total_below_more one n
        ∙ elim (cases_eq x n) [
          | inl e ↦ let here : one n ≡ f n = ap (λ b. cond b (f n) 0) (eq-eqb x n e) in omega (arith, here, before n (omega arith), ap f e)
          | inr d ↦ let gone : one n ≡ 0 = ap (λ b. cond b (f n) 0) (ne_eqb x n d) in omega (arith, gone, go n (omega arith))
        ]

-- what passes a test, as a product
pub scale : (c : ℕ) (b : Bool) → cond b c 0 ≡ c * cond b 1 0
scale c true = omega arith
scale c false = omega arith

-- one term less
pub total_below_less : (f g : ℕ → ℕ) (v n : ℕ) → v < n → f v < g v → ((u : ℕ) → u < n → f u ≤ g u) → total f (below n) < total g (below n)
total_below_less f g v zero lt h all = absurd (omega arith)
total_below_less f g v (suc n) lt h all = elim (cases_eq v n) [
  | inl e ↦ (let here : f n < g n = subst (λ u. f u < g u) e h in
      omega (arith, here, total_below_more f n, total_below_more g n, total_below_le f g n (λ u l. all u (omega arith))))
  | inr d ↦ omega (arith, all n (omega arith), total_below_more f n, total_below_more g n, total_below_less f g v n (omega arith) h (λ u l. all u (omega arith)))
]
