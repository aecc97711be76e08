-- Going round a ring by places, two parts at a time. Assumes nothing.
use Rattle.std.proofs.Common.{◌≡◌, ℕ, ◌+◌, ◌-◌, ◌*◌, ◌%◌, ◌<◌, ◌≤◌, cond, ltb, List, [], ◌∷◌, ◌++◌, length, get_or, take, drop, Option, sym, refl, ap, ◌∙◌, ⊎_elim, arith}
use Rattle.std.proofs.lemmas.List.{length-append, length-drop, length-take-le, get_or_append_left, get_or-append_right, get_or-drop, get_or-take, drop_more, take-append-drop}
use Rattle.std.proofs.lemmas.Bool.{cases_lt, cond-true, cond-false, lt-ltb, le-ltb}
use Rattle.matching.specs.State.{State}
use Rattle.paths.specs.Bare.{Link, Join, Task, by_twos, joined, piled, end_in}

-- the place i, counted round a ring of n parts
abbrev pub wrapped : ℕ → ℕ → ℕ
wrapped i n = cond (ltb i n) i (i - n)

pub wrapped_low : (i n : ℕ) → i < n + n → wrapped i n < n
wrapped_low i n l = ⊎_elim
    (λ (lt : i < n). omega (arith, cond-true (ltb i n) i (i - n) (lt-ltb i n lt)))
    (λ (ge : n ≤ i). omega (arith, cond-false (ltb i n) i (i - n) (le-ltb i n ge)))
    (cases_lt i n)

-- the list from the link after place i, round to the one before it
abbrev pub turn : List Link → ℕ → List Link
turn xs i = drop (i + 1) xs ++ take i xs

module _ (xs : List Link) (i : ℕ) (l : i < length xs) where
  pub length_turn : length (turn xs i) ≡ length xs - 1
  length_turn =
      let a = length-append (drop (i + 1) xs) (take i xs) in
      let c = length-drop (i + 1) xs in
      let d = length-take-le i xs (omega arith) in
      omega arith

  turn_at : (k : ℕ) (d : Link) → k + 1 < length xs → get_or (turn xs i) k d ≡ get_or xs (wrapped (i + 1 + k) (length xs)) d
  turn_at k d lk =
      let c = length-drop (i + 1) xs in
      ⊎_elim
      (λ (lt : i + 1 + k < length xs).
      get_or_append_left (drop (i + 1) xs) (take i xs) d k (omega arith) ∙ get_or-drop (i + 1) xs k d
      ∙ ap (λ (j : ℕ). get_or xs j d) (sym (cond-true _ _ _ (lt-ltb _ _ lt))))
      (λ (ge : length xs ≤ i + 1 + k).
      let e : k - (length xs - (i + 1)) ≡ i + 1 + k - length xs = omega arith in
      get_or-append_right (drop (i + 1) xs) (take i xs) (length xs - (i + 1)) k d (omega arith) (omega arith)
      ∙ ap (λ (j : ℕ). get_or (take i xs) j d) e
      ∙ get_or-take i xs (i + 1 + k - length xs) d (omega arith)
      ∙ ap (λ (j : ℕ). get_or xs j d) (sym (cond-false _ _ _ (le-ltb _ _ ge))))
      (cases_lt (i + 1 + k) (length xs))

  -- two links at a time
  pub drop_two : (k a b : ℕ) (d : Link) → k + 2 < length xs → a ≡ wrapped (i + k + 1) (length xs) → b ≡ wrapped (i + k + 2) (length xs) →
      drop k (turn xs i) ≡ (get_or xs a d ∷ (get_or xs b d ∷ drop (k + 2) (turn xs i)))
  drop_two k a b d lk qa qb =
      let n = length_turn in
      let e : k + 1 + 1 ≡ k + 2 = omega arith in
      let ea : i + 1 + k ≡ i + k + 1 = omega arith in
      let eb : i + 1 + (k + 1) ≡ i + k + 2 = omega arith in
      let p : get_or (turn xs i) k d ≡ get_or xs a d = turn_at k d (omega arith) ∙ ap (λ (j : ℕ). get_or xs j d) (ap (λ (j : ℕ). wrapped j (length xs)) ea ∙ sym qa) in
      let q : get_or (turn xs i) (k + 1) d ≡ get_or xs b d = turn_at (k + 1) d (omega arith) ∙ ap (λ (j : ℕ). get_or xs j d) (ap (λ (j : ℕ). wrapped j (length xs)) eb ∙ sym qb) in
      drop_more (turn xs i) k d (omega arith) ∙ ap (λ (x : Link). x ∷ drop (k + 1) (turn xs i)) p
      ∙ ap (λ (zs : List Link). get_or xs a d ∷ zs)
      (drop_more (turn xs i) (k + 1) d (omega arith) ∙ ap (λ (x : Link). x ∷ drop (k + 1 + 1) (turn xs i)) q ∙ ap (λ (j : ℕ). get_or xs b d ∷ drop j (turn xs i)) e)

  -- a list split at a place
  pub split_at : (d : Link) → xs ≡ take i xs ++ (get_or xs i d ∷ drop (i + 1) xs)
  split_at d = sym (take-append-drop i xs) ∙ ap (λ (zs : List Link). take i xs ++ zs) (drop_more xs i d l)

-- at most one link left: no join
by_twos_few : (xs : List Link) → length xs ≤ 1 → by_twos xs ≡ []
by_twos_few [] h = refl
by_twos_few (x ∷ []) h = refl
by_twos_few (x ∷ (y ∷ zs)) h = absurd (omega arith)

pub turn_end : (xs : List Link) (i k : ℕ) → i < length xs → length xs ≤ k + 2 → by_twos (drop k (turn xs i)) ≡ []
turn_end xs i k l lk =
    let n = length_turn xs i l in
    let d = length-drop k (turn xs i) in
    by_twos_few (drop k (turn xs i)) (omega arith)

-- two more links joined
pub joined_two : (s : State) (xs ys : List Link) (x y : Link) (m m' : List (Option ℕ)) → xs ≡ (x ∷ (y ∷ ys)) →
    m' ≡ joined s (record { offer = x.offer; one = x.part; other = y.part } ∷ []) m → joined s (by_twos ys) m' ≡ joined s (by_twos xs) m
joined_two s xs ys x y m m' q qm = ap (joined s (by_twos ys)) qm ∙ sym (ap (λ (zs : List Link). joined s (by_twos zs) m) q)

pub piled_two : (s : State) (xs ys : List Link) (x y : Link) (ts ts' : List Task) → xs ≡ (x ∷ (y ∷ ys)) →
    ts' ≡ piled s (record { offer = x.offer; one = x.part; other = y.part } ∷ []) ts → piled s (by_twos ys) ts' ≡ piled s (by_twos xs) ts
piled_two s xs ys x y ts ts' q qt = ap (piled s (by_twos ys)) qt ∙ sym (ap (λ (zs : List Link). piled s (by_twos zs) ts) q)

-- each join piles up two tasks
pub length_piled : (s : State) (js : List Join) (ts : List Task) → length (piled s js ts) ≡ 2 * length js + length ts
length_piled s [] ts = omega arith
length_piled s (j ∷ js) ts =
    omega (arith, length_piled s js (record { node = j.other; member = end_in s j.other j.offer } ∷ (record { node = j.one; member = end_in s j.one j.offer } ∷ ts)))

pub length_twos : (xs : List Link) → length xs % 2 ≡ 0 → 2 * length (by_twos xs) ≡ length xs
length_twos [] h = refl
length_twos (x ∷ []) h = absurd (omega arith)
length_twos (x ∷ (y ∷ zs)) h = omega (arith, length_twos zs (omega arith))
