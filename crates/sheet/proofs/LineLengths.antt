-- The first line: the steps of its count, and how it stands in the text. Assumes nothing.
use Rattle.std.proofs.Common.{not, min, ◌++◌, ap, ◌∙◌, ◌≡◌, ℕ, suc, ◌+◌, ◌<◌, true, false, cond, eqb, List, [], ◌∷◌, length, take, drop, sym, refl, ap, ◌∙◌, subst, ⊎_elim, add-one, arith}
use Rattle.std.specs.List.{position_or_len, IsFirstMatchOrLen}
use Rattle.std.proofs.lemmas.List.{take_at, drop_at}
use Rattle.std.proofs.lemmas.List.Sums.{position_or_len_is}
use Rattle.std.proofs.lemmas.Bool.{cases_lt, cases_Bool, cond-true, cond-false, cond_both, eqb-true}
use Rattle.sheet.specs.Lines.{lines, grow, first_length}

-- the first line ends with the first line feed, or with the text
first_min : (bs : List ℕ) → first_length bs ≡ min (position_or_len (λ b. eqb b 10) bs + 1) (length bs)
first_min [] = omega arith
first_min (b ∷ bs) =
    let h = first_min bs in
    ⊎_elim
    (λ t.
    let one : first_length (b ∷ bs) ≡ 1 = cond-true (eqb b 10) 1 (first_length bs + 1) t in
    let here : position_or_len (λ b. eqb b 10) (b ∷ bs) ≡ 0 = ap (λ x. cond (not x) (1 + position_or_len (λ b. eqb b 10) bs) 0) t in
    omega (arith, one, here))
    (λ f.
    let more : first_length (b ∷ bs) ≡ first_length bs + 1 = cond-false (eqb b 10) 1 (first_length bs + 1) f in
    let there : position_or_len (λ b. eqb b 10) (b ∷ bs) ≡ 1 + position_or_len (λ b. eqb b 10) bs = ap (λ x. cond (not x) (1 + position_or_len (λ b. eqb b 10) bs) 0) f in
    omega (arith, more, there, h))
    (cases_Bool (eqb b 10))

-- the library cuts off the first line
pub cut : (text line after : List ℕ) (i : ℕ) → text ≡ line ++ after → length line ≡ min (i + 1) (length text) → IsFirstMatchOrLen (λ b. eqb b 10) text i → (line ≡ take (first_length text) text) × (after ≡ drop (first_length text) text)
cut text line after i whole long first =
    let same : length line ≡ first_length text = ⊎_elim
    (λ l. let at = position_or_len_is (λ b. eqb b 10) text i 0 (omega arith) (λ k m. first.0 k 0 (omega arith) m) (λ m. first.1 m 0) in omega (arith, long, first_min text, at))
    (λ l. let at = position_or_len_is (λ b. eqb b 10) text (length text) 0 (omega arith) (λ k m. first.0 k 0 (omega arith) (omega arith)) (λ m. absurd (omega arith)) in omega (arith, long, first_min text, at))
    (cases_lt i (length text)) in
    (sym (ap (take (first_length text)) whole ∙ take_at line after (first_length text) same), sym (ap (drop (first_length text)) whole ∙ drop_at line after (first_length text) same))

pub first_some : (bs : List ℕ) → 0 < length bs → 0 < first_length bs
first_some [] l = absurd (omega arith)
first_some (b ∷ bs) l = cond_both (eqb b 10) 1 (first_length bs + 1) (λ n. 0 < n) (λ _. omega arith) (λ _. omega arith)

abbrev Split : List ℕ → ℕ → Type 0
Split bs n = lines bs ≡ take n bs ∷ lines (drop n bs)

split_here : (b : ℕ) (bs : List ℕ) → eqb b 10 ≡ true → Split (b ∷ bs) (first_length (b ∷ bs))
split_here b bs h =
    let one : first_length (b ∷ bs) ≡ 1 = cond-true (eqb b 10) 1 (first_length bs + 1) h in
    let at : Split (b ∷ bs) 1 = cond-true (eqb b 10) ((10 ∷ []) ∷ lines bs) (grow b (lines bs)) h ∙ ap (λ x. (x ∷ []) ∷ lines bs) (sym (eqb-true b 10 h)) in
    subst (Split (b ∷ bs)) (sym one) at

split_later : (b : ℕ) (bs : List ℕ) → eqb b 10 ≡ false → grow b (lines bs) ≡ (b ∷ take (first_length bs) bs) ∷ lines (drop (first_length bs) bs) → Split (b ∷ bs) (first_length (b ∷ bs))
split_later b bs h e =
    let more : first_length (b ∷ bs) ≡ suc (first_length bs) = cond-false (eqb b 10) 1 (first_length bs + 1) h ∙ add-one (first_length bs) in
    let at : Split (b ∷ bs) (suc (first_length bs)) = cond-false (eqb b 10) ((10 ∷ []) ∷ lines bs) (grow b (lines bs)) h ∙ e in
    subst (Split (b ∷ bs)) (sym more) at

-- a text that is not empty is its first line and the lines of the rest
pub lines_split : (bs : List ℕ) → 0 < length bs → lines bs ≡ take (first_length bs) bs ∷ lines (drop (first_length bs) bs)
lines_split [] l = absurd (omega arith)
lines_split (b ∷ []) l = ⊎_elim (split_here b []) (λ h. split_later b [] h refl) (cases_Bool (eqb b 10))
lines_split (b ∷ c ∷ bs) l = ⊎_elim (split_here b (c ∷ bs)) (λ h. split_later b (c ∷ bs) h (ap (grow b) (lines_split (c ∷ bs) (omega arith)))) (cases_Bool (eqb b 10))
