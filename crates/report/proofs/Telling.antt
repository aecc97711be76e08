-- A loop that tells of each member and its partner: what is left to tell, and that it is short. Assumes nothing.
use Rattle.std.proofs.Common.{◌≡◌, ℕ, ◌+◌, ◌*◌, ◌<◌, ◌≤◌, true, false, cond, List, [], ◌++◌, length, get_or, drop, is_some, Some, None, Option, sym, refl, ap, ◌∙◌, true≢false, arith}
use Rattle.std.proofs.lemmas.List.{length-append, at_drop_more, at_drop_all}
use Rattle.std.proofs.lemmas.Bool.{lt-ltb, le-ltb}
use Rattle.report.specs.declared.draft.Draft.{Draft}
use Rattle.report.specs.Drafts.{held, capped}
use Rattle.report.specs.Texts.{pair_line, loose_line, pair_told, loose_told, told_from}
use Rattle.report.proofs.Capped.{grow, grown}

-- what is told of one member
pub pair_here : (u v : ℕ) (m : Option ℕ) → m ≡ Some v → u < v → pair_told u m ≡ pair_line u v
pair_here u v m e l = ap (pair_told u) e ∙ ap (λ b. cond b (pair_line u v) []) (lt-ltb u v l)

pub pair_elsewhere : (u v : ℕ) (m : Option ℕ) → m ≡ Some v → v ≤ u → pair_told u m ≡ []
pair_elsewhere u v m e l = ap (pair_told u) e ∙ ap (λ b. cond b (pair_line u v) []) (le-ltb u v l)

pub loose_here : (u : ℕ) (m : Option ℕ) → is_some m ≡ false → loose_told u m ≡ loose_line u
loose_here u None e = refl
loose_here u (Some v) e = absurd (true≢false e)

pub loose_not : (u : ℕ) (m : Option ℕ) → is_some m ≡ true → loose_told u m ≡ []
loose_not u None e = absurd (true≢false (sym e))
loose_not u (Some v) e = refl

-- f tells at most k bytes of each of the members ms; those below i are told of, where the text was `was` and is `now`
abbrev pub Telling : (ℕ → Option ℕ → List ℕ) → ℕ → List (Option ℕ) → ℕ → List ℕ → List ℕ → Type 0
Telling f k ms i was now =
    (capped (now ++ told_from f i (drop i ms)) ≡ capped (was ++ told_from f 0 ms))
    × (length (told_from f 0 ms) ≤ k * i + length (told_from f i (drop i ms)))

module _ (f : ℕ → Option ℕ → List ℕ) (k : ℕ) (ms : List (Option ℕ)) (was : List ℕ) where
  module _ (i : ℕ) (now : List ℕ) (inv : Telling f k ms i was now) where
    shorter : i < length ms → (piece : List ℕ) → f i (get_or ms i None) ≡ piece → length piece ≤ k → length (told_from f 0 ms) ≤ k * (i + 1) + length (told_from f (i + 1) (drop (i + 1) ms))
    shorter l piece e short =
        let whole = at_drop_more (λ ys. length (told_from f i ys)) ms i None l in
        let parts = length-append (f i (get_or ms i None)) (told_from f (i + 1) (drop (i + 1) ms)) in
        let same : length (f i (get_or ms i None)) ≡ length piece = ap length e in
        omega (arith, inv.1, whole, parts, same)

    pub tell_more : i < length ms → (after piece : List ℕ) → f i (get_or ms i None) ≡ piece → length piece ≤ k → after ≡ capped (now ++ piece) → Telling f k ms (i + 1) was after
    tell_more l after piece e short p =
        let rest = told_from f (i + 1) (drop (i + 1) ms) in
        (grow (told_from f i) ms i None now (was ++ told_from f 0 ms) inv.0 l after piece rest (ap (λ ys. ys ++ rest) e) p, shorter l piece e short)

    pub tell_nothing : i < length ms → f i (get_or ms i None) ≡ [] → Telling f k ms (i + 1) was now
    tell_nothing l e =
        let rest = told_from f (i + 1) (drop (i + 1) ms) in
        (sym (at_drop_more (λ ys. capped (now ++ told_from f i ys)) ms i None l ∙ ap (λ ys. capped (now ++ (ys ++ rest))) e) ∙ inv.0, shorter l [] e (omega arith))

  pub tell_all : (i : ℕ) (s : Draft) → Telling f k ms i was (held s) → length ms ≤ i → held s ≡ capped (was ++ told_from f 0 ms)
  tell_all i s inv l = grown (told_from f i) ms i s (was ++ told_from f 0 ms) inv.0 l refl

  pub tell_short : (i : ℕ) (now : List ℕ) → Telling f k ms i was now → i ≡ length ms → length (told_from f 0 ms) ≤ k * length ms
  tell_short i now inv e =
      let none = at_drop_all (λ ys. length (told_from f i ys)) ms i (omega arith) in
      let same = ap (λ j. k * j) e in
      omega (arith, inv.1, none, same)
