-- What fits of a text that grows: cutting early or late is the same. Assumes nothing.
use Rattle.std.proofs.Common.{Result, Ok, Err, IsOk, OnOk, true≢false, ◌≡◌, ℕ, zero, suc, ◌+◌, ◌<◌, ◌≤◌, List, [], ◌∷◌, ◌++◌, length, get_or, take, drop, min, ⊎_elim, sym, refl, ap, ◌∙◌, append_assoc, arith}
use Rattle.std.proofs.lemmas.Bool.{cases_lt}
use Rattle.std.proofs.lemmas.List.{take-append-drop, length-append, append-nil, length-take, length-take-le, take_all, take_at, at_drop_more, at_drop_all}
use Rattle.report.specs.declared.draft.Draft.{Draft}
use Rattle.report.specs.Drafts.{held, capped}

cut_early : (n : ℕ) (xs ys : List ℕ) → take n (take n xs ++ ys) ≡ take n (xs ++ ys)
cut_early zero xs ys = refl
cut_early (suc n) [] ys = refl
cut_early (suc n) (x ∷ xs) ys = ap (λ zs. x ∷ zs) (cut_early n xs ys)

pub capped_capped : (xs ys : List ℕ) → capped (capped xs ++ ys) ≡ capped (xs ++ ys)
unfolding capped
capped_capped xs ys = cut_early 16384 xs ys

pub capped_short : (xs : List ℕ) → length xs ≤ 16384 → capped xs ≡ xs
unfolding capped
capped_short xs h = take_all 16384 xs h

-- one piece after another
pub capped_then : (now was xs ys : List ℕ) → now ≡ capped (was ++ xs) → capped (now ++ ys) ≡ capped (was ++ (xs ++ ys))
capped_then now was xs ys e =
    ap (λ zs. capped (zs ++ ys)) e ∙ capped_capped (was ++ xs) ys ∙ ap capped (append_assoc was xs ys)

pub push_then : (after now was xs ys : List ℕ) → now ≡ capped (was ++ xs) → after ≡ capped (now ++ ys) → after ≡ capped (was ++ (xs ++ ys))
push_then after now was xs ys e p = p ∙ capped_then now was xs ys e

-- a piece may be cut to the room for it
cut_late : (old piece : List ℕ) (room fits : ℕ) → room + length old ≡ 16384 → fits ≡ room → room < length piece → capped (old ++ take fits piece) ≡ capped (old ++ piece)
unfolding capped
cut_late old piece room fits full all l =
    let front = old ++ take fits piece in
    let long : length front ≡ 16384 = omega (arith, length-append old (take fits piece), length-take-le fits piece (omega arith)) in
    let split : front ++ drop fits piece ≡ old ++ piece = append_assoc old (take fits piece) (drop fits piece) ∙ ap (λ ys. old ++ ys) (take-append-drop fits piece) in
    take_all 16384 front (omega arith) ∙ sym (take_at front (drop fits piece) 16384 long) ∙ ap (take 16384) split

-- what is said of a success, where there is one
pub added : {E P : Type 0} (r : Result (Unit {0}) E) → IsOk r → OnOk r P → P
added (Ok u) ok h = h
added (Err e) ok h = absurd (true≢false (sym ok))

pub push_fitting : (old new piece : List ℕ) (room fits : ℕ) → room + length old ≡ 16384 → fits ≡ min (length piece) room → new ≡ old ++ take fits piece → capped new ≡ capped (capped old ++ piece)
push_fitting old new piece room fits full least e =
    ap capped e
    ∙ ⊎_elim (λ l. cut_late old piece room fits full (omega arith) l) (λ l. ap (λ ys. capped (old ++ ys)) (take_all fits piece (omega arith))) (cases_lt room (length piece))
    ∙ sym (capped_capped old piece)

pub held_short : (s : Draft) → length (held s) ≤ 16384
unfolding capped
held_short s = simp length-take (omega arith)

-- what a text holds fits
pub held_whole : (s : Draft) → capped (held s ++ []) ≡ held s
held_whole s = ap capped (append-nil (held s)) ∙ capped_short (held s) (held_short s)

-- A loop that pushes what F tells of a list, element by element: what is held and what is left to tell give the whole.
module _ {X : Type 0} (F : List X → List ℕ) (xs : List X) (i : ℕ) (d : X) (now whole : List ℕ) (inv : capped (now ++ F (drop i xs)) ≡ capped whole) where
  pub grow : i < length xs → (after piece rest : List ℕ) → F (get_or xs i d ∷ drop (i + 1) xs) ≡ piece ++ rest → after ≡ capped (now ++ piece) → capped (after ++ rest) ≡ capped whole
  grow l after piece rest e p =
      capped_then after now piece rest p ∙ sym (at_drop_more (λ ys. capped (now ++ F ys)) xs i d l ∙ ap (λ ys. capped (now ++ ys)) e) ∙ inv

pub grown : {X : Type 0} (F : List X → List ℕ) (xs : List X) (i : ℕ) (s : Draft) (whole : List ℕ) → capped (held s ++ F (drop i xs)) ≡ capped whole → length xs ≤ i → F [] ≡ [] → held s ≡ capped whole
grown F xs i s whole inv l e =
    sym (held_whole s) ∙ sym (at_drop_all (λ ys. capped (held s ++ F ys)) xs i l ∙ ap (λ ys. capped (held s ++ ys)) e) ∙ inv

-- a text pushed onto nothing is held whole, if it is short
pub held_all : (now was text : List ℕ) → now ≡ capped (was ++ text) → was ≡ [] → length text ≤ 16384 → now ≡ text
held_all now was text e none short = e ∙ ap (λ xs. capped (xs ++ text)) none ∙ capped_short text short
