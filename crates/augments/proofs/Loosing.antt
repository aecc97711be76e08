-- A root with a loose member, looked for along the tables of roots and mates. Assumes nothing.
use Rattle.std.proofs.Common.{◌≡◌, ℕ, suc, ◌+◌, ◌<◌, Bool, true, false, cond, ◌&&◌, ◌||◌, eqb, List, [], ◌∷◌, length, get_or, take, is_some, is_none, Some, None, Option, sym, refl, ap, ◌∙◌, arith}
use Rattle.std.specs.List.{list_any, zip}
use Rattle.std.proofs.lemmas.List.{get_or-take, length-take-le}
use Rattle.matching.specs.State.{root_at}
use Rattle.matching.specs.Mates.{mate}
use Rattle.matching.specs.Mates.{is_none as without}
use Rattle.steps.specs.Searches.{first_from}
use Rattle.paths.specs.Walk.{is_loose}
use Rattle.tables.specs.declared.tables.Tables.{Tables}
use Rattle.tables.specs.States.{state}
use Rattle.tables.specs.Kept.{Keeps}
use Rattle.tables.proofs.Keeping.{few, mates_long, roots_long}

-- a member by its root and its mate
abbrev pub freed_by : ℕ → ℕ × Option ℕ → Bool
freed_by r m = eqb m.0 r && is_none m.1

one_more : (b l : Bool) (r : Option ℕ) (i : ℕ) → l ≡ is_some r → (b || l) ≡ is_some (cond b (Some i) r)
one_more true l r i h = refl
one_more false l r i h = h

-- along two lists as by the number
any_by : (p : ℕ → Bool) (q : ℕ × Option ℕ → Bool) (xs : List ℕ) (ys : List (Option ℕ)) (i : ℕ) → length ys ≡ length xs →
    ((k : ℕ) → k < length xs → q (get_or xs k 0, get_or ys k None) ≡ p (i + k)) → list_any q (zip xs ys) ≡ is_some (first_from p i (length xs))
any_by p q [] ys i long same = refl
any_by p q (x ∷ xs) [] i long same = absurd (omega arith)
any_by p q (x ∷ xs) (y ∷ ys) i long same =
    ap (λ b. b || list_any q (zip xs ys)) (same 0 (omega arith) ∙ ap p (let e : i + 0 ≡ i = omega arith in e))
    ∙ one_more (p i) (list_any q (zip xs ys)) (first_from p (i + 1) (length xs)) i
    (any_by p q xs ys (i + 1) (omega arith) (λ k l. same (suc k) (omega arith) ∙ ap p (let e : i + suc k ≡ i + 1 + k = omega arith in e)))

-- the library's test and the model's are one
pub same_test : (o : Option ℕ) → is_none o ≡ without o
same_test None = refl
same_test (Some e) = refl

pub loose_told : (t : Tables) → Keeps t → (r : ℕ) → list_any (freed_by r) (zip (take t.members t.roots) (take t.members t.mates)) ≡ is_loose (state t) r
loose_told t k r =
    let n = t.members in
    let long = length-take-le n t.roots (omega (arith, few t k, roots_long t k)) in
    any_by (λ v. eqb (root_at (state t) v) r && without (mate t.mates v)) (freed_by r) (take n t.roots) (take n t.mates) 0
    (length-take-le n t.mates (omega (arith, few t k, mates_long t k)) ∙ sym long)
    (λ v l.
    let less : v < n = omega (arith, long) in
    ap (λ x. eqb x r && is_none (get_or (take n t.mates) v None)) (get_or-take n t.roots v 0 less)
    ∙ ap (λ o. eqb (get_or t.roots v 0) r && is_none o) (get_or-take n t.mates v None less)
    ∙ ap (λ b. eqb (get_or t.roots v 0) r && b) (same_test (get_or t.mates v None))
    ∙ ap (λ u. eqb (root_at (state t) u) r && without (mate t.mates u)) (let e : v ≡ 0 + v = omega arith in e))
    ∙ ap (λ m. is_some (first_from (λ v. eqb (root_at (state t) v) r && without (mate t.mates v)) 0 m)) long
