-- What stands against a shrink or a dissolve, check by check. Assumes nothing.
use Rattle.std.proofs.Common.{◌≡◌, ℕ, ◌%◌, ◌<◌, ◌≤◌, Bool, true, false, cond, ◌&&◌, eqb, leb, List, [], ◌∷◌, length, is_some, is_none, Some, None, Ok, Err, Option, Result, sym, refl, ap, ◌∙◌, arith, zero, suc, ◌+◌, not, ltb, get_or}
use Rattle.std.proofs.lemmas.Bool.{and_parts, leb-true, ltb-false}
use Rattle.faults.specs.declared.layers.BoardFault.TheVariants.{NotBegun, NotRoot, WrongCount, NoNumber}
use Rattle.faults.specs.Checks.{or_else, unless}
use Rattle.matching.specs.State.{State, Blossom, blossom_at}
use Rattle.steps.specs.Searches.{first_below, some_below}
use Rattle.steps.proofs.Searches.{none_below, found_below, below_some, or_else_none, unless_none}
use Rattle.paths.specs.Walk.{is_root, walk}
use Rattle.rings.specs.Shrink.{is_free, walk_fault, shrink_fault}
use Rattle.rings.specs.Dissolve.{dissolve_fault}
use Rattle.tables.specs.declared.tables.Tables.{Tables}
use Rattle.tables.specs.declared.tables.Blossom.{Blossom as Ring}
use Rattle.tables.specs.States.{blossom_of, state, place}
use Rattle.std.specs.Option.{ok_or}
use Rattle.std.specs.List.{position, position_or_len}
use Rattle.std.proofs.lemmas.List.Quantifiers.{position-Some}
use Rattle.matching.proofs.Finite.{none_some}
use Rattle.tables.specs.Kept.{Keeps}
use Rattle.tables.proofs.Keeping.{blossom_there}
use Rattle.walks.specs.Coming.{walked}
use Rattle.blossoms.specs.Steps.{Places}

past : {E : Type 0} (b : Bool) (f : E) (g : Option E) → b ≡ true → or_else (unless b f) g ≡ g
past b f g h = ap (λ b. or_else (unless b f) g) h

-- where no place is found, none passes
past_all : {X : Type 0} (p : X → Bool) (xs : List X) (d : X) → length xs ≤ position_or_len p xs → (k : ℕ) → k < length xs → p (get_or xs k d) ≡ false
past_all p [] d le k l = absurd (omega arith)
past_all p (x ∷ xs) d le k l = by (past_all p xs d) (p x) refl k l
  where
    by : (length xs ≤ position_or_len p xs → (k : ℕ) → k < length xs → p (get_or xs k d) ≡ false) → (b : Bool) → p x ≡ b → (k : ℕ) → k < length (x ∷ xs) → p (get_or (x ∷ xs) k d) ≡ false
    by rest true e k l = absurd (omega (arith, le, ap (λ c. cond (not c) (1 + position_or_len p xs) 0) e))
    by rest false e zero l = e
    by rest false e (suc k) l = rest (omega (arith, le, ap (λ c. cond (not c) (1 + position_or_len p xs) 0) e)) k (omega arith)

nowhere : {X : Type 0} (p : X → Bool) (xs : List X) (d : X) → position p xs ≡ None → (k : ℕ) → k < length xs → p (get_or xs k d) ≡ false
nowhere p xs d e = past_all p xs d (by (ltb (position_or_len p xs) (length xs)) refl)
  where
    by : (b : Bool) → ltb (position_or_len p xs) (length xs) ≡ b → length xs ≤ position_or_len p xs
    by true h = absurd (none_some (sym e ∙ ap (λ b. cond b (Some (position_or_len p xs)) None) h))
    by false h = ltb-false (position_or_len p xs) (length xs) h

-- whether a place is free, by the tables
module _ (t : Tables) where
  free_there : (i : ℕ) → is_free (state t) i ≡ is_none (place t i)
  free_there i = ap (λ (b : Blossom). cond b.used false true) (blossom_there t i) ∙ by (place t i)
    where
      by : (o : Option Ring) → cond (blossom_of o).used false true ≡ is_none o
      by None = refl
      by (Some b) = refl

  pub lowest_found : length t.blossoms ≡ 100 → position is_none t.blossoms ≡ first_below (is_free (state t)) 100
  lowest_found long = by (position is_none t.blossoms) refl
    where
      by : (o : Option ℕ) → position is_none t.blossoms ≡ o → o ≡ first_below (is_free (state t)) 100
      by None e = sym (none_below (is_free (state t)) 100 (λ u l. free_there u ∙ nowhere is_none t.blossoms None e u (omega (arith, long))))
      by (Some i) e =
          let p = position-Some is_none t.blossoms i None e in
          sym (found_below (is_free (state t)) 100 i (omega (arith, p.0, long)) (free_there i ∙ p.1) (λ u l. free_there u ∙ p.2 u l))

free_used : (b : Bool) → cond b false true ≡ true → b ≡ false
free_used true h = sym h
free_used false h = refl

walked_ok : (o : Result ℕ ℕ) (q : ℕ) → Ok q ≡ walked o → o ≡ Ok q
walked_ok (Ok p) q h = let e : q ≡ p = cc in ap Ok (sym e)
walked_ok (Err i) q h = let z : ◌≡◌ {A = ℕ} 0 1 = cc in absurd (omega arith)

-- a shrink that passes every check finds a free place, if there is one
module _ (s : State) (r : ℕ) (es : List ℕ) (begun : is_some s.begun ≡ true) (root : is_root s r ≡ true) (counted : (eqb (length es % 2) 1 && leb 3 (length es)) ≡ true)
    (q : ℕ) (arrived : Ok q ≡ walked (walk s (Some r) false (r ∷ []) 0 r es)) where
  last : shrink_fault s r es ≡ unless (some_below (is_free s) 100) NoNumber
  last =
      past (is_some s.begun) NotBegun _ begun
      ∙ past (is_root s r) (NotRoot r) _ root
      ∙ past (eqb (length es % 2) 1 && leb 3 (length es)) (WrongCount (length es)) _ counted
      ∙ ap (λ (o : Result ℕ ℕ). or_else (walk_fault o) (unless (some_below (is_free s) 100) NoNumber)) (walked_ok _ q arrived)

  pub places_by : (found : Option ℕ) → found ≡ first_below (is_free s) 100 → Places s r es (ok_or found NoNumber)
  places_by None looked = last ∙ ap (λ (o : Option ℕ). unless (is_some o) NoNumber) (sym looked)
  places_by (Some i) looked =
      let found = below_some (is_free s) 100 i (sym looked) in
      record {
        none = last ∙ ap (λ (o : Option ℕ). unless (is_some o) NoNumber) (sym looked);
        low = found.0;
        free = free_used (blossom_at s i).used found.1;
      }

-- a node that may be dissolved is a blossom's
module _ (t : Tables) (k : Keeps t) (p : ℕ) (fine : dissolve_fault (state t) p ≡ None) where
  both : (leb 200 p ≡ true) × (is_root (state t) p ≡ true)
  both =
      let a = or_else_none (unless (is_some t.begun) NotBegun) _ fine in
      let b = or_else_none (unless (leb 200 p && is_root (state t) p) (NotRoot p)) _ a.1 in
      and_parts (leb 200 p) (is_root (state t) p) (unless_none _ (NotRoot p) b.0)

  pub node_from : 200 ≤ p
  node_from = leb-true 200 p both.0
