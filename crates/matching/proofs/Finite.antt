-- What holds of each of a few numbers, mates or blossoms, told one by one. Assumes nothing.
use Rattle.std.proofs.Common.{◌≡◌, ℕ, zero, suc, ◌<◌, Bool, true, false, List, [], ◌∷◌, ◌++◌, length, get_or, replicate, Some, None, Option, sym, refl, ap, ◌∙◌, subst, inl, inr, arith}
use Rattle.std.proofs.lemmas.List.{get_or_past}
use Rattle.std.proofs.lemmas.Bool.{cases_eq, cases_lt, false≢true}
use Rattle.matching.specs.State.{Blossom, no_blossom}
use Rattle.matching.specs.Examples.{filled}

-- P of each number below n
abbrev pub Each : (ℕ → Type 0) → ℕ → Type 0
Each P zero = Unit {0}
Each P (suc n) = Each P n × P n

pub each : (P : ℕ → Type 0) (n : ℕ) → Each P n → (v : ℕ) → v < n → P v
each P zero h v lt = absurd (omega arith)
each P (suc n) h v lt = elim (cases_eq v n) [ inl e ↦ subst P (sym e) h.1 | inr d ↦ each P n h.0 v (omega arith) ]

-- P of the offer of a mate, if there is one
abbrev pub Of : Option ℕ → (ℕ → Type 0) → Type 0
Of None P = Unit {0}
Of (Some d) P = P d

pub some_is : {d e : ℕ} → ◌≡◌ {A = Option ℕ} (Some d) (Some e) → d ≡ e
some_is h = cc

pub none_some : {e : ℕ} → ◌≡◌ {A = Option ℕ} None (Some e) → ⊥
none_some h = let z : ◌≡◌ {A = ℕ} 0 1 = cc in omega arith

pub of_some : (o : Option ℕ) (P : ℕ → Type 0) → Of o P → (e : ℕ) → o ≡ Some e → P e
of_some None P h e q = absurd (none_some q)
of_some (Some d) P h e q = subst P (some_is q) h

-- past the end of a list that is filled up, there is nothing
pub getD_filler : {X : Type 0} (n i : ℕ) (d : X) → get_or (replicate n d) i d ≡ d
getD_filler zero i d = refl
getD_filler (suc n) zero d = refl
getD_filler (suc n) (suc i) d = getD_filler n i d

pub getD_filled : {X : Type 0} (xs : List X) (n i : ℕ) (d : X) → get_or (xs ++ replicate n d) i d ≡ get_or xs i d
getD_filled [] n i d = getD_filler n i d
getD_filled (x ∷ xs) n zero d = refl
getD_filled (x ∷ xs) n (suc i) d = getD_filled xs n i d

used_known : (bs : List Blossom) (n i : ℕ) → (get_or (bs ++ replicate n no_blossom) i no_blossom).used ≡ true → i < length bs
used_known bs n i h = elim (cases_lt i (length bs)) [
  | inl l ↦ l
  | inr l ↦ absurd (false≢true (sym (ap (λ (b : Blossom). b.used) (getD_filled bs n i no_blossom ∙ get_or_past bs i no_blossom l)) ∙ h))
]

pub each_used : (P : ℕ → Type 0) (bs : List Blossom) → Each P (length bs) → (i : ℕ) → (get_or (filled 100 no_blossom bs) i no_blossom).used ≡ true → P i
each_used P bs h i u = each P (length bs) h i (used_known bs _ i u)

pub held_known : (hs : List Bool) (v : ℕ) → get_or hs v false ≡ true → v < length hs
held_known hs v h = elim (cases_lt v (length hs)) [ inl l ↦ l | inr l ↦ absurd (false≢true (sym (get_or_past hs v false l) ∙ h)) ]
