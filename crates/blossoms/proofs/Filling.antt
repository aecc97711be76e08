-- A table of 200 places, filled from the first on. Assumes nothing.
use Rattle.std.proofs.Common.{◌≡◌, ℕ, ◌+◌, ◌<◌, ◌≤◌, List, map, length, get_or, set, sym, ap, ◌∙◌, ⊎_elim, arith}
use Rattle.std.proofs.lemmas.List.FromFn.{fill_by_all, length-map-range_with_len, get_or-map-range_with_len}
use Rattle.std.proofs.lemmas.List.{length-set, get_or-set_same, get_or-set_other}
use Rattle.std.proofs.lemmas.Bool.{cases_eq, cases_lt}
use Rattle.matching.specs.Sums.{below}

module _ {X : Type 0} (f : ℕ → X) where
  -- a list told place by place
  pub placed : (xs : List X) (n : ℕ) (d : X) → length xs ≡ n → ((k : ℕ) → k < n → get_or xs k d ≡ f k) → xs ≡ map f (below n)
  unfolding below
  placed xs n d = fill_by_all f xs n d

  pub length_placed : (n : ℕ) → length (map f (below n)) ≡ n
  unfolding below
  length_placed n = length-map-range_with_len f 0 n

  pub getD_placed : (n k : ℕ) (d : X) → k < n → get_or (map f (below n)) k d ≡ f k
  unfolding below
  getD_placed n k d l = get_or-map-range_with_len f 0 n k k d l (omega arith)

pub placed_same : {X : Type 0} (f g : ℕ → X) (n : ℕ) (d : X) → ((k : ℕ) → k < n → f k ≡ g k) → map f (below n) ≡ map g (below n)
placed_same f g n d h = placed g (map f (below n)) n d (length_placed f n) (λ k l. getD_placed f n k d l ∙ h k l)

-- below v the table is filled by f, and from v on it still reads as g
pub record Filled {X : Type 0} (d : X) (f g : ℕ → X) (v : ℕ) (xs : List X) : Type 0 where
  pub long : length xs ≡ 200
  pub done : (u : ℕ) → u < v → get_or xs u d ≡ f u
  pub rest : (u : ℕ) → v ≤ u → u < 200 → get_or xs u d ≡ g u

module _ {X : Type 0} (d : X) (f g : ℕ → X) where
  pub filled_none : (xs : List X) → length xs ≡ 200 → ((u : ℕ) → u < 200 → get_or xs u d ≡ g u) → Filled d f g 0 xs
  filled_none xs long h = record { long = long; done = λ u l. absurd (omega arith); rest = λ u _ l. h u l }

  pub filled_more : (v : ℕ) (xs : List X) (x : X) → v < 200 → x ≡ f v → Filled d f g v xs → Filled d f g (v + 1) (set xs v x)
  filled_more v xs x l e h = record {
    long = length-set xs v x ∙ h.long;
    done = λ u lu. ⊎_elim
        (λ (q : u ≡ v). ap (λ k. get_or (set xs v x) k d) q ∙ get_or-set_same xs v x d (omega (arith, h.long)) ∙ e ∙ ap f (sym q))
        (λ (n : u ≡ v → ⊥). get_or-set_other xs v u x d n ∙ h.done u (⊎_elim (λ k. k) (λ k. absurd (n (omega arith))) (cases_lt u v)))
        (cases_eq u v);
    rest = λ u lu low. get_or-set_other xs v u x d (λ q. omega arith) ∙ h.rest u (omega arith) low;
  }

  pub filled_same : (v : ℕ) (xs : List X) → v < 200 → g v ≡ f v → Filled d f g v xs → Filled d f g (v + 1) xs
  filled_same v xs l e h = record {
    long = h.long;
    done = λ u lu. ⊎_elim
        (λ (q : u ≡ v). h.rest u (omega arith) (omega arith) ∙ ap g q ∙ e ∙ ap f (sym q))
        (λ (n : u ≡ v → ⊥). h.done u (⊎_elim (λ k. k) (λ k. absurd (n (omega arith))) (cases_lt u v)))
        (cases_eq u v);
    rest = λ u lu low. h.rest u (omega arith) low;
  }

  -- past n the two read alike
  pub filled_all : (v : ℕ) (xs : List X) → ((u : ℕ) → v ≤ u → u < 200 → g u ≡ f u) → Filled d f g v xs → xs ≡ map f (below 200)
  filled_all v xs alike h = placed f xs 200 d h.long (λ k l. ⊎_elim (h.done k) (λ m. h.rest k m l ∙ alike k m l) (cases_lt k v))
