-- Where an offer leads, and whether it is tight, told from the tables. Assumes nothing.
use Rattle.std.proofs.Common.{◌≡◌, ℕ, ◌+◌, ◌*◌, ◌<◌, Bool, cond, eqb, ◌≢◌, [], Some, None, Option, sym, refl, ap, ◌∙◌, subst, arith}
use mathlib.Core.Logic.{∥∥₁_elim}
use native.Mathlib.Nat.{ℕ_set}
use Rattle.std.specs.Option.{unwrap_or}
use Rattle.std.proofs.lemmas.Bool.{cond_both}
use Rattle.matching.specs.declared.row.Row.{Row}
use Rattle.matching.specs.Rows.{row}
use Rattle.matching.specs.State.{or_zero, first_of, second_of, root_at, price_at, around, yz, weight}
use Rattle.steps.proofs.Offers.{outer_offers_move}
use Rattle.paths.specs.Walk.{across}
use Rattle.tables.specs.declared.tables.Tables.{Tables}
use Rattle.tables.specs.States.{offered, state}
use Rattle.tables.specs.Kept.{Keeps}
use Rattle.tables.proofs.Keeping.{row_offered, first_in, second_in, root_low}

-- the k of a state, and 0 before begin
pub or_zero_is : (o : Option ℕ) → unwrap_or o 0 ≡ or_zero o
or_zero_is None = refl
or_zero_is (Some k) = refl

-- an offer leads to nodes
pub across_low : (t : Tables) → Keeps t → (e : ℕ) → e < t.offers → (r : ℕ) → across (state t) e r < 300
across_low t k e l r =
    cond_both (eqb (root_at (state t) (first_of (state t) e)) r) (root_at (state t) (second_of (state t) e)) (root_at (state t) (first_of (state t) e)) (λ n. n < 300)
    (λ _. root_low t k _ (subst (λ (x : Row). x.second < t.members) (sym (row_offered t e l)) (second_in t k e l)))
    (λ _. root_low t k _ (subst (λ (x : Row). x.first < t.members) (sym (row_offered t e l)) (first_in t k e l)))

-- no blossom lies around an offer between two roots
pub unspanned : (t : Tables) → Keeps t → (e : ℕ) → e < t.offers → root_at (state t) (first_of (state t) e) ≢ root_at (state t) (second_of (state t) e) → around (state t) e ≡ 0
unspanned t k e l d = ∥∥₁_elim k (ℕ_set _ _) (λ h. (outer_offers_move (state t) [] e h.kept (omega (arith, h.full)) d).free)

-- yz and W of such an offer, by its row
pub told : (t : Tables) → Keeps t → (e : ℕ) → e < t.offers → root_at (state t) (first_of (state t) e) ≢ root_at (state t) (second_of (state t) e) → (paired : Bool) (k short : ℕ) → k ≡ or_zero t.begun → short ≡ cond paired 0 2 →
    eqb (price_at (state t) (first_of (state t) e) + price_at (state t) (second_of (state t) e) + short) (2 * k * (row (offered t) e).shown) ≡ eqb (yz (state t) e + cond paired 0 2) (weight (state t) e)
told t keeps e l d paired k short is-k is-short =
    ap (λ n. eqb (price_at (state t) (first_of (state t) e) + price_at (state t) (second_of (state t) e) + n) (2 * k * (row (offered t) e).shown)) is-short
    ∙ ap (λ n. eqb (n + cond paired 0 2) (2 * k * (row (offered t) e).shown)) (sym sum)
    ∙ ap (λ n. eqb (yz (state t) e + cond paired 0 2) (2 * n * (row (offered t) e).shown)) is-k
  where
    plus_zero : (n : ℕ) → n + 0 ≡ n
    plus_zero n = omega arith

    sum : yz (state t) e ≡ price_at (state t) (first_of (state t) e) + price_at (state t) (second_of (state t) e)
    sum = ap (λ n. price_at (state t) (first_of (state t) e) + price_at (state t) (second_of (state t) e) + n) (unspanned t keeps e l d) ∙ plus_zero _
