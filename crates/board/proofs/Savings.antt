-- The sum over the paired offers, one offer after the other. Assumes nothing.
use Rattle.std.proofs.Common.{◌≡◌, ℕ, ◌+◌, ◌*◌, ◌<◌, ◌≤◌, Bool, true, false, cond, List, [], ◌∷◌, ◌++◌, filter, sym, ap, ◌∙◌, append-nil, add-one, arith}
use Rattle.std.proofs.lemmas.List.Elements.{filter-append}
use Rattle.matching.specs.Rows.{row}
use Rattle.matching.specs.Sums.{total, below}
use Rattle.matching.specs.Mates.{paired, taken}
use Rattle.matching.proofs.Sums.{total_nil, total_cons, total_append, below_push, below_none}
use Rattle.board.specs.declared.saving.Saving.{Saving}
use Rattle.board.specs.declared.saving.Saving.TheVariants.{Shown, Ground}
use Rattle.tables.specs.declared.tables.Tables.{Tables}
use Rattle.tables.specs.States.{offered}
use Rattle.tables.specs.Kept.{Keeps}
use Rattle.board.specs.Savings.{saving_in, saved}
use Rattle.tables.proofs.Keeping.{full, row_offered, shown_low, ground_low}

-- sum is what the paired offers below e save
pub record Sofar (s : Saving) (t : Tables) (e sum : ℕ) : Type 0 where
  pub value : sum ≡ total (λ d. saving_in s (row (offered t) d)) (filter (paired (offered t) t.mates) (below e))
  pub bound : sum ≤ 100000 * e

module _ (s : Saving) (t : Tables) where
  abbrev each : ℕ → ℕ
  each d = saving_in s (row (offered t) d)

  abbrev keep : List ℕ → List ℕ
  keep es = filter (paired (offered t) t.mates) es

  pub sofar_none : Sofar s t 0 0
  sofar_none = record { value = sym (ap (λ es. total each (keep es)) below_none ∙ total_nil each); bound = omega arith }

  keep_more : (e : ℕ) (b : Bool) → paired (offered t) t.mates e ≡ b → keep (below (e + 1)) ≡ keep (below e) ++ cond b (e ∷ []) []
  keep_more e b h =
      ap keep (ap below (add-one e) ∙ below_push e)
      ∙ filter-append (paired (offered t) t.mates) (below e) (e ∷ [])
      ∙ ap (λ c. keep (below e) ++ cond c (e ∷ []) []) h

  pub sofar_skip : (e sum : ℕ) → Sofar s t e sum → paired (offered t) t.mates e ≡ false → Sofar s t (e + 1) sum
  sofar_skip e sum h f = record {
    value = h.value ∙ sym (ap (total each) (keep_more e false f ∙ append-nil (keep (below e))));
    bound = omega (arith, h.bound);
  }

  pub saving_low : Keeps t → (e : ℕ) → e < t.offers → saving_in s (row t.rows e) ≤ 100000
  saving_low k e l = by s
    where
      by : (s : Saving) → saving_in s (row t.rows e) ≤ 100000
      by Shown = shown_low t k e l
      by Ground = ground_low t k e l

  pub sofar_more : Keeps t → (e sum x : ℕ) → e < t.offers → Sofar s t e sum → paired (offered t) t.mates e ≡ true → x ≡ saving_in s (row t.rows e) → Sofar s t (e + 1) (sum + x)
  sofar_more k e sum x l h p read =
      let here : x ≡ each e = read ∙ ap (saving_in s) (sym (row_offered t e l)) in
      let more = ap (total each) (keep_more e true p) ∙ total_append each (keep (below e)) (e ∷ []) in
      record {
        value = omega (arith, here, h.value, more, total_cons each e [], total_nil each);
        bound = omega (arith, h.bound, read, saving_low k e l);
      }

  pub sofar_all : Keeps t → (e sum : ℕ) → e ≡ t.offers → Sofar s t e sum → sum ≡ saved s t
  unfolding taken
  sofar_all k e sum end h = h.value ∙ ap (λ n. total each (keep (below n))) (end ∙ sym (full t k))
