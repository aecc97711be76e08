-- The facts that every board keeps, one by one, and that making and beginning a board keep them. Assumes nothing.
use Rattle.std.proofs.Common.{◌≡◌, ℕ, ◌*◌, ◌<◌, ◌≤◌, Bool, true, false, cond, ltb, List, map, length, get_or, replicate, None, Option, Ok, Err, Result, sym, refl, ap, ◌∙◌, subst, ⊎_elim, zero-mul, arith}
use mathlib.Core.Logic.{∥∥₁_map}
use lib.ListN.{length-map}
use Rattle.std.proofs.lemmas.List.{get_or-replicate, get_or_past, get_or-map, length-replicate}
use Rattle.std.proofs.lemmas.Bool.{both_ways, cases_lt, ltb-true}
use Rattle.faults.specs.declared.layers.BoardFault.{BoardFault}
use Rattle.faults.specs.declared.layers.BoardFault.TheVariants.{NoMember}
use Rattle.matching.specs.declared.row.Row.{Row}
use Rattle.matching.specs.Rows.{AllSound}
use Rattle.matching.specs.Lawful.{Lawful}
use Rattle.matching.specs.State.{no_blossom}
use Rattle.matching.specs.Kept.{Begun}
use Rattle.matching.specs.Theorems.{AtStart}
use Rattle.matching.proofs.Finite.{none_some, some_is, getD_filler}
use Rattle.matching.proofs.Nodes.{holds_itself}
use Rattle.matching.proofs.Sums.{length_below, getD_below}
use Rattle.matching.proofs.Start.{kept_at_start}
use Rattle.tables.specs.declared.tables.Blossom.{Blossom}
use Rattle.tables.specs.declared.tables.Tables.{Tables}
use Rattle.board.specs.Fresh.{fresh}
use Rattle.tables.specs.States.{offered, blossom_of, state}
use Rattle.tables.specs.Kept.{Held, Keeps}
use Rattle.board.specs.Begins.{begun_with}
use Rattle.board.specs.Questions.{of_member}
use Rattle.board.proofs.Padding.{take_padded}

-- no blossom of a new board is in use
none_used : (i : ℕ) → (get_or (map blossom_of (replicate 100 None)) i no_blossom).used ≡ false
none_used i =
    ⊎_elim
    (λ (l : i < 100). ap (λ b. b.used) (get_or-map blossom_of (replicate 100 None) i None no_blossom (omega (arith, length-replicate {A = Option Blossom} 100 None)) ∙ ap blossom_of (get_or-replicate 100 i None None l)))
    (λ (l : 100 ≤ i). ap (λ b. b.used) (get_or_past (map blossom_of (replicate 100 None)) i no_blossom (omega (arith, length-map (replicate 100 None) blossom_of, length-replicate {A = Option Blossom} 100 None))))
    (cases_lt i 100)

pub fresh_keeps : (n : ℕ) (rs : List Row) (top : ℕ) (carry : ℕ → ℕ) → Lawful n rs top carry → Keeps (fresh n rs top)
fresh_keeps n rs top carry law =
    let same : offered (fresh n rs top) ≡ rs = take_padded rs law.short in
    let start : AtStart (state (fresh n rs top)) = record {
      sized = record {
        few = law.few;
        short = subst (λ l. length l ≤ 4000) (sym same) law.short;
        low = law.low;
        prices = refl;
        mates = refl;
        roots = length_below 200;
        blossoms = length-map (replicate 100 None) blossom_of ∙ length-replicate {A = Option Blossom} 100 None;
      };
      rows = subst (AllSound n top) (sym same) law.sound;
      begun = λ k e. absurd (none_some e);
      floor = sym (zero-mul top);
      prices = λ v l. getD_filler 200 v 0;
      mates = λ v l. getD_filler 200 v None;
      roots = λ v l. getD_below 200 v 0 (omega (arith, law.few));
      blossoms = λ i u. both_ways _ (none_used i) u;
    } in
    ∣ record { short = law.short; full = ap length same; kept = kept_at_start (state (fresh n rs top)) start } ∣₁

pub begun_keeps : (t : Tables) (k : ℕ) → Keeps t → t.begun ≡ None → 1 ≤ k → k ≤ 32 → t.top ≤ 1000 → Keeps (begun_with t k)
begun_keeps t k kept fresh' some most tall =
    ∥∥₁_map kept (λ h. record { short = h.short; full = h.full; kept = kept_at_start (state (begun_with t k)) (start h) })
  where
    start : Held t → AtStart (state (begun_with t k))
    start h =
        let s = h.kept.sized in
        let idle = h.kept.unbegun fresh' in
        record {
          sized = record { few = s.few; short = s.short; low = s.low; prices = refl; mates = s.mates; roots = s.roots; blossoms = s.blossoms };
          rows = h.kept.rows;
          begun = λ j e. subst (Begun (state (begun_with t k))) (some_is e) (record { positive = some; small = most; top = tall });
          floor = refl;
          prices = λ v l. get_or-replicate 200 v (2 * k * t.top) 0 (omega (arith, s.few));
          mates = idle.mates;
          roots = λ v l. sym (h.kept.nested.root_only v v l (holds_itself (state t) v (omega (arith, s.few))) (λ i j u lj. absurd (idle.blossoms i u)));
          blossoms = idle.blossoms;
        }

-- a question on a member is answered only if it is there
pub member_there : (t : Tables) (v : ℕ) (u : Unit {0}) → Ok u ≡ of_member t v tt → v < t.members
member_there t v u h = by (ltb v t.members) refl h
  where
    by : (b : Bool) → ltb v t.members ≡ b → ◌≡◌ {A = Result (Unit {0}) BoardFault} (Ok u) (cond b (Ok tt) (Err (NoMember v))) → v < t.members
    by true e h = ltb-true v t.members e
    by false e h = let z : ◌≡◌ {A = ℕ} 0 1 = cc in absurd (omega arith)
