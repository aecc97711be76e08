-- What the reader's loop keeps: the lines that are left give the outcome of the whole sheet. Assumes nothing.
use Rattle.std.proofs.Common.{◌≡◌, ℕ, ◌+◌, ◌-◌, ◌<◌, ◌≤◌, min, List, ◌∷◌, ◌++◌, length, take, drop, Some, None, Ok, Err, Option, Result, sym, refl, ap, ◌∙◌, arith}
use Rattle.std.proofs.lemmas.List.{take-append-drop, length-take-le, length-drop, drop-drop}
use Rattle.faults.specs.declared.fault.Fault.{Fault}
use Rattle.faults.specs.declared.layers.SheetFault.{SheetFault}
use Rattle.sources.specs.declared.offer.Offer.{Offer as Listed}
use Rattle.faults.specs.Checks.{judged}
use Rattle.sheet.specs.declared.reader.Reader.{Reader}
use Rattle.sheet.specs.declared.reader.State.{State}
use Rattle.sheet.specs.declared.reader.State.TheVariants.{Frame, Coarse, Body}
use Rattle.sheet.specs.Lines.{lines, first_length}
use Rattle.sheet.specs.Counts.{count}
use Rattle.sheet.specs.Readers.{stage_of, slots_in, stage_at, most_at, judged_line, outcome_at, Lent, told, settled, Moves}
use Rattle.sheet.specs.Sheets.{Stage, start, offers_in, Outcome, onward, over, length_fault, otherwise, sheet_of, placed}
use Rattle.sheet.proofs.LineLengths.{lines_split, first_some}

-- r stands before the lines of rest, begun by first, and the outcome is o
pub record Sofar (first : Reader) (o : Outcome) (rest : List ℕ) (r : Reader) : Type 0 where
  pub lent : Lent first r
  pub same : outcome_at r rest ≡ o
  pub kept : drop (count r.state) (slots_in r) ≡ drop (count r.state) (slots_in first)
  pub few : r.line + length rest ≤ 65536

offers_at : (s : State) (slots : List Listed) → offers_in (stage_of s slots) ≡ take (count s) slots
offers_at Frame slots = refl
offers_at (Coarse n k) slots = refl
offers_at (Body sh) slots = refl

-- the slots hold the offers, and then what they held
placed_at : (r : Reader) (slots : List Listed) → drop (count r.state) (slots_in r) ≡ drop (count r.state) slots → slots_in r ≡ placed (offers_in (stage_at r)) slots
placed_at r slots e =
    let m = count r.state in
    let now = slots_in r in
    let front : placed (take m now) slots ≡ take m now ++ drop m slots = ap (λ n. take m now ++ drop n slots) (length-take-le m now r.within) in
    sym (take-append-drop m now) ∙ ap (λ l. take m now ++ l) e ∙ sym front ∙ ap (λ os. placed os slots) (sym (offers_at r.state now))

ok_step : (s : Stage) (j : Result Stage Fault) (u : Unit {0}) → Ok u ≡ told j → j ≡ Ok (settled s j)
ok_step s (Ok t) u e = refl
ok_step s (Err f) u e = absurd (let z : ◌≡◌ {A = ℕ} 0 1 = cc in omega arith)

err_step : (j : Result Stage Fault) (f : Fault) → Err f ≡ told j → j ≡ Err f
err_step (Ok t) f e = absurd (let z : ◌≡◌ {A = ℕ} 0 1 = cc in omega arith)
err_step (Err g) f e = let same : f ≡ g = cc in ap Err (sym same)

drop_further : (n m : ℕ) (xs ys : List Listed) → n ≤ m → drop n xs ≡ drop n ys → drop m xs ≡ drop m ys
drop_further n m xs ys l e =
    let back : n + (m - n) ≡ m = omega arith in
    ap (λ i. drop i xs) (sym back) ∙ sym (drop-drop (m - n) n xs) ∙ ap (drop (m - n)) e ∙ drop-drop (m - n) n ys ∙ ap (λ i. drop i ys) back

module _ {first : Reader} {o : Outcome} {rest : List ℕ} {r : Reader} (h : Sofar first o rest r) where
  abbrev slots : List Listed
  slots = slots_in first

  -- one line on
  module _ (line after : List ℕ) (answer : Result (Unit {0}) Fault) (r' : Reader) (some : 0 < length rest) (is-line : line ≡ take (first_length rest) rest) (is-after : after ≡ drop (first_length rest) rest) (step : Moves r (judged_line r line) answer r') where
    split : outcome_at r rest ≡ onward (stage_at r) (judged_line r line) (λ s. over (most_at r) (r.line + 1) s (lines after))
    split =
        ap (over (most_at r) r.line (stage_at r)) (lines_split rest some)
        ∙ (λ i. over (most_at r) r.line (stage_at r) (sym is-line i ∷ lines (sym is-after i)))

    kept_on : drop (count r'.state) (slots_in r') ≡ drop (count r'.state) slots
    kept_on = step.rest ∙ drop_further (count r.state) (count r'.state) (slots_in r) slots step.used h.kept

    pub shorter : length after < length rest
    shorter = omega (arith, ap length is-after, length-drop (first_length rest) rest, first_some rest some)

    pub line_taken : (u : Unit {0}) → Ok u ≡ answer → r'.line ≡ r.line + 1 → Sofar first o after r'
    line_taken u ok on =
        let j = ok_step (stage_at r) (judged_line r line) u (ok ∙ step.same) in
        let most : most_at r' ≡ most_at r = ap (min 4000) step.long in
        record {
          lent = h.lent ∙ step.lent;
          same =
              (λ i. over (most i) (on i) (step.stage i) (lines after))
              ∙ sym (split ∙ ap (λ x. onward (stage_at r) x (λ s. over (most_at r) (r.line + 1) s (lines after))) j)
              ∙ h.same;
          kept = kept_on;
          few = omega (arith, shorter, h.few);
        }

    pub record Refused (f : Fault) : Type 0 where
      pub lends : Lent first r'
      pub answers : Err f ≡ o.answer
      pub holds : slots_in r' ≡ placed o.taken slots

    pub line_refused : (f : Fault) → Err f ≡ answer → Refused f
    line_refused f bad =
        let j = err_step (judged_line r line) f (bad ∙ step.same) in
        let stay : stage_at r' ≡ stage_at r = step.stage ∙ ap (settled (stage_at r)) j in
        let out : record { answer = Err f; taken = offers_in (stage_at r) } ≡ o =
        sym (split ∙ ap (λ x. onward (stage_at r) x (λ s. over (most_at r) (r.line + 1) s (lines after))) j) ∙ h.same in
        record {
          lends = h.lent ∙ step.lent;
          answers = ap (λ x. x.answer) out;
          holds = placed_at r' slots kept_on ∙ ap (λ s. placed (offers_in s) slots) stay ∙ ap (λ x. placed x.taken slots) out;
        }

no_fault : (x : Option SheetFault) (o : Outcome) (u : Unit {0}) → Ok u ≡ judged x → o ≡ otherwise x o
no_fault None o u e = refl
no_fault (Some f) o u e = absurd (let z : ◌≡◌ {A = ℕ} 0 1 = cc in omega arith)

-- a sheet that is not too long is judged by its lines
pub by_lines : (n : ℕ) (input : List ℕ) (u : Unit {0}) → Ok u ≡ judged (length_fault input) → over (min 4000 n) 1 start (lines input) ≡ sheet_of n input
by_lines n input u e = no_fault (length_fault input) _ u e
