-- One offer more in the slots. Assumes nothing.
use Rattle.std.proofs.Common.{◌≡◌, ℕ, ◌+◌, ◌<◌, ◌≤◌, min, cond, ltb, List, [], ◌∷◌, ◌++◌, length, take, drop, set, Some, None, Ok, Err, Result, sym, ap, ◌∙◌, ⊎_elim, arith}
use Rattle.std.proofs.lemmas.List.{length-set, length-take-le, take_more_set, drop-set-lt}
use Rattle.std.proofs.lemmas.Bool.{cases_Bool, ltb-true, lt-ltb}
use Rattle.faults.specs.declared.fault.Fault.{Fault}
use Rattle.faults.specs.declared.layers.SourceFault.TheVariants.{TooManyOffers}
use Rattle.sources.specs.declared.offer.Offer.{Offer as Listed}
use Rattle.faults.specs.Checks.{judged}
use Rattle.forms.specs.declared.form.Form.{Form}
use Rattle.forms.specs.declared.form.Form.TheVariants.{Offer}
use Rattle.sheet.specs.declared.reader.Sheet.{Sheet}
use Rattle.sheet.specs.declared.reader.State.{State}
use Rattle.sheet.specs.declared.reader.State.TheVariants.{Body}
use Rattle.sheet.specs.Counts.{count}
use Rattle.sheet.specs.Readers.{stage_of, told, settled}
use Rattle.sheet.specs.Sheets.{Stage, listing, unless_fault, room_fault, accept}

-- a check of room that found some
pub room_from : (most used : ℕ) (u : Unit {0}) → Ok u ≡ judged (room_fault most used) → used < most
room_from most used u e = ⊎_elim (ltb-true used most) (λ h. absurd (let f : judged (room_fault most used) ≡ Err (TooManyOffers most) = ap (λ b. judged (cond b None (Some (TooManyOffers most)))) h in let z : ◌≡◌ {A = ℕ} 0 1 = cc in omega arith)) (cases_Bool (ltb used most))

abbrev most : List Listed → ℕ
most slots = min 4000 (length slots)

abbrev step : ℕ → State → List Listed → Form → Result Stage Fault
step line s slots f = accept (most slots) line (stage_of s slots) f

-- an offer that is taken, by the state and the slots
pub record Taken (line : ℕ) (s : State) (slots : List Listed) (f : Form) (s' : State) (slots' : List Listed) : Type 0 where
  pub same : Ok tt ≡ told (step line s slots f)
  pub stage : stage_of s' slots' ≡ settled (stage_of s slots) (step line s slots f)
  pub used : count s ≤ count s'
  pub within : count s' ≤ length slots'
  pub long : length slots' ≡ length slots
  pub rest : drop (count s') slots' ≡ drop (count s') slots

module _ (line : ℕ) (sh : Sheet) (slots : List Listed) (o : Listed) (room : sh.offers < most slots) where
  abbrev more : Sheet
  more = record { members = sh.members; k = sh.k; x = sh.x; whole = sh.whole; offers = sh.offers + 1 }

  abbrev after : Stage
  after = listing sh.members sh.k sh.x sh.whole (take sh.offers slots ++ o ∷ [])

  inside : sh.offers < length slots
  inside = omega arith

  accepts : step line (Body sh) slots (Offer o) ≡ Ok after
  accepts =
      ap (λ n. unless_fault (room_fault (most slots) n) after) (let l = inside in length-take-le sh.offers slots (omega arith))
      ∙ ap (λ b. unless_fault (cond b None (Some (TooManyOffers (most slots)))) after) (lt-ltb sh.offers (most slots) room)

  pub offer_taken : Taken line (Body sh) slots (Offer o) (Body more) (set slots sh.offers o)
  offer_taken = record {
    same = sym (ap told accepts);
    stage = ap (listing sh.members sh.k sh.x sh.whole) (take_more_set slots sh.offers o inside) ∙ sym (ap (settled (stage_of (Body sh) slots)) accepts);
    used = omega arith;
    within = let l = inside in simp length-set (omega arith);
    long = length-set slots sh.offers o;
    rest = drop-set-lt (sh.offers + 1) slots sh.offers o (omega arith);
  }

pub taken_by : (line : ℕ) (s t : State) (slots : List Listed) (f g : Form) (s' t' : State) (slots' slots'' : List Listed) → s ≡ t → f ≡ g → s' ≡ t' → slots' ≡ slots'' → Taken line t slots g t' slots'' → Taken line s slots f s' slots'
taken_by line s t slots f g s' t' slots' slots'' a b c d h = rw (a, b, c, d) h
