-- A sheet that is read has a good ratio and good offers. Assumes nothing.
use Rattle.std.proofs.Common.{◌≡◌, ℕ, ◌+◌, ◌≤◌, min, cond, leb, List, [], ◌∷◌, length, IfOk, Some, None, Ok, Err, Option, Result, refl, ap, ⊎_elim, arith}
use Rattle.std.proofs.lemmas.Bool.{cases_Bool, leb-true}
use Rattle.faults.specs.declared.fault.Fault.{Fault}
use Rattle.faults.specs.declared.layers.SheetFault.{SheetFault}
use Rattle.faults.specs.declared.layers.SourceFault.{SourceFault}
use Rattle.faults.specs.declared.layers.SourceFault.TheVariants.{TooManyOffers}
use Rattle.sources.specs.declared.offer.Offer.{Offer as Listed}
use Rattle.faults.specs.Checks.{unless}
use Rattle.faults.proofs.Judged.{or_else_none}
use Rattle.sources.specs.Lists.{size_fault, list_fault}
use Rattle.coarse.specs.Ratios.{ratio_fault}
use Rattle.forms.specs.declared.form.Form.{Form}
use Rattle.forms.specs.declared.form.Form.TheVariants.{Frame, Coarse, Offer}
use Rattle.forms.specs.Forms.{form}
use Rattle.sheet.specs.Lines.{lines}
use Rattle.sheet.specs.Sheets.{Stage, start, framed, listing, unless_fault, room_fault, accept, judge, finish, offers_in, Outcome, onward, over, length_fault, otherwise, sheet_of, Sound}

abbrev Good : Stage → Type 0
Good start = Unit {0}
Good (framed n k) = Unit {0}
Good (listing n k x w os) = ratio_fault x w ≡ None

abbrev Leads : Result Stage Fault → Type 0
Leads r = IfOk r Good

-- an answer that stands only where there is no fault
unless_made : {A : Type 0} (P : A → Type 0) (f : Option SourceFault) (a : A) → (f ≡ None → P a) → IfOk (unless_fault f a) P
unless_made P None a h = h refl
unless_made P (Some f) a h = tt

accept_good : (most line : ℕ) (s : Stage) (f : Form) → Good s → Leads (accept most line s f)
accept_good most line start (Frame n k) g = unless_made Good (size_fault n) (framed n k) (λ _. tt)
accept_good most line start (Coarse x w) g = tt
accept_good most line start (Offer o) g = tt
accept_good most line (framed n k) (Frame _ _) g = tt
accept_good most line (framed n k) (Coarse x w) g = unless_made Good (ratio_fault x w) (listing n k x w []) (λ e. e)
accept_good most line (framed n k) (Offer o) g = tt
accept_good most line (listing n k x w os) (Frame _ _) g = tt
accept_good most line (listing n k x w os) (Coarse _ _) g = tt
accept_good most line (listing n k x w os) (Offer o) g = unless_made Good (room_fault most (length os)) _ (λ _. g)

judge_good : (most line : ℕ) (s : Stage) (f : Option Form) → Good s → Leads (judge most line s f)
judge_good most line s None g = tt
judge_good most line s (Some f) g = accept_good most line s f g

abbrev Fine : Outcome → Type 0
Fine o = IfOk o.answer (λ s. Sound s o.taken)

few_from : (n : ℕ) (os : List Listed) → list_fault n os ≡ None → length os ≤ 4000
few_from n os e =
    let room : unless (leb (length os) 4000) (TooManyOffers 4000) ≡ None = (or_else_none (unless (leb (length os) 4000) (TooManyOffers 4000)) _ (or_else_none (size_fault n) _ e).1).0 in
    ⊎_elim (leb-true (length os) 4000) (λ h. absurd (let full : unless (leb (length os) 4000) (TooManyOffers 4000) ≡ Some (TooManyOffers 4000) = ap (λ b. cond b None (Some (TooManyOffers 4000))) h in let z : ◌≡◌ {A = ℕ} 0 1 = cc in omega arith)) (cases_Bool (leb (length os) 4000))

finish_fine : (line : ℕ) (s : Stage) → Good s → Fine (record { answer = finish line s; taken = offers_in s })
finish_fine line start g = tt
finish_fine line (framed n k) g = tt
finish_fine line (listing n k x w os) g = unless_made (λ s. Sound s os) (list_fault n os) _ (λ e. record { listed = e; ratio = g; counted = refl; few = few_from n os e })

onward_fine : (s : Stage) (r : Result Stage Fault) (go : Stage → Outcome) → Leads r → ((t : Stage) → Good t → Fine (go t)) → Fine (onward s r go)
onward_fine s (Ok t) go g h = h t g
onward_fine s (Err f) go g h = tt

over_fine : (most line : ℕ) (s : Stage) (ls : List (List ℕ)) → Good s → Fine (over most line s ls)
over_fine most line s [] g = finish_fine line s g
over_fine most line s (l ∷ ls) g = onward_fine s (judge most line s (form l)) _ (judge_good most line s (form l) g) (λ t h. over_fine most (line + 1) t ls h)

otherwise_fine : (f : Option SheetFault) (o : Outcome) → Fine o → Fine (otherwise f o)
otherwise_fine None o h = h
otherwise_fine (Some f) o h = tt

pub sheet_sound : (slots : ℕ) (input : List ℕ) → IfOk (sheet_of slots input).answer (λ s. Sound s (sheet_of slots input).taken)
sheet_sound slots input = otherwise_fine (length_fault input) _ (over_fine (min 4000 slots) 1 start (lines input) tt)
