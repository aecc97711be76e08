-- The end of a sheet whose offers are refused. Assumes nothing.
use Rattle.std.proofs.Common.{◌≡◌, ℕ, List, take, Some, None, Err, Option, sym, ap, ◌∙◌, arith}
use Rattle.faults.specs.declared.fault.Fault.TheVariants.{Source as InSource}
use Rattle.faults.specs.declared.layers.SourceFault.{SourceFault}
use Rattle.sources.specs.declared.offer.Offer.{Offer as Listed}
use Rattle.faults.specs.Checks.{judged}
use Rattle.sources.specs.Lists.{list_fault}
use Rattle.sheet.specs.declared.reader.Sheet.{Sheet}
use Rattle.sheet.specs.declared.reader.State.{State}
use Rattle.sheet.specs.declared.reader.State.TheVariants.{Body}
use Rattle.sheet.specs.Readers.{stage_of}
use Rattle.sheet.specs.Sheets.{unless_fault, finish}

fault_told : {A : Type 0} (x : Option SourceFault) (f : SourceFault) (a : A) → Err f ≡ judged x → Err (InSource f) ≡ unless_fault x a
fault_told None f a e = absurd (let z : ◌≡◌ {A = ℕ} 0 1 = cc in omega arith)
fault_told (Some g) f a e = let same : f ≡ g = cc in ap (λ h. Err (InSource h)) same

pub list_refused : (line : ℕ) (s : State) (sh : Sheet) (slots : List Listed) (f : SourceFault) → s ≡ Body sh → Err f ≡ judged (list_fault sh.members (take sh.offers slots)) → Err (InSource f) ≡ finish line (stage_of s slots)
list_refused line s sh slots f is e =
    fault_told (list_fault sh.members (take sh.offers slots)) f _ e ∙ ap (λ t. finish line (stage_of t slots)) (sym is)
