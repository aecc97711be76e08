-- What a check that is passed, or not, has found; and checks one after the other. Assumes nothing.
use Rattle.std.proofs.Common.{◌≡◌, ℕ, Bool, true, false, cond, is_some, Some, None, Ok, Err, Option, Result, refl, arith}
use Rattle.std.specs.Option.{option_map, ok_or}
use Rattle.std.proofs.lemmas.Bool.{true≢false}
use Rattle.faults.specs.Checks.{judged, or_else, unless}

pub told_ok : {E : Type 0} (o : Option E) (u : Unit {0}) → ◌≡◌ {A = Result (Unit {0}) E} (Ok u) (judged o) → o ≡ None
told_ok None u h = refl
told_ok (Some f) u h = let z : ◌≡◌ {A = ℕ} 0 1 = cc in absurd (omega arith)

pub told_err : {E : Type 0} (o : Option E) (f : E) → ◌≡◌ {A = Result (Unit {0}) E} (Err f) (judged o) → o ≡ Some f
told_err None f h = let z : ◌≡◌ {A = ℕ} 0 1 = cc in absurd (omega arith)
told_err (Some g) f h = cc

pub passed : {E : Type 0} (o : Option E) → Ok tt ≡ judged o → is_some o ≡ false
passed None e = refl
passed (Some f) e = let z : ◌≡◌ {A = ℕ} 0 1 = cc in absurd (omega arith)

pub not_some : {E : Type 0} (o : Option E) → is_some o ≡ false → o ≡ None
not_some None e = refl
not_some (Some f) e = absurd (true≢false e)

-- a value or a fault in its place
pub or_fault_ok : {X E : Type 0} (o : Option X) (f : E) (x : X) → ◌≡◌ {A = Result X E} (Ok x) (ok_or o f) → o ≡ Some x
or_fault_ok None f x h = let z : ◌≡◌ {A = ℕ} 0 1 = cc in absurd (omega arith)
or_fault_ok (Some y) f x h = cc

pub or_fault_err : {X E : Type 0} (o : Option X) (f g : E) → ◌≡◌ {A = Result X E} (Err g) (ok_or o f) → (o ≡ None) × (g ≡ f)
or_fault_err None f g h = (refl, cc)
or_fault_err (Some y) f g h = let z : ◌≡◌ {A = ℕ} 0 1 = cc in absurd (omega arith)

-- where no fault is found, each test passed
pub or_else_none : {E : Type 0} (f g : Option E) → or_else f g ≡ None → (f ≡ None) × (g ≡ None)
or_else_none None g e = (refl, e)
or_else_none (Some f) g e = let z : ◌≡◌ {A = ℕ} 0 1 = cc in absurd (omega arith)

pub unless_none : {E : Type 0} (b : Bool) (f : E) → unless b f ≡ None → b ≡ true
unless_none true f e = refl
unless_none false f e = let z : ◌≡◌ {A = ℕ} 0 1 = cc in absurd (omega arith)

pub none_mapped : {X E : Type 0} (F : X → E) (o : Option X) → option_map F o ≡ None → o ≡ None
none_mapped F None e = refl
none_mapped F (Some x) e = let z : ◌≡◌ {A = ℕ} 0 1 = cc in absurd (omega arith)

-- the first that fails is looked for from here on
pub none_here : (b : Bool) (r : Option ℕ) (i : ℕ) → cond b r (Some i) ≡ None → (b ≡ true) × (r ≡ None)
none_here true r i e = (refl, e)
none_here false r i e = let z : ◌≡◌ {A = ℕ} 0 1 = cc in absurd (omega arith)
