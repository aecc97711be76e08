-- The text of an answer as bytes, and what writing it into a buffer answers and leaves. Assumes nothing.
use Rattle.std.specs.Prelude.{ℕ, ◌+◌, cond, List, [], ◌∷◌, ◌++◌, length, drop, Some, None, Ok, Err, codes, Option, Result, nat_le, nat_lt}
use Rattle.std.specs.List.{flat_map}
use Rattle.faults.specs.Codes.{code_of}
use Rattle.faults.specs.declared.code.Code.{Code}
use Rattle.faults.specs.declared.fault.Fault.{Fault}
use Rattle.faults.specs.declared.layers.SheetFault.{SheetFault}
use Rattle.faults.specs.declared.layers.SheetFault.TheVariants.{ShortBuffer}
use Rattle.plan.specs.declared.plan.Plan.{Plan}
use Rattle.plan.specs.Plans.{partners_of}
use Rattle.tokens.specs.Numerals.{numeral_of}

-- numbers, each after a space
abbrev pub spaced : List ℕ → List ℕ
spaced ns = flat_map (λ n. 32 ∷ numeral_of n) ns

-- a line of a name and numbers in brackets, ended by a line feed
abbrev pub form : List ℕ → List ℕ → List ℕ
form name ns = codes "(" ++ (name ++ (spaced ns ++ (codes ")" ++ 10 ∷ [])))

abbrev pub pair_line : ℕ → ℕ → List ℕ
pair_line u v = codes "(pair (" ++ (numeral_of u ++ (codes " " ++ (numeral_of v ++ (codes "))" ++ 10 ∷ []))))

abbrev pub loose_line : ℕ → List ℕ
loose_line v = form (codes "loose") (v ∷ [])

-- a pair is told at the lower of its members
abbrev pub pair_told : ℕ → Option ℕ → List ℕ
pair_told u None = []
pair_told u (Some v) = cond (nat_lt u v) (pair_line u v) []

abbrev pub loose_told : ℕ → Option ℕ → List ℕ
loose_told v None = loose_line v
loose_told v (Some u) = []

-- what is told of each member and its partner, where the first member is u
abbrev pub told_from : (ℕ → Option ℕ → List ℕ) → ℕ → List (Option ℕ) → List ℕ
told_from f u [] = []
told_from f u (m ∷ ms) = f u m ++ told_from f (u + 1) ms

abbrev pub head_line : Plan → List ℕ
head_line p = form (codes "plan") (p.shown ∷ p.ground ∷ p.slack ∷ p.floor ∷ p.loose ∷ [])

abbrev pub plan_text : Plan → List ℕ
plan_text p = head_line p ++ (told_from pair_told 0 (partners_of p) ++ told_from loose_told 0 (partners_of p))

abbrev pub code_text : Code → List ℕ
code_text c = form (codes "refused") (c.layer ∷ c.number ∷ c.place ∷ [])

abbrev pub refusal_text : Fault → List ℕ
refusal_text f = code_text (code_of f)

-- what a buffer holds once a text was written into it: all as before if the text is too long
abbrev pub written : List ℕ → List ℕ → List ℕ
written text old = cond (nat_le (length text) (length old)) (text ++ drop (length text) old) old

-- how long the text is, or that the buffer is too short for it
abbrev pub write_result : List ℕ → List ℕ → Result ℕ SheetFault
write_result text old = cond (nat_le (length text) (length old)) (Ok (length text)) (Err (ShortBuffer (length text)))
