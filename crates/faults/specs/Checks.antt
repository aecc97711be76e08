-- Checks: the fault that one finds, if any, and what then comes of it. Assumes nothing.
use Rattle.std.specs.Prelude.{Bool, cond, Some, None, Ok, Err, Option, Result}

-- the answer of a check
abbrev pub judged : {E : Type 0} → Option E → Result (Unit {0}) E
judged None = Ok tt
judged (Some f) = Err f

-- a fault, if the test fails
abbrev pub unless : {E : Type 0} → Bool → E → Option E
unless b f = cond b None (Some f)

-- the first of two faults
abbrev pub or_else : {E : Type 0} → Option E → Option E → Option E
or_else None g = g
or_else (Some f) g = Some f

-- what is asked for, or the other where a fault stands against it: what a making that never refuses takes, or what a call leaves
abbrev pub unless_fault : {E A : Type 0} → Option E → A → A → A
unless_fault None asked other = asked
unless_fault (Some f) asked other = other
