-- The questions on a board. Assumes nothing.
use Rattle.std.specs.Prelude.{ℕ, cond, List, Ok, Err, Option, Result, nat_lt, slice_index}
use Rattle.faults.specs.declared.layers.BoardFault.{BoardFault}
use Rattle.faults.specs.declared.layers.BoardFault.TheVariants.{NoMember}
use Rattle.matching.specs.Pairings.{shown_of, ground_of}
use Rattle.matching.specs.Mates.{taken, loose, partner}
use Rattle.matching.specs.Slack.{reach}
use Rattle.tables.specs.declared.tables.Tables.{Tables}
use Rattle.tables.specs.States.{offered}

-- the offers of the board's pairing
abbrev pub pairing : Tables → List ℕ
pairing t = taken (offered t) t.mates

-- an answer on a member, or the refusal of one that is not there
abbrev pub of_member : {X : Type 0} → Tables → ℕ → X → Result X BoardFault
of_member t v x = cond (nat_lt v t.members) (Ok x) (Err (NoMember v))

abbrev pub partner_of : Tables → ℕ → Option ℕ
partner_of t v = partner (offered t) t.mates v

abbrev pub price_of : Tables → ℕ → ℕ
price_of t v = slice_index t.prices v

-- the root that a member lies in
abbrev pub root_of : Tables → ℕ → ℕ
root_of t v = slice_index t.roots v

abbrev pub loose_of : Tables → ℕ
loose_of t = loose t.members t.mates

abbrev pub shown_saving : Tables → ℕ
shown_saving t = shown_of (offered t) (pairing t)

abbrev pub ground_saving : Tables → ℕ
ground_saving t = ground_of (offered t) (pairing t)

-- by how much any pairing can show more than the board's
abbrev pub gap : Tables → ℕ
gap t = reach t.begun t.members t.top t.floor (loose_of t)
