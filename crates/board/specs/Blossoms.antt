-- The questions on blossoms. Assumes nothing.
use Rattle.std.specs.Prelude.{ℕ, ◌-◌, cond, ◌&&◌, length, Some, None, Option, nat_le, nat_lt, slice_index}
use Rattle.matching.specs.State.{State, Blossom, blossom_at}
use Rattle.matching.specs.Kept.{part_at}
use Rattle.tables.specs.declared.tables.Blossom.{Blossom as Entry}
use Rattle.tables.specs.declared.tables.Tables.{Tables}
use Rattle.tables.specs.States.{place}

-- an answer on the blossom p, and nothing of a node that is no blossom in use
abbrev pub of_blossom : {X : Type 0} → State → ℕ → (Blossom → Option X) → Option X
of_blossom s p answer = cond (nat_le 200 p && (blossom_at s (p - 200)).used) (answer (blossom_at s (p - 200))) None

-- the blossom in the tables that the node p is
abbrev pub entry_of : Tables → ℕ → Option Entry
entry_of t p = cond (nat_lt p 200) None (place t (p - 200))

-- the part at a place of the ring and the offer that joins it to the next, and nothing past the last
abbrev pub link_of : ℕ → Blossom → Option (ℕ × ℕ)
link_of j b = cond (nat_lt j (length b.parts)) (Some (part_at b j, slice_index b.joins j)) None
