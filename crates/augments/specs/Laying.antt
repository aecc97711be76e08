-- What is still to be laid bare, as a stack holds it, and a ring as the tables hold it. Assumes nothing.
use Rattle.std.specs.Prelude.{ℕ, ◌+◌, ◌-◌, List, ◌∷◌, ◌++◌, map, take, drop, slice_index}
use Rattle.matching.specs.State.{State, blossom_at}
use Rattle.stack.specs.Items.{items}
use Rattle.paths.specs.Bare.{Link, ring, by_twos, Task, piled}
use Rattle.paths.proofs.Laid.{Ready, ApartTasks}
use Rattle.tables.specs.declared.tables.Link.{Link as Entry}
use Rattle.augments.specs.declared.laying.Task.{Task as Chore}

-- a link as the tables number it
abbrev pub link_of : Entry → Link
link_of l = record { part = l.part; offer = l.join }

abbrev pub links_in : List Entry → List Link
links_in ls = map link_of ls

-- a task as the tables number it
abbrev pub task_of : Chore → Task
task_of c = record { node = c.node; member = c.member }

-- the tasks in the first n slots of a stack, the top one first
abbrev pub pile : List Chore → ℕ → List Task
pile slots n = map task_of (items slots n)

-- the part at place i of the ring of the node p, and the offer that joins it to the next
abbrev pub link_at : State → ℕ → ℕ → Link
link_at s p i = record { part = slice_index (blossom_at s (p - 200)).parts i; offer = slice_index (blossom_at s (p - 200)).joins i }

-- the ring of the node p from the part after the one at place i, round to the part before it
abbrev pub turned : State → ℕ → ℕ → List Link
turned s p i = drop (i + 1) (ring s p) ++ take i (ring s p)

-- the tasks once a blossom is opened at the place r of the part that holds the member
abbrev pub opened : State → Task → ℕ → List Task → List Task
opened s t r ts = piled s (by_twos (turned s t.node r)) (record { node = (link_at s t.node r).part; member = t.member } ∷ ts)

-- tasks that can be done: each node is one and holds its member, and no member lies in two of the nodes
pub record Pending (s : State) (ts : List Task) : Type 0 where
  pub ready : Ready s ts
  pub apart : ApartTasks s ts
