use Rattle.std.proofs.Common.{◌≡◌, ◌+◌, ◌*◌, drop}
use Rattle.paths.specs.Bare.{by_twos, joined, piled}
use Rattle.tables.specs.States.{state}
use Rattle.augments.specs.Laying.{turned, pile}
use Rattle.augments.proofs.laying.Laying.open.Given as goal

-- what is left of the ring, joined to what is done, is the whole of it
abbrev pub invariant-loop-i : goal.invariant-loop-i
invariant-loop-i l =
    (joined (state l.view.tables.now) (by_twos (drop (2 * l.i) (turned (state l.view.tables.now) l.fn.task.node l.at))) l.self.mates
    ≡ joined (state l.view.tables.now) (by_twos (turned (state l.view.tables.now) l.fn.task.node l.at)) l.initial.self.mates)
    × (piled (state l.view.tables.now) (by_twos (drop (2 * l.i) (turned (state l.view.tables.now) l.fn.task.node l.at))) (pile l.self.stack.slots.now l.self.stack.len)
    ≡ piled (state l.view.tables.now) (by_twos (turned (state l.view.tables.now) l.fn.task.node l.at)) (pile l.initial.self.stack.slots.now l.initial.self.stack.len))
    × (l.self.stack.len ≡ l.initial.self.stack.len + 2 * l.i)
