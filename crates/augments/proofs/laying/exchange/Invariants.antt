use Rattle.std.proofs.Common.{◌≡◌, ◌+◌, ◌%◌, []}
use Rattle.paths.specs.Bare.{by_twos, joined, piled}
use Rattle.paths.specs.Augment.{way}
use Rattle.tables.specs.States.{state}
use Rattle.augments.specs.Laying.{pile}
use Rattle.augments.proofs.Ways.{left}
use Rattle.augments.proofs.laying.exchange.Given as goal

-- what is left of the way, joined to what is done, is the whole of it
abbrev pub invariant-loop-i : goal.invariant-loop-i
invariant-loop-i l =
    (joined (state l.view.tables.now) (by_twos (left (state l.view.tables.now) l.offers l.i l.from)) l.laying.mates
    ≡ joined (state l.view.tables.now) (by_twos (way (state l.view.tables.now) l.root l.offers)) l.view.tables.now.mates)
    × (piled (state l.view.tables.now) (by_twos (left (state l.view.tables.now) l.offers l.i l.from)) (pile l.laying.stack.slots.now l.laying.stack.len)
    ≡ piled (state l.view.tables.now) (by_twos (way (state l.view.tables.now) l.root l.offers)) [])
    × (l.laying.stack.len ≡ l.i + l.i % 2)
