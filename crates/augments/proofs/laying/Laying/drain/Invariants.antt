use Rattle.tables.specs.States.{state}
use Rattle.augments.specs.Laying.{pile}
use Rattle.augments.proofs.Works.{Work, effort}
use Rattle.augments.proofs.laying.Laying.drain.Given as goal

abbrev pub invariant-loop-task : goal.invariant-loop-task
invariant-loop-task l =
    Work (state l.view.tables.now) (pile l.initial.self.stack.slots.now l.initial.self.stack.len) l.initial.self.mates (pile l.self.stack.slots.now l.self.stack.len) l.self.mates

abbrev pub decreases-loop-task : goal.decreases-loop-task
decreases-loop-task l = effort (state l.view.tables.now) (pile l.self.stack.slots.now l.self.stack.len)
