use Rattle.std.proofs.Common.{◌≡◌, ◌≤◌, ◌∷◌, length, sym, ap, ◌∙◌, arith}
use Rattle.tables.proofs.Numbered.{member_is, blossom_is}
use Rattle.tables.specs.States.{state}
use Rattle.augments.specs.Laying.{pile, task_of}
use Rattle.augments.proofs.Works.{begin, finish, popped, emptied, length_pile, task_holds, task_room, alone_falls, alone_work, open_falls, open_work}
use Rattle.augments.proofs.laying.Laying.drain.Goals as goal

pub loop-task-init : goal.loop-task-init
loop-task-init c = begin (state c.args.view.tables.now) _ _ c.requires

pub open-requires : goal.open-requires
open-requires c =
    let is = popped c.loop-task.self.stack.slots.now c.pop.new.self.slots.now c.loop-task.self.stack.len c.pop.new.self.len c.in-Some.task c.in-Some.ensures.value c.in-Some.ensures.items in
    let high = (blossom_is c.in-Some.task.node c.in-Blossom.field-0 (sym c.from.ensures ∙ c.in-Blossom.is)).0 in
    let after = c.pop.new.self in
    record {
      blossom = high;
      held = task_holds c.args.view.tables.now c.args.view.kept _ _ _ _ (task_of c.in-Some.task) _ is c.loop-task.invariant;
      room = omega (
        arith,
        task_room c.args.view.tables.now c.args.view.kept _ _ _ _ (task_of c.in-Some.task) _ is c.loop-task.invariant high,
        length_pile after.slots.now after.len after.fits,
        ap length c.in-Some.ensures.slots,
        c.loop-task.self.full,
      );
    }

-- what was popped stood on top of what is left
blossom_on : (c : goal.After-open) → pile c.loop-task.self.stack.slots.now c.loop-task.self.stack.len ≡ (task_of c.in-Some.task ∷ pile c.pop.new.self.slots.now c.pop.new.self.len)
blossom_on c = popped c.loop-task.self.stack.slots.now c.pop.new.self.slots.now c.loop-task.self.stack.len c.pop.new.self.len c.in-Some.task c.in-Some.ensures.value c.in-Some.ensures.items

high_at : (c : goal.After-open) → 200 ≤ c.in-Some.task.node
high_at c = (blossom_is c.in-Some.task.node c.in-Blossom.field-0 (sym c.from.ensures ∙ c.in-Blossom.is)).0

pub loop-task-smaller-in-Blossom : goal.loop-task-smaller-in-Blossom
loop-task-smaller-in-Blossom c =
    open_falls c.args.view.tables.now c.args.view.kept _ _ _ _ (task_of c.in-Some.task) _ (blossom_on c) c.loop-task.invariant (high_at c) c.open.result c.open.ensures.within c.open.ensures.found _ _ c.open.ensures.tasks c.open.ensures.mates

pub loop-task-preserved-in-Blossom : goal.loop-task-preserved-in-Blossom
loop-task-preserved-in-Blossom c =
    open_work c.args.view.tables.now c.args.view.kept _ _ _ _ (task_of c.in-Some.task) _ (blossom_on c) c.loop-task.invariant (high_at c) c.open.result c.open.ensures.within c.open.ensures.found _ _ c.open.ensures.tasks c.open.ensures.mates

member_on : (c : goal.In_default-from) → pile c.loop-task.self.stack.slots.now c.loop-task.self.stack.len ≡ (task_of c.in-Some.task ∷ pile c.pop.new.self.slots.now c.pop.new.self.len)
member_on c = popped c.loop-task.self.stack.slots.now c.pop.new.self.slots.now c.loop-task.self.stack.len c.pop.new.self.len c.in-Some.task c.in-Some.ensures.value c.in-Some.ensures.items

pub loop-task-smaller : goal.loop-task-smaller
loop-task-smaller c =
    alone_falls c.args.view.tables.now c.args.view.kept _ _ _ _ (task_of c.in-Some.task) _ (member_on c) c.loop-task.invariant

pub loop-task-preserved : goal.loop-task-preserved
loop-task-preserved c =
    let low = (member_is c.in-Some.task.node c.in_default-from.field-0 (sym c.from.ensures ∙ c.in_default-from.is)).0 in
    alone_work c.args.view.tables.now c.args.view.kept _ _ _ _ (task_of c.in-Some.task) _ (member_on c) c.loop-task.invariant low

pub returns : goal.returns
returns c = finish (state c.args.view.tables.now) _ _ _ _ (emptied c.loop-task.self.stack.slots.now c.loop-task.self.stack.len c.in_default.ensures.value) c.loop-task.invariant
