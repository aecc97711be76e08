use Rattle.std.proofs.Common.{◌≡◌, ◌+◌, ◌*◌, List, ◌∷◌, drop, sym, ap, ◌∙◌, arith}
use Rattle.paths.specs.Bare.{Link, Join, ring, by_twos, joined, piled}
use Rattle.tables.specs.States.{state}
use Rattle.augments.specs.Laying.{pile, turned}
use Rattle.augments.proofs.Turns.{turn_end, joined_two, piled_two}
use Rattle.augments.proofs.Places.{ringed}
use Rattle.augments.proofs.laying.Laying.open.Goals as goal

pub join-requires : goal.join-requires
join-requires c =
    let r = ringed _ c.args.view.kept _ _ c.requires.blossom c.requires.held _ c.ring_of-ring.ensures.value in
    omega (arith, r.long, r.odd, c.requires.room, c.add.ensures.len, c.loop-i.invariant.2, c.loop-i-test.true)

pub loop-i-preserved : goal.loop-i-preserved
loop-i-preserved c =
    let s = state c.args.view.tables.now in
    let r = ringed _ c.args.view.kept _ _ c.requires.blossom c.requires.held _ c.ring_of-ring.ensures.value in
    let w = r.two c.seat-at.result (2 * c.loop-i.i) c.wrap.result c.wrap-in-loop-i.result (omega (arith, r.long, c.seat-at.ensures.within)) (omega (arith, r.odd, c.loop-i-test.true)) c.wrap.ensures c.wrap-in-loop-i.ensures in
    let ring = turned s c.args.task.node c.seat-at.result in
    let tasks = pile c.join.new.self.stack.slots.now c.join.new.self.stack.len in
    let next : 2 * (c.loop-i.i + 1) ≡ 2 * c.loop-i.i + 2 = omega arith in (
      ap (λ n. joined s (by_twos (drop n ring)) c.join.new.self.mates) next ∙ joined_two s _ _ _ _ c.loop-i.self.mates c.join.new.self.mates w.2 c.join.ensures.mates ∙ c.loop-i.invariant.0,
      ap (λ n. piled s (by_twos (drop n ring)) tasks) next ∙ piled_two s _ _ _ _ (pile c.loop-i.self.stack.slots.now c.loop-i.self.stack.len) tasks w.2 c.join.ensures.tasks ∙ c.loop-i.invariant.1,
      omega (arith, c.join.ensures.len, c.loop-i.invariant.2),
    )

pub returns : goal.returns
returns c =
    let s = state c.args.view.tables.now in
    let r = ringed _ c.args.view.kept _ _ c.requires.blossom c.requires.held _ c.ring_of-ring.ensures.value in
    let at = c.seat-at.result in
    let e = turn_end (ring s c.args.task.node) at (2 * c.loop-i.i) c.seat-at.ensures.within (omega (arith, r.long, r.odd, c.loop-i-test.false)) in
    let first = ap (λ (x : Link). record { node = x.part; member = c.args.task.member } ∷ pile c.args.self.now.stack.slots.now c.args.self.now.stack.len) (r.link at (omega (arith, r.long, c.seat-at.ensures.within))) in
    record {
      within = c.seat-at.ensures.within;
      found = c.seat-at.ensures.found;
      mates = ap (λ (js : List Join). joined s js c.loop-i.self.mates) (sym e) ∙ c.loop-i.invariant.0 ∙ ap (joined s (by_twos (turned s c.args.task.node at))) c.add.ensures.mates;
      tasks = ap (λ (js : List Join). piled s js (pile c.loop-i.self.stack.slots.now c.loop-i.self.stack.len)) (sym e) ∙ c.loop-i.invariant.1
          ∙ ap (piled s (by_twos (turned s c.args.task.node at))) (c.add.ensures.tasks ∙ sym first);
    }
