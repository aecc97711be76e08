use Rattle.std.proofs.Common.{◌≡◌, ℕ, ◌%◌, List, [], ◌∷◌, map, length, get_or, Option, sym, refl, ap, ◌∙◌, subst, arith, rules}
use Rattle.paths.specs.Bare.{Link, Task, by_twos, joined, piled, Laid}
use Rattle.paths.specs.Augment.{way}
use Rattle.tables.specs.States.{state}
use Rattle.augments.specs.Laying.{task_of, pile, Pending}
use Rattle.augments.proofs.Ways.{left_end, first_root, odd, pending, short, step_even, step_odd}
use Rattle.augments.proofs.laying.exchange.Goals as goal
use Rattle.augments.proofs.laying.exchange.Goals.{then-i-eq0, else-i-eq0}

pub overflow_cast-from : goal.overflow_cast-from
overflow_cast-from c = let l = first_root c.args.view.tables.now c.args.view.kept c.args.root c.args.offers.now c.requires in search rules

pub invariant_of-laying : goal.invariant_of-laying
invariant_of-laying c = record { full = ap length c.new.ensures.slots ∙ search rules }

pub loop-i-init : goal.loop-i-init
loop-i-init c =
    let s = state c.args.view.tables.now in (
      refl,
      ap (λ ts. piled s (by_twos (way s c.args.root c.args.offers.now)) (map task_of ts)) c.new.ensures.items,
      c.new.ensures.len,
    )

pub join-requires : goal.join-requires
join-requires c =
    let t = c.args.view.tables.now in
    let k = c.args.view.kept in
    let es = c.args.offers.now in
    omega (arith, short t k c.args.root es c.requires, odd t k c.args.root es c.requires, c.loop-i.invariant.2, c.loop-i-test.true, c.if-i-eq0.true)

pub loop-i-preserved : goal.loop-i-preserved
loop-i-preserved c =
    let s = state c.args.view.tables.now in
    let held = pile c.loop-i.laying.stack.slots.now c.loop-i.laying.stack.len in
    let after = pile c.if-i-eq0.laying.stack.slots.now c.if-i-eq0.laying.stack.len in
    let offer = get_or c.args.offers.now c.loop-i.i 0 in
    elim c.if-i-eq0.branch [
      | then-i-eq0 w ↦
          let e = step_even s c.args.offers.now c.loop-i.i c.loop-i.from c.if-i-eq0.from c.loop-i-test.true (w.from-is ∙ c.across-to.ensures)
          c.loop-i.laying.mates c.if-i-eq0.laying.mates held after w.if-i-eq0.true
          (ap (λ z. z.mates) w.laying-is ∙ w.join.ensures.mates ∙ ap (λ (o : ℕ). joined s (record { offer = offer; one = c.loop-i.from; other = o } ∷ []) c.loop-i.laying.mates) (sym w.from-is))
          (ap (λ z. pile z.stack.slots.now z.stack.len) w.laying-is ∙ w.join.ensures.tasks
          ∙ ap (λ (o : ℕ). piled s (record { offer = offer; one = c.loop-i.from; other = o } ∷ []) held) (sym w.from-is)) in
          let l = ap (λ z. z.stack.len) w.laying-is in (
            e.0 ∙ c.loop-i.invariant.0,
            e.1 ∙ c.loop-i.invariant.1,
            omega (arith, l, w.join.ensures.len, c.loop-i.invariant.2, w.if-i-eq0.true),
          )
      | else-i-eq0 w ↦
          let one : c.loop-i.i % 2 ≡ 1 = omega (arith, w.if-i-eq0.false) in
          let e = step_odd s c.args.offers.now c.loop-i.i c.loop-i.from c.if-i-eq0.from c.loop-i-test.true (w.from-is ∙ c.across-to.ensures)
          c.loop-i.laying.mates c.if-i-eq0.laying.mates held after
          one (ap (λ z. z.mates) w.laying-is) (ap (λ z. pile z.stack.slots.now z.stack.len) w.laying-is) in
          let l = ap (λ z. z.stack.len) w.laying-is in (
            e.0 ∙ c.loop-i.invariant.0,
            e.1 ∙ c.loop-i.invariant.1,
            omega (arith, l, c.loop-i.invariant.2, one),
          )
    ]

pub drain-requires : goal.drain-requires
drain-requires c =
    let t = c.args.view.tables.now in
    let k = c.args.view.kept in
    let es = c.args.offers.now in
    let end = left_end (state t) es c.loop-i.i c.loop-i.from c.loop-i-test.false (omega (arith, odd t k c.args.root es c.requires, c.loop-i-test.false, c.loop-i.auto.i-end)) in
    subst (λ (ts : List Task). ∥ Pending (state t) ts ∥₁)
    (sym (ap (λ (ls : List Link). piled (state t) (by_twos ls) (pile c.loop-i.laying.stack.slots.now c.loop-i.laying.stack.len)) (sym end) ∙ c.loop-i.invariant.1))
    (pending t k c.args.root es c.requires)

pub returns : goal.returns
returns c =
    let t = c.args.view.tables.now in
    let s = state t in
    let k = c.args.view.kept in
    let es = c.args.offers.now in
    let end = left_end s es c.loop-i.i c.loop-i.from c.loop-i-test.false (omega (arith, odd t k c.args.root es c.requires, c.loop-i-test.false, c.loop-i.auto.i-end)) in
    let tasks = ap (λ (ls : List Link). piled s (by_twos ls) (pile c.loop-i.laying.stack.slots.now c.loop-i.laying.stack.len)) (sym end) ∙ c.loop-i.invariant.1 in
    let mates = ap (λ (ls : List Link). joined s (by_twos ls) c.loop-i.laying.mates) (sym end) ∙ c.loop-i.invariant.0 in
    subst (λ (m : List (Option ℕ)). Laid s (piled s (by_twos (way s c.args.root es)) []) m c.drain.new.self.mates) mates
    (subst (λ (ts : List Task). Laid s ts c.loop-i.laying.mates c.drain.new.self.mates) tasks c.drain.ensures)
