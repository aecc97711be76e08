use Rattle.std.proofs.Common.{◌≡◌, length, arith, rules}
use Rattle.tables.specs.States.{state}
use Rattle.blossoms.proofs.Passing.{few_offers, first_low, sofar_none, sofar_next, at_low, parts_all, joins_all, marks_all}
use Rattle.blossoms.proofs.shrinking.links_of.Goals as goal

pub overflow_cast-part : goal.overflow_cast-part
overflow_cast-part c = let l = first_low c.args.view.tables.now c.args.view.kept c.args.root c.args.offers.now c.requires in search rules

pub loop-i-init : goal.loop-i-init
loop-i-init c = sofar_none (state c.args.view.tables.now) c.args.root c.args.offers.now

pub bounds-links-i : goal.bounds-links-i
bounds-links-i c = omega (arith, few_offers c.args.view.tables.now c.args.view.kept c.args.root c.args.offers.now c.requires, c.loop-i-test.true)

pub bounds-marks-part : goal.bounds-marks-part
bounds-marks-part c = at_low c.args.view.tables.now c.args.view.kept c.args.root c.args.offers.now c.requires c.loop-i.i c.loop-i.part c.loop-i.links c.loop-i.marks c.loop-i.invariant c.loop-i-test.true

pub loop-i-preserved : goal.loop-i-preserved
loop-i-preserved c =
    let t = c.args.view.tables.now in
    let k = c.args.view.kept in
    let r = c.args.root in
    let es = c.args.offers.now in
    let less = c.loop-i-test.true in
    sofar_next (state t) r es c.loop-i.i c.loop-i.part c.loop-i.links c.loop-i.marks c.loop-i.invariant less c.across-part.result c.across-part.ensures (omega (arith, few_offers t k r es c.requires))
    (at_low t k r es c.requires c.loop-i.i c.loop-i.part c.loop-i.links c.loop-i.marks c.loop-i.invariant less)

pub returns : goal.returns
returns c =
    let t = c.args.view.tables.now in
    let s = state t in
    let r = c.args.root in
    let es = c.args.offers.now in
    let all : c.loop-i.i ≡ length es = omega (arith, c.loop-i-test.false, c.loop-i.auto.i-end) in
    let few = few_offers t c.args.view.kept r es c.requires in
    record {
      parts = parts_all s r es c.loop-i.i c.loop-i.part c.loop-i.links c.loop-i.marks c.loop-i.invariant all few;
      joins = joins_all s r es c.loop-i.i c.loop-i.part c.loop-i.links c.loop-i.marks c.loop-i.invariant all few;
      marks = marks_all s r es c.loop-i.i c.loop-i.part c.loop-i.links c.loop-i.marks c.loop-i.invariant all;
    }
