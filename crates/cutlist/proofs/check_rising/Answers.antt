use Rattle.std.proofs.Common.{ℕ, ◌+◌, ◌&&◌, leb, get_or, drop, Some, Option, Result, sym, ap, ◌∙◌, arith, rules}
use Rattle.std.specs.Option.{option_map}
use Rattle.std.proofs.lemmas.List.{at_drop_more, at_drop_all}
use Rattle.std.proofs.lemmas.Bool.Decides.{nat_tests}
use Rattle.faults.specs.declared.layers.SourceFault.{SourceFault}
use Rattle.faults.specs.declared.layers.SourceFault.TheVariants.{BadStock}
use Rattle.faults.specs.Checks.{judged}
use Rattle.cutlist.specs.Cutlists.{bad_stock}
use Rattle.cutlist.proofs.Branch.{taken, left}
use Rattle.cutlist.proofs.check_rising.Goals as goal

abbrev told : Option ℕ → Result (Unit {0}) SourceFault
told o = judged (option_map BadStock o)

pub returns-then-s-least : goal.returns-then-s-least
returns-then-s-least c =
    let ss = c.args.stock.now in
    let i = c.loop-i.i in
    let least = c.loop-i.least in
    let s = get_or ss i 0 in
    let step = at_drop_more (bad_stock least i) ss i 0 (omega arith) in
    ap told (left (bad_stock least i (drop i ss)) (bad_stock 0 0 ss) (bad_stock (s + 1) (i + 1) (drop (i + 1) ss)) (Some i) (leb least s && leb s 50000) c.loop-i.invariant step (grind (arith, nat_tests)))

pub loop-i-preserved : goal.loop-i-preserved
loop-i-preserved c =
    let ss = c.args.stock.now in
    let i = c.loop-i.i in
    let least = c.loop-i.least in
    let s = get_or ss i 0 in
    let step = at_drop_more (bad_stock least i) ss i 0 (omega arith) in
    let on = taken (bad_stock least i (drop i ss)) (bad_stock 0 0 ss) (bad_stock (s + 1) (i + 1) (drop (i + 1) ss)) (Some i) (leb least s && leb s 50000) c.loop-i.invariant step (grind (arith, nat_tests)) in
    search rules

pub returns : goal.returns
returns c = ap told (sym (at_drop_all (bad_stock c.loop-i.least c.loop-i.i) c.args.stock.now c.loop-i.i (omega arith)) ∙ c.loop-i.invariant)
