use Rattle.std.proofs.Common.{ℕ, Option, Result, ap, arith}
use Rattle.std.specs.Option.{option_map}
use Rattle.std.proofs.lemmas.Bool.Decides.{nat_tests}
use Rattle.faults.specs.declared.layers.SourceFault.{SourceFault}
use Rattle.faults.specs.declared.layers.SourceFault.TheVariants.{HighSaving}
use Rattle.faults.specs.Checks.{judged}
use Rattle.sources.specs.Lists.{modest}
use Rattle.sources.proofs.FirstBad.{bad_here, good_here, none_bad}
use Rattle.sources.proofs.list_source.check_savings.Goals as goal

abbrev told : Option ℕ → Result (Unit {0}) SourceFault
told o = judged (option_map HighSaving o)

pub returns-then-o-gt100000 : goal.returns-then-o-gt100000
returns-then-o-gt100000 c = ap told (bad_here modest c.args.offers.now c.loop-i.i c.loop-i.invariant (omega arith) (grind (arith, nat_tests)))

pub loop-i-preserved : goal.loop-i-preserved
loop-i-preserved c = good_here modest c.args.offers.now c.loop-i.i c.loop-i.invariant (omega arith) (grind (arith, nat_tests))

pub returns : goal.returns
returns c = ap told (none_bad modest c.args.offers.now c.loop-i.i c.loop-i.invariant (omega arith))
