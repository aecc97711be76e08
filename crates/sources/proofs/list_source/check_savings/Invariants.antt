use Rattle.std.proofs.Common.{◌≡◌, drop}
use Rattle.sources.specs.Lists.{modest, first_bad}
use Rattle.sources.proofs.list_source.check_savings.Given as goal

abbrev pub invariant-loop-i : goal.invariant-loop-i
invariant-loop-i l = first_bad modest l.i (drop l.i l.offers) ≡ first_bad modest 0 l.offers
