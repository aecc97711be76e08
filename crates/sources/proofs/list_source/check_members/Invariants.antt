use Rattle.std.proofs.Common.{◌≡◌, drop}
use Rattle.sources.specs.Lists.{names, first_bad}
use Rattle.sources.proofs.list_source.check_members.Given as goal

abbrev pub invariant-loop-i : goal.invariant-loop-i
invariant-loop-i l = first_bad (names l.n) l.i (drop l.i l.offers) ≡ first_bad (names l.n) 0 l.offers
