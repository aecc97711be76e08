use Rattle.std.proofs.Common.{◌≡◌, ◌<◌}
use Rattle.numbering.specs.Numbering.{offers_among}
use Rattle.numbering.proofs.members_of.Given as goal

-- the offer lies in a row below that of v, which begins there
abbrev pub invariant-loop-v : goal.invariant-loop-v
invariant-loop-v l = (l.offer < offers_among l.v) × (l.before ≡ offers_among l.v)
