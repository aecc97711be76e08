use Rattle.std.proofs.Common.{◌≡◌, ◌++◌, drop}
use Rattle.report.specs.Drafts.{held, capped}
use Rattle.report.specs.Texts.{spaced}
use Rattle.report.proofs.draft.Draft.push_spaced.Given as goal

abbrev pub invariant-loop-number : goal.invariant-loop-number
invariant-loop-number l = capped (held l.self ++ spaced (drop l.number-index l.numbers)) ≡ capped (held l.initial.self ++ spaced l.numbers)
