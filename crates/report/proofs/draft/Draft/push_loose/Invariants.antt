use Rattle.report.specs.Drafts.{held}
use Rattle.report.specs.Texts.{loose_told}
use Rattle.report.proofs.Telling.{Telling}
use Rattle.report.proofs.draft.Draft.push_loose.Given as goal

abbrev pub invariant-loop-member : goal.invariant-loop-member
invariant-loop-member l = Telling loose_told 29 l.partners l.member (held l.initial.self) (held l.self)
