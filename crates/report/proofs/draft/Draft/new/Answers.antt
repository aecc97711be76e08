use Rattle.std.proofs.Common.{[], ap, ◌∙◌, arith}
use Rattle.report.specs.Drafts.{capped}
use Rattle.report.proofs.Capped.{capped_short}
use Rattle.report.proofs.draft.Draft.new.Goals as goal

pub returns : goal.returns
returns c = ap capped c.new.ensures ∙ capped_short [] (omega arith)
