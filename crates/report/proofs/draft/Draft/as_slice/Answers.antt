use Rattle.std.proofs.Common.{length, sym, ap, ◌∙◌, arith}
use Rattle.report.proofs.Capped.{capped_short}
use Rattle.report.proofs.draft.Draft.as_slice.Goals as goal

pub returns : goal.returns
returns c = c.as_slice.ensures.value ∙ sym (capped_short c.args.self.now.text.items (omega (arith, ap length c.as_slice.ensures.value, c.as_slice.ensures.fits)))
