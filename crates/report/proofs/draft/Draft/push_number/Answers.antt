use Rattle.std.proofs.Common.{◌++◌, sym, ap, ◌∙◌, arith}
use Rattle.report.specs.Drafts.{held, capped}
use Rattle.tokens.proofs.Numerals.{numeral_written}
use Rattle.report.proofs.draft.Draft.push_number.Goals as goal

pub returns : goal.returns
returns c =
    let text = c.as_bytes.ensures.value ∙ c.format.ensures.text ∙ sym (numeral_written c.args.number (omega arith)) in
    c.push.ensures ∙ ap (λ ds. capped (held c.args.self.now ++ ds)) text
