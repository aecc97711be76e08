use Rattle.std.proofs.Common.{◌≡◌, length, IfOk, sym, ap, ◌∙◌, subst, rules}
use Rattle.sheet.specs.Sheets.{sheet_of, placed, Sound}
use Rattle.sheet.proofs.Reading.{by_lines}
use Rattle.sheet.proofs.Soundness.{sheet_sound}
use Rattle.sheet.proofs.reader.read.Goals as goal

pub returns : goal.returns
returns c =
    let slots = c.args.slots.now in
    let input = c.args.input.now in
    let whole = by_lines (length slots) input _ c.in_ok-check_length.ensures in
    let told : c.read_lines.result ≡ (sheet_of (length slots) input).answer = cc (c.read_lines.ensures.answer, ap (λ o. o.answer) whole) in
    let held = c.read_lines.ensures.taken ∙ ap (λ o. placed o.taken slots) whole in
    record {
      answer = told;
      sound = subst (λ r. IfOk r (λ s. Sound s (sheet_of (length slots) input).taken)) (sym told) (sheet_sound (length slots) input);
      taken = search rules;
    }
