use Rattle.std.proofs.Common.{Some, sym, ap, ◌∙◌}
use Rattle.tokens.specs.Tokens.{word_of}
use Rattle.tokens.proofs.Runs.{numeral_digits}
use Rattle.forms.proofs.form.number.Goals as goal

pub value-requires : goal.value-requires
value-requires c =
    let read = c.in_ok-digits.field-0 in
    numeral_digits c.args.text.now c.in-Numeral-default.digits.now read.1.now
    (ap (λ w. Some (word_of w, read.1.now)) (sym c.in-Numeral-default.is-0) ∙ c.in_ok-digits.ensures.value)
