use Rattle.std.proofs.Common.{◌≡◌, Some, sym, ap, ◌∙◌, rules}
use Rattle.std.specs.List.{fold}
use Rattle.forms.specs.Forms.{digit_more}
use Rattle.forms.proofs.Amounts.{value_folded}
use Rattle.forms.proofs.form.value.Goals as goal

pub returns : goal.returns
returns c =
    let all : c.fold.result ≡ fold digit_more 0 c.args.digits.now = search rules in
    ap Some all ∙ value_folded c.args.digits.now c.requires (sym c.if-not-is_plain.ensures)
