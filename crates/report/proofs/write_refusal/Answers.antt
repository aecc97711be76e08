use Rattle.std.proofs.Common.{◌≡◌, ◌≤◌, [], ◌∷◌, ◌++◌, length, codes, ap, ◌∙◌, subst, arith}
use Rattle.report.specs.Drafts.{held, capped}
use Rattle.report.specs.Texts.{form, code_text, refusal_text, written, write_result}
use Rattle.report.proofs.Capped.{held_all}
use Rattle.report.proofs.write_refusal.Goals as goal

pub returns : goal.returns
returns c =
    let old = c.args.buffer.now in
    let code = c.from-code.result in
    let layer = c.from.result in
    let number = c.from-2.result in
    let text = form (codes "refused") (layer ∷ number ∷ code.place ∷ []) in
    let s = held c.push_form.new.self in
    let new = held c.new-text.result in
    let pushed : s ≡ capped (new ++ text) = c.push_form.ensures.text in
    let layer-is : layer ≡ code.layer = c.from.ensures in
    let number_is : number ≡ code.number = c.from-2.ensures in
    let told : text ≡ code_text code = ap (λ l. form (codes "refused") (l ∷ number ∷ code.place ∷ [])) layer-is ∙ ap (λ n. form (codes "refused") (code.layer ∷ n ∷ code.place ∷ [])) number_is in
    let few : length text ≤ 73 = omega (arith, c.push_form.ensures.short) in
    let named : text ≡ refusal_text c.args.fault = told ∙ ap code_text c.from-code.ensures in
    let whole : s ≡ refusal_text c.args.fault = held_all s new text pushed c.new-text.ensures (omega arith) ∙ named in
    record {
      result = c.copy_into.ensures.result ∙ ap (λ t. write_result t old) whole;
      bytes = c.copy_into.ensures.bytes ∙ ap (λ t. written t old) whole;
      short = subst (λ t. length t ≤ 73) named few;
    }
