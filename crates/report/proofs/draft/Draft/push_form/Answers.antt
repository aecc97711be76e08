use Rattle.std.proofs.Common.{ℕ, List, [], ◌∷◌, ◌++◌, ap, ◌∙◌, append_assoc, arith}
use Rattle.report.specs.Drafts.{held, capped}
use Rattle.report.specs.Texts.{spaced}
use Rattle.report.proofs.Capped.{push_then}
use Rattle.report.proofs.Decimal.{form_short}
use Rattle.report.proofs.draft.Draft.push_form.Goals as goal

pub returns : goal.returns
returns c =
    let was = held c.args.self.now in
    let name = c.args.name.now in
    let numbers = spaced c.args.numbers.now in
    let opened = held c.push.new.self in
    let named = held c.push-2.new.self in
    let numbered = held c.push_spaced.new.self in
    let closed = held c.push-3.new.self in
    let end : List ℕ = 41 ∷ 10 ∷ [] in
    let e1 = push_then named opened was (40 ∷ []) name c.push.ensures c.push-2.ensures in
    let e2 = push_then numbered named was (40 ∷ name) numbers e1 c.push_spaced.ensures in
    let e3 = push_then closed numbered was (40 ∷ (name ++ numbers)) end e2 c.push-3.ensures in
    record {
      text = e3 ∙ ap (λ ys. capped (was ++ 40 ∷ ys)) (append_assoc name numbers end);
      short = form_short name c.args.numbers.now (λ i. omega (arith, c.type_inv.numbers i));
    }
