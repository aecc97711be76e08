use Rattle.std.proofs.Common.{◌≡◌, ◌+◌, sym, refl, ap, ◌∙◌, arith}
use Rattle.stack.specs.Items.{items, top, below}
use Rattle.stack.proofs.Tops.{items_pop}
use Rattle.stack.proofs.stack.Stack.pop.Goals as goal

pub returns : goal.returns
returns g c =
    let xs = c.args.self.now.slots.now in
    let left = c.in_ok-self.field-0 in
    let one_more : c.args.self.now.len ≡ left + 1 = omega arith in
    let e = ap (items xs) one_more ∙ items_pop xs left c.index-self-self.result (omega arith) in
    record { value = sym (ap top e); items = sym (ap below e); slots = refl }
