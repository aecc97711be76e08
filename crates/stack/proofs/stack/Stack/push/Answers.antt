use Rattle.std.proofs.Common.{◌≡◌, ◌<◌, true, ltb, length, sym, ap, ◌∙◌, arith, length-set}
use Rattle.std.proofs.lemmas.Bool.{lt-ltb, cond-true}
use Rattle.faults.specs.Checks.{judged, unless}
use Rattle.faults.specs.declared.layers.StackFault.TheVariants.{Full}
use Rattle.stack.proofs.Tops.{items_push}
use Rattle.stack.proofs.stack.Stack.push.Goals as goal

pub returns : goal.returns
returns g c =
    let xs = c.args.self.now.slots.now in
    let n = c.args.self.now.len in
    let room : n < length xs = c.if-self.false in
    let open' : ltb n (length xs) ≡ true = lt-ltb n (length xs) room in
    record {
      value = sym (ap (λ b. judged (unless b (Full (length xs)))) open');
      items = items_push xs n c.args.item room ∙ sym (cond-true _ _ _ open');
      count = simp length-set;
      refused = λ full. absurd (omega arith);
    }
