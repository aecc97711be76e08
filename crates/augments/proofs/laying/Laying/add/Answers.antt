use Rattle.std.proofs.Common.{◌<◌, length, ap, ◌∙◌, arith}
use Rattle.std.proofs.lemmas.Bool.{cond-true, lt-ltb}
use Rattle.stack.proofs.Tops.{length_items}
use Rattle.augments.proofs.laying.Laying.add.Goals as goal

pub returns-clause-len : goal.returns-clause-len
returns-clause-len c =
    let before = c.args.self.now.stack in
    let after = c.push.new.self in
    let room : before.len < length before.slots.now = omega (arith, c.requires, c.args.self.now.full) in
    let more = c.push.ensures.items ∙ cond-true _ _ _ (lt-ltb _ _ room) in
    omega (arith, ap length more, length_items before.slots.now before.len before.fits, length_items after.slots.now after.len after.fits)
