use Rattle.std.proofs.Common.{◌-◌, ◌*◌, ap, ◌∙◌, arith}
use Rattle.coarse.proofs.Sizes.{gap_low}
use Rattle.coarse.proofs.CoarseSource.carry.Goals as goal

pub overflow_mul-gap : goal.overflow_mul-gap
overflow_mul-gap g c =
    let small = c.args.self.now.ratio.small in
    let h = gap_low c.from-whole.result c.members-n.result c.top.result c.min-cut.result (omega arith) c.members-n.ensures.bound c.top.ensures.bound (omega arith) in
    omega (arith, h)

pub overflow_add-gap : goal.overflow_add-gap
overflow_add-gap g c =
    let small = c.args.self.now.ratio.small in
    let h = gap_low c.from-whole.result c.members-n.result c.top.result c.min-cut.result (omega arith) c.members-n.ensures.bound c.top.ensures.bound (omega arith) in
    let e = ap (λ p. (c.from-whole.result - 1) * p) (c.from.ensures ∙ c.most_pairs.ensures.value) in
    omega (arith, h, e)
