use Rattle.std.proofs.Common.{◌*◌, ap, arith}
use Rattle.matching.proofs.Pairs.{shown_most}
use Rattle.matching.proofs.pairing.most_shown.Goals as goal

pub returns : goal.returns
returns c =
    let e = ap (λ p. p * c.args.top) c.most_pairs.ensures.value in
    record { value = e; bound = λ rows es sound p. omega (arith, e, shown_most c.args.members c.args.top rows sound es p) }
