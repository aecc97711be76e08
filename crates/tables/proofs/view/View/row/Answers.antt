use Rattle.std.proofs.Common.{arith}
use Rattle.tables.proofs.Keeping.{few, first_in, second_in, shown_low}
use Rattle.tables.proofs.view.View.row.Goals as goal

pub returns-then-offer-tables-clause-ends : goal.returns-then-offer-tables-clause-ends
returns-then-offer-tables-clause-ends c =
    let t = c.args.self.tables.now in
    let k = c.args.self.kept in
    let low = few t k in
    (omega (arith, low, first_in t k c.args.offer c.if-offer-tables.true), omega (arith, low, second_in t k c.args.offer c.if-offer-tables.true))

pub returns-then-offer-tables-clause-shown : goal.returns-then-offer-tables-clause-shown
returns-then-offer-tables-clause-shown c = shown_low c.args.self.tables.now c.args.self.kept c.args.offer c.if-offer-tables.true
