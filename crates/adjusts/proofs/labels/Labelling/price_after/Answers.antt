use Rattle.std.proofs.Common.{arith, rules}
use Rattle.tables.proofs.Keeping.{few}
use Rattle.adjusts.proofs.labels.Labelling.price_after.Goals as goal

pub offset_bounds-self-member : goal.offset_bounds-self-member
offset_bounds-self-member c = let h = few c.args.self.view.tables.now c.args.self.view.kept in search rules

pub bounds-self-member : goal.bounds-self-member
bounds-self-member c = omega (arith, c.args.self.all, c.requires)

pub bounds-self-member-2 : goal.bounds-self-member-2
bounds-self-member-2 c = omega (arith, few c.args.self.view.tables.now c.args.self.view.kept, c.requires)
