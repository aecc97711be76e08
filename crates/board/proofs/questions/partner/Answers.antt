use Rattle.std.proofs.Common.{arith, rules}
use Rattle.tables.proofs.Keeping.{few}
use Rattle.board.proofs.Partners.{partner_first, partner_second}
use Rattle.board.proofs.questions.partner.Goals as goal

pub offset_bounds-view-member : goal.offset_bounds-view-member
offset_bounds-view-member c = let f = few c.args.view.tables.now c.args.view.kept in search rules

pub bounds-view-member : goal.bounds-view-member
bounds-view-member c = omega (arith, few c.args.view.tables.now c.args.view.kept, c.requires)

pub returns-then-row-member : goal.returns-then-row-member
returns-then-row-member c = partner_second c.args.view.tables.now c.args.member c.in_ok-mate.mate c.in_ok-mate.was c.row-row.result c.row-row.ensures.value c.if-row-member.true

pub returns-else-row-member : goal.returns-else-row-member
returns-else-row-member c = partner_first c.args.view.tables.now c.args.member c.in_ok-mate.mate c.in_ok-mate.was c.row-row.result c.row-row.ensures.value c.if-row-member.false
