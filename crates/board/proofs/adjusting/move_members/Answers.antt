use Rattle.board.proofs.Moving.{members_done}
use Rattle.board.proofs.adjusting.move_members.Goals as goal

pub returns : goal.returns
returns c = members_done c.args.tables.now c.args.labels.now c.loop-v.v c.loop-v.tables c.loop-v-test.false c.loop-v.invariant
