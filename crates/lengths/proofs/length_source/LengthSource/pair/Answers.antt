use Rattle.cutlist.proofs.Passed.{members_few}
use Rattle.lengths.proofs.Offers.{row_of_pair, within}
use Rattle.lengths.proofs.length_source.LengthSource.pair.Goals as goal

pub returns : goal.returns
returns c =
    let s = c.args.self.now in
    let ls = s.lengths.now in
    let few = members_few ls s.stock.now s.cut s.sound in
    let told = c.members_of.ensures in
    record {
      row = row_of_pair ls s.stock.now s.cut few c.args.offer c.members_of.result told.value told.back;
      within = within ls s.stock.now s.cut few c.args.offer c.members_of.result told.back;
    }
