use Rattle.std.proofs.Common.{length, rules}
use Rattle.numbering.specs.Numbering.{twos}
use Rattle.lengths.specs.LengthLaws.{same_at}
use Rattle.lengths.proofs.length_source.LengthSourceSource.ground.Goals as goal

pub returns : goal.returns
returns c =
    let s = c.args.self.now in
    let same = same_at s.lengths.now s.stock.now s.cut (twos (length s.lengths.now)) c.args.offer in
    search rules
