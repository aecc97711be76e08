use Rattle.std.proofs.Common.{arith}
use Rattle.lengths.specs.LengthLaws.{length_laws, length_length_rows}
use Rattle.lengths.proofs.length_source.LengthSourceSource.offers.Goals as goal

pub returns : goal.returns
returns c =
    let s = c.args.self.now in
    let same = length_length_rows s.lengths.now s.stock.now s.cut in
    let laws = length_laws s.lengths.now s.stock.now s.cut s.sound in
    record { value = omega (arith, same); bound = omega (arith, same, laws.short) }
