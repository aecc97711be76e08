use Rattle.std.proofs.Common.{arith}
use Rattle.lengths.specs.LengthLaws.{length_laws}
use Rattle.lengths.proofs.length_source.LengthSourceSource.top.Goals as goal

pub returns : goal.returns
returns c =
    let s = c.args.self.now in
    let laws = length_laws s.lengths.now s.stock.now s.cut s.sound in
    record { value = omega arith; bound = omega (arith, laws.low) }
