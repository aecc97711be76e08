use Rattle.std.proofs.Common.{rules}
use Rattle.sources.proofs.RowBounds.{row_bounds}
use Rattle.lengths.specs.LengthLaws.{length_laws}
use Rattle.lengths.proofs.length_source.LengthSourceSource.shown.Goals as goal

pub returns-in-Some : goal.returns-in-Some
returns-in-Some c =
    let s = c.args.self.now in
    let b = row_bounds (length_laws s.lengths.now s.stock.now s.cut s.sound) c.args.offer in
    record { value = search rules; bound = search rules }
