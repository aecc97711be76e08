use Rattle.std.proofs.Common.{rules}
use Rattle.sources.specs.ListLaws.{list_laws}
use Rattle.sources.proofs.RowBounds.{row_bounds}
use Rattle.sources.proofs.list_source.ListSourceSource.shown.Goals as goal

pub returns : goal.returns
returns c =
    let s = c.args.self.now in
    let b = row_bounds (list_laws s.n s.top s.offers.now s.sound s.high) c.args.offer in
    search rules
