use Rattle.std.proofs.Common.{refl}
use Rattle.sources.specs.ListLaws.{list_laws}
use Rattle.sources.proofs.list_source.ListSourceSource.top.Goals as goal

pub returns : goal.returns
returns c =
    let s = c.args.self.now in
    record { value = refl; bound = (list_laws s.n s.top s.offers.now s.sound s.high).low }
