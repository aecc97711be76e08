use Rattle.std.proofs.Common.{arith}
use Rattle.sources.specs.ListLaws.{list_laws}
use Rattle.sources.proofs.list_source.ListSourceSource.carry.Goals as goal

pub returns : goal.returns
returns c =
    let s = c.args.self.now in
    let laws = list_laws s.n s.top s.offers.now s.sound s.high in
    record { value = omega arith; bound = omega (arith, laws.capped c.args.s) }
