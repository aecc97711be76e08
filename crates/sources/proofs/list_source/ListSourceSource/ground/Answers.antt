use Rattle.std.proofs.Common.{rules}
use Rattle.sources.specs.ListLaws.{row_listed}
use Rattle.sources.proofs.list_source.ListSourceSource.ground.Goals as goal

pub returns : goal.returns
returns c = let h = row_listed c.args.self.now.offers.now c.args.offer in search rules
