use Rattle.std.proofs.Common.{rules}
use Rattle.matching.proofs.Start.{kept_at_start}
use Rattle.matching.proofs.theorems.start_price.Goals as goal

pub returns : goal.returns
returns c = record { value = search rules; kept = kept_at_start }
