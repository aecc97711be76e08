use Rattle.std.proofs.Common.{rules}
use Rattle.matching.proofs.Duality.{weak_duality}
use Rattle.matching.proofs.theorems.most_lead.Goals as goal

pub returns : goal.returns
returns c = record { value = search rules; duality = weak_duality }
