use Rattle.std.proofs.Common.{arith, rules}
use Rattle.matching.proofs.Duality.{own_pairing, own_size}
use Rattle.matching.proofs.theorems.own_pairs.Goals as goal

pub returns : goal.returns
returns c = record {
  value = search rules;
  held = λ s kept m f. omega (arith, own_size s kept, c.saturating_sub.ensures);
  pairing = own_pairing;
  sizes = own_size;
}
