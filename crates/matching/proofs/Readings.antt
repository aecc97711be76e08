-- What the definitions say of the worked states. Assumes nothing.
use Rattle.std.proofs.Common.{refl, arith}
use Rattle.matching.specs.Sums.{total, below}
use Rattle.matching.specs.Mates.{taken}
use Rattle.matching.specs.Examples.{TriangleReads, NestReads}

pub triangle_reads : TriangleReads
unfolding total below taken
triangle_reads = record {
  weights = (refl, refl, refl);
  before = record { offer_0 = refl; offer_1 = refl; offer_2 = refl; loose = refl; slack = refl };
  at_start = record { offer_0 = refl; offer_1 = refl; offer_2 = refl; loose = refl; slack = refl };
  after_five = record { offer_0 = refl; offer_1 = refl; offer_2 = refl; loose = refl; slack = refl };
  sixth = omega arith;
  after_augment = record { offer_0 = refl; offer_1 = refl; offer_2 = refl; loose = refl; slack = refl };
  after_in_out = record { offer_0 = refl; offer_1 = refl; offer_2 = refl; loose = refl; slack = refl };
  after_shrink = record { offer_0 = refl; offer_1 = refl; offer_2 = refl; loose = refl; slack = refl };
  after_out = record { offer_0 = refl; offer_1 = refl; offer_2 = refl; loose = refl; slack = refl };
  at_end = record { offer_0 = refl; offer_1 = refl; offer_2 = refl; loose = refl; slack = refl };
  ways_before = record { offer_0 = refl; offer_1 = refl; offer_2 = refl };
  ways_paired = record { offer_0 = refl; offer_1 = refl; offer_2 = refl };
  ways_ring = record { offer_0 = refl; offer_1 = refl; offer_2 = refl };
  ways_inside = record { offer_0 = refl; offer_1 = refl; offer_2 = refl };
  pairing = (refl, refl);
}

pub nest_reads : NestReads
unfolding total below taken
nest_reads = record { both = refl; innermost = refl; weight = refl; outer_only = refl; loose = refl; pairing = refl }
