-- The products and sums of a carry stay far below 64 bits. Assumes nothing.
use Rattle.std.proofs.Common.{ℕ, ◌+◌, ◌-◌, ◌*◌, ◌/◌, ◌≤◌, mul-le-mul, arith}
use Rattle.sources.specs.ListLaws.{most_low}

pub gap_low : (N n top cut : ℕ) → N ≤ 100000 → n ≤ 200 → top ≤ 100000 → cut ≤ n / 2 * top → N * cut + (N - 1) * (n / 2) ≤ 1000010000000
gap_low N n top cut small few low short =
    let p : n / 2 ≤ 100 = omega arith in
    let k : N - 1 ≤ 100000 = omega arith in
    let c : cut ≤ 10000000 = omega (arith, most_low n top few low) in
    let l : N * cut ≤ 100000 * 10000000 = mul-le-mul small c in
    let r : (N - 1) * (n / 2) ≤ 100000 * 100 = mul-le-mul k p in
    omega arith
