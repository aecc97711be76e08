-- When a coarse layer of x over N is refused. Assumes nothing.
use Rattle.std.specs.Prelude.{ℕ, ◌&&◌, Option, nat_le}
use Rattle.faults.specs.declared.layers.SourceFault.{SourceFault}
use Rattle.faults.specs.declared.layers.SourceFault.TheVariants.{BadRatio}
use Rattle.faults.specs.Checks.{unless}

abbrev pub ratio_fault : ℕ → ℕ → Option SourceFault
ratio_fault x N = unless (nat_le 1 x && (nat_le x N && nat_le N 100000)) BadRatio
