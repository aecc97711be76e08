use Rattle.std.proofs.Common.{◌≡◌, drop}
use Rattle.cutlist.specs.Cutlists.{bad_stock}
use Rattle.cutlist.proofs.check_rising.Given as goal

abbrev pub invariant-loop-i : goal.invariant-loop-i
invariant-loop-i l = bad_stock l.least l.i (drop l.i l.stock) ≡ bad_stock 0 0 l.stock
