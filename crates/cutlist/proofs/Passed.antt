-- Lengths and a stock that nothing stands against: how many, how long, and that the stock is rising. Assumes nothing.
use Rattle.std.proofs.Common.{◌≡◌, ℕ, ◌+◌, ◌<◌, ◌≤◌, false, ◌&&◌, leb, List, [], ◌∷◌, length, is_some, None, Ok, Option, sym, arith}
use Rattle.std.specs.Option.{option_map}
use Rattle.std.specs.List.{AllByRecursion as All}
use Rattle.std.proofs.ByRecursion.{All-weaker}
use Rattle.std.proofs.lemmas.Bool.{and_parts, leb-true}
use Rattle.faults.specs.declared.layers.SourceFault.{SourceFault}
use Rattle.faults.specs.declared.layers.SourceFault.TheVariants.{TooManyMembers, BadStock, BadLength, WideCut}
use Rattle.faults.specs.Checks.{judged, or_else, unless}
use Rattle.faults.proofs.Judged.{passed, not_some, or_else_none, unless_none, none_mapped, none_here}
use Rattle.stock.specs.Stock.{Rising, largest_stock}
use Rattle.cutlist.specs.Cutlists.{bad_stock, bad_length, stock_fault, length_fault}

stock_low : (least i : ℕ) (ss : List ℕ) → bad_stock least i ss ≡ None → largest_stock ss ≤ 50000
stock_low least i [] h = omega arith
stock_low least i (s ∷ ss) h =
    let p = none_here (leb least s && leb s 50000) (bad_stock (s + 1) (i + 1) ss) i h in
    let q = and_parts (leb least s) (leb s 50000) p.0 in
    omega (arith, leb-true s 50000 q.1, stock_low (s + 1) (i + 1) ss p.1)

module _ (ls ss : List ℕ) (c : ℕ) (sound : is_some (length_fault ls ss c) ≡ false) where
  abbrev later : Option SourceFault
  later = or_else (option_map BadLength (bad_length (largest_stock ss) 0 ls)) (unless (leb c 20) (WideCut c))

  whole : (unless (leb (length ls) 89) (TooManyMembers (length ls)) ≡ None) × (or_else (stock_fault ss) later ≡ None)
  whole = or_else_none (unless (leb (length ls) 89) (TooManyMembers (length ls))) (or_else (stock_fault ss) later) (not_some (length_fault ls ss c) sound)

  pub members_few : length ls ≤ 89
  members_few = leb-true (length ls) 89 (unless_none (leb (length ls) 89) (TooManyMembers (length ls)) whole.0)

  stock_passed : bad_stock 0 0 ss ≡ None
  stock_passed =
      let h = (or_else_none (stock_fault ss) later whole.1).0 in
      let rest = or_else (unless (leb (length ss) 16) (BadStock 16)) (option_map BadStock (bad_stock 0 0 ss)) in
      let k = (or_else_none (unless (leb 1 (length ss)) (BadStock 0)) rest h).1 in
      none_mapped BadStock (bad_stock 0 0 ss) (or_else_none (unless (leb (length ss) 16) (BadStock 16)) (option_map BadStock (bad_stock 0 0 ss)) k).1

  pub top_low : largest_stock ss ≤ 50000
  top_low = stock_low 0 0 ss stock_passed

rising_from : (least i : ℕ) (ss : List ℕ) → bad_stock least i ss ≡ None → Rising ss × All (λ t. least ≤ t) ss
rising_from least i [] h = (tt, tt)
rising_from least i (s ∷ ss) h =
    let p = none_here (leb least s && leb s 50000) (bad_stock (s + 1) (i + 1) ss) i h in
    let low : least ≤ s = leb-true least s (and_parts (leb least s) (leb s 50000) p.0).0 in
    let r = rising_from (s + 1) (i + 1) ss p.1 in
    ((All-weaker (λ t. s + 1 ≤ t) (λ t. s < t) (λ t k. omega arith) ss r.1, r.0), (low, All-weaker (λ t. s + 1 ≤ t) (λ t. least ≤ t) (λ t k. omega arith) ss r.1))

pub passed_rising : (ls ss : List ℕ) (c : ℕ) → judged (length_fault ls ss c) ≡ Ok tt → Rising ss
passed_rising ls ss c e = (rising_from 0 0 ss (stock_passed ls ss c (passed (length_fault ls ss c) (sym e)))).0
