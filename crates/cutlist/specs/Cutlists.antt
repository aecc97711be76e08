-- Member lengths, stock lengths and a saw cut: when they are refused. Assumes nothing.
use Rattle.std.specs.Prelude.{ℕ, ◌+◌, cond, ◌&&◌, List, [], ◌∷◌, length, Some, None, Option, nat_le}
use Rattle.std.specs.Option.{option_map}
use Rattle.faults.specs.declared.layers.SourceFault.{SourceFault}
use Rattle.faults.specs.declared.layers.SourceFault.TheVariants.{TooManyMembers, BadStock, BadLength, WideCut}
use Rattle.faults.specs.Checks.{or_else, unless}
use Rattle.stock.specs.Stock.{largest_stock}

-- the index of the first stock length over 50,000 or not above the one before, where the list's first has index i and may be `least`
abbrev pub bad_stock : ℕ → ℕ → List ℕ → Option ℕ
bad_stock least i [] = None
bad_stock least i (s ∷ ss) = cond (nat_le least s && nat_le s 50000) (bad_stock (s + 1) (i + 1) ss) (Some i)

-- the first member whose length is 0 or over the top, where the list's first is the member i
abbrev pub bad_length : ℕ → ℕ → List ℕ → Option ℕ
bad_length top i [] = None
bad_length top i (l ∷ ls) = cond (nat_le 1 l && nat_le l top) (bad_length top (i + 1) ls) (Some i)

-- a stock has 1 to 16 lengths, strictly rising (the first may be 0), none over 50,000
abbrev pub stock_fault : List ℕ → Option SourceFault
stock_fault ss =
    or_else (unless (nat_le 1 (length ss)) (BadStock 0))
    (or_else (unless (nat_le (length ss) 16) (BadStock 16))
    (option_map BadStock (bad_stock 0 0 ss)))

-- what stands against lengths, stock and cut, by rising number of the fault
abbrev pub length_fault : List ℕ → List ℕ → ℕ → Option SourceFault
length_fault ls ss c =
    or_else (unless (nat_le (length ls) 89) (TooManyMembers (length ls)))
    (or_else (stock_fault ss)
    (or_else (option_map BadLength (bad_length (largest_stock ss) 0 ls))
    (unless (nat_le c 20) (WideCut c))))
