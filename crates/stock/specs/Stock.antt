-- Stock lengths, and what two members save when they are cut out of one. The rule of a saving stands here and nowhere else.
-- Assumes nothing.
use Rattle.std.specs.Prelude.{ℕ, ◌+◌, ◌-◌, ◌<◌, ◌≤◌, max, cond, List, [], ◌∷◌, Some, None, Option, nat_le}
use Rattle.std.specs.List.{AllByRecursion}

-- each stock length is above those before it
abbrev pub Rising : List ℕ → Type 0
Rising [] = Unit {0}
Rising (s ∷ ss) = AllByRecursion (λ t. s < t) ss × Rising ss

-- the first stock length not below l: in a rising list, the smallest
abbrev pub stock_of : List ℕ → ℕ → Option ℕ
stock_of [] l = None
stock_of (s ∷ ss) l = cond (nat_le l s) (Some s) (stock_of ss l)

-- s is not below l, and nothing of the list lies between; without such an s, all of the list is below l
abbrev pub Smallest : List ℕ → ℕ → Option ℕ → Type 0
Smallest ss l None = AllByRecursion (λ t. t < l) ss
Smallest ss l (Some s) = (l ≤ s) × AllByRecursion (λ t. l ≤ t → s ≤ t) ss

abbrev pub largest_stock : List ℕ → ℕ
largest_stock [] = 0
largest_stock (s ∷ ss) = max s (largest_stock ss)

-- two stock lengths less the one instead of them; nothing where that is negative or a stock length is missing
abbrev pub saved : Option ℕ → Option ℕ → Option ℕ → ℕ
saved None q r = 0
saved (Some p) None r = 0
saved (Some p) (Some q) None = 0
saved (Some p) (Some q) (Some r) = p + q - r

-- what members of the lengths a and b save, with the cut c between them
unfoldable pub saving_of : List ℕ → ℕ → ℕ → ℕ → ℕ
saving_of ss c a b = saved (stock_of ss a) (stock_of ss b) (stock_of ss (a + b + c))
