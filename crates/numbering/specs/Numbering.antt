-- Offers for every two of n members, and their numbers. Assumes nothing.
use Rattle.std.specs.Prelude.{ℕ, zero, suc, ◌+◌, ◌-◌, ◌*◌, ◌/◌, cond, ◌&&◌, List, [], ◌++◌, map, Some, None, Option, nat_le, nat_lt}
use Rattle.std.specs.List.{slice_get}
use Rattle.matching.specs.Sums.{below}

-- how many offers there are among the members below v
abbrev pub offers_among : ℕ → ℕ
offers_among v = v * (v - 1) / 2

-- the number of the offer for the members u < v
abbrev pub number : ℕ → ℕ → ℕ
number u v = offers_among v + u

-- every two of the members below n, the lower first: v rising, and u rising below each v
abbrev pub twos : ℕ → List (ℕ × ℕ)
twos zero = []
twos (suc v) = twos v ++ map (λ u. (u, v)) (below v)

-- the members of the offer e among n ≤ 89; none past the last offer
abbrev pub twos_at : ℕ → ℕ → Option (ℕ × ℕ)
twos_at n e = cond (nat_le n 89) (slice_get (twos n) e) None

-- the number of the offer for u and v, where u < v < 89
abbrev pub number_at : ℕ → ℕ → Option ℕ
number_at u v = cond (nat_lt u v && nat_lt v 89) (Some (number u v)) None
