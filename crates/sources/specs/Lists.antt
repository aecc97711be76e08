-- When a list of offers among n members is refused. Assumes nothing.
use Rattle.std.specs.Prelude.{ℕ, ◌+◌, Bool, cond, not, ◌&&◌, List, [], ◌∷◌, length, Some, None, Option, ◌==◌, nat_le, nat_lt}
use Rattle.std.specs.Option.{option_map}
use Rattle.faults.specs.declared.layers.SourceFault.{SourceFault}
use Rattle.faults.specs.declared.layers.SourceFault.TheVariants.{TooManyMembers, TooManyOffers, BadMember, HighSaving}
use Rattle.faults.specs.Checks.{or_else, unless}
use Rattle.sources.specs.declared.offer.Offer.{Offer}

-- what is read past the end of a list
abbrev pub no_offer : Offer
no_offer = record { first = 0; second = 0; saving = 0 }

-- the offer names two different members of n
abbrev pub names : ℕ → Offer → Bool
names n o = nat_lt o.first n && (nat_lt o.second n && not (o.first == o.second))

-- the offer saves no more than 100,000 mm
abbrev pub modest : Offer → Bool
modest o = nat_le o.saving 100000

-- the number of the first offer that fails the test, where the list's first is numbered i
abbrev pub first_bad : (Offer → Bool) → ℕ → List Offer → Option ℕ
first_bad ok i [] = None
first_bad ok i (o ∷ os) = cond (ok o) (first_bad ok (i + 1) os) (Some i)

abbrev pub size_fault : ℕ → Option SourceFault
size_fault n = unless (nat_le n 200) (TooManyMembers n)

-- what stands against a list of offers, by rising number of the fault
abbrev pub list_fault : ℕ → List Offer → Option SourceFault
list_fault n os =
    or_else (size_fault n)
    (or_else (unless (nat_le (length os) 4000) (TooManyOffers 4000))
    (or_else (option_map BadMember (first_bad (names n) 0 os))
    (option_map HighSaving (first_bad modest 0 os))))
