-- A list of offers that nothing stands against keeps the laws of a source. The proof stands here, since `laws` of the source is this term.
-- Assumes nothing.
use Rattle.std.specs.Prelude.{◌≡◌, ℕ, zero, suc, ◌+◌, ◌*◌, ◌/◌, ◌<◌, ◌≤◌, Bool, true, false, List, [], ◌∷◌, length, get_or, is_some, None, Option, ◌==◌, nat_le, nat_lt, slice_index_or, refl}
use Rattle.std.proofs.Common.{ap, mul-le-mul, arith}
use Rattle.std.proofs.Math.Path.{fun_ext}
use Rattle.std.proofs.lemmas.List.{length-map}
use Rattle.std.specs.Option.{option_map}
use Rattle.std.proofs.lemmas.Bool.{and_parts, not-true, ltb-true, leb-true, eqb-false}
use Rattle.faults.specs.declared.layers.SourceFault.{SourceFault}
use Rattle.faults.specs.declared.layers.SourceFault.TheVariants.{TooManyMembers, TooManyOffers, BadMember, HighSaving}
use Rattle.matching.specs.Rows.{row, AllSound}
use Rattle.matching.specs.Pairings.{shown_of, ground_of}
use Rattle.matching.specs.Sums.{total}
use Rattle.matching.specs.Lawful.{Lawful, Carries}
use Rattle.matching.proofs.Pairs.{shown_most}
use Rattle.faults.specs.Checks.{or_else, unless}
use Rattle.faults.proofs.Judged.{not_some, or_else_none, unless_none, none_mapped, none_here}
use Rattle.sources.specs.Lists.{no_offer, names, modest, first_bad, size_fault, list_fault}
use Rattle.sources.specs.ListRows.{list_row, list_rows, largest_saving, list_carry}
use Rattle.sources.specs.declared.offer.Offer.{Offer}

-- no pairing saves over 10,000,000
pub most_low : (n top : ℕ) → n ≤ 200 → top ≤ 100000 → n / 2 * top ≤ 10000000
most_low n top few low = let half : n / 2 ≤ 100 = omega arith in let h : n / 2 * top ≤ 100 * 100000 = mul-le-mul half low in h

each_passed : (ok : Offer → Bool) (i : ℕ) (os : List Offer) → first_bad ok i os ≡ None → (e : ℕ) → e < length os → ok (slice_index_or os e no_offer) ≡ true
each_passed ok i [] h e l = absurd (omega arith)
each_passed ok i (o ∷ os) h zero l = (none_here (ok o) (first_bad ok (i + 1) os) i h).0
each_passed ok i (o ∷ os) h (suc e) l = each_passed ok (i + 1) os (none_here (ok o) (first_bad ok (i + 1) os) i h).1 e (omega arith)

-- the rows of a list
pub row_listed : (os : List Offer) (e : ℕ) → row (list_rows os) e ≡ list_row (slice_index_or os e no_offer)
row_listed [] e = refl
row_listed (o ∷ os) zero = refl
row_listed (o ∷ os) (suc e) = row_listed os e

same_sums : (os : List Offer) (es : List ℕ) → shown_of (list_rows os) es ≡ ground_of (list_rows os) es
same_sums os es =
    let same : (e : ℕ) → (row (list_rows os) e).shown ≡ (row (list_rows os) e).ground = λ e. rw (row_listed os e) in
    ap (λ f. total f es) (fun_ext same)

under_largest : (os : List Offer) (e : ℕ) → (get_or os e no_offer).saving ≤ largest_saving os
under_largest [] e = omega arith
under_largest (o ∷ os) zero = omega arith
under_largest (o ∷ os) (suc e) = omega (arith, under_largest os e)

largest_low : (os : List Offer) → ((e : ℕ) → e < length os → (get_or os e no_offer).saving ≤ 100000) → largest_saving os ≤ 100000
largest_low [] h = omega arith
largest_low (o ∷ os) h = omega (arith, h 0 (omega arith), largest_low os (λ e l. h (suc e) (omega arith)))

module _ (n : ℕ) (os : List Offer) (sound : is_some (list_fault n os) ≡ false) where
  abbrev members_fault : Option SourceFault
  members_fault = option_map BadMember (first_bad (names n) 0 os)

  abbrev savings_fault : Option SourceFault
  savings_fault = option_map HighSaving (first_bad modest 0 os)

  abbrev offers_fault : Option SourceFault
  offers_fault = unless (nat_le (length os) 4000) (TooManyOffers 4000)

  listed_few : n ≤ 200
  listed_few =
      let h = (or_else_none (size_fault n) (or_else offers_fault (or_else members_fault savings_fault)) (not_some (list_fault n os) sound)).0 in
      leb-true n 200 (unless_none (nat_le n 200) (TooManyMembers n) h)

  after_size : or_else offers_fault (or_else members_fault savings_fault) ≡ None
  after_size = (or_else_none (size_fault n) (or_else offers_fault (or_else members_fault savings_fault)) (not_some (list_fault n os) sound)).1

  listed_short : length os ≤ 4000
  listed_short =
      let h = (or_else_none offers_fault (or_else members_fault savings_fault) after_size).0 in
      leb-true (length os) 4000 (unless_none (nat_le (length os) 4000) (TooManyOffers 4000) h)

  no_offer_fault : (members_fault ≡ None) × (savings_fault ≡ None)
  no_offer_fault = or_else_none members_fault savings_fault (or_else_none offers_fault (or_else members_fault savings_fault) after_size).1

  saving_low : (e : ℕ) → e < length os → (get_or os e no_offer).saving ≤ 100000
  saving_low e l =
      let h = none_mapped HighSaving (first_bad modest 0 os) no_offer_fault.1 in
      leb-true (get_or os e no_offer).saving 100000 (each_passed modest 0 os h e l)

  named : (e : ℕ) → e < length os → names n (slice_index_or os e no_offer) ≡ true
  named e l = each_passed (names n) 0 os (none_mapped BadMember (first_bad (names n) 0 os) no_offer_fault.0) e l

module _ (n top : ℕ) (os : List Offer) (sound : is_some (list_fault n os) ≡ false) (high : top ≡ largest_saving os) where
  listed_sound : AllSound n top (list_rows os)
  listed_sound e l =
      let l' : e < length os = omega (arith, length-map os list_row) in
      let o = get_or os e no_offer in
      let f = and_parts (nat_lt o.first n) _ (named n os sound e l') in
      let s = and_parts (nat_lt o.second n) _ f.1 in
      rw (row_listed os e) record {
        differ = eqb-false o.first o.second (not-true (o.first == o.second) s.1);
        first_in = ltb-true o.first n f.0;
        second_in = ltb-true o.second n s.0;
        shown_low = omega (arith, under_largest os e);
        ground_low = saving_low n os sound e l';
      }

  listed_low : top ≤ 100000
  listed_low = omega (arith, largest_low os (saving_low n os sound))

  listed_capped : (s : ℕ) → list_carry n top s ≤ 10000000
  listed_capped s = omega (arith, most_low n top (listed_few n os sound) listed_low)

  listed_carries : Carries (list_rows os) (list_carry n top)
  listed_carries a b s pa pb h =
      let most = shown_most n top (list_rows os) listed_sound b pb in
      omega (arith, h, most, same_sums os a, same_sums os b)

  pub list_laws : Lawful n (list_rows os) top (list_carry n top)
  list_laws = record {
    few = listed_few n os sound;
    short = omega (arith, length-map os list_row, listed_short n os sound);
    low = listed_low;
    sound = listed_sound;
    capped = listed_capped;
    carries = listed_carries;
  }
