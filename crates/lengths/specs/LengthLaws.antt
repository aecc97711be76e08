-- Lengths that nothing stands against keep the laws of a source. The proof stands here, since `laws` of the source is this term.
-- Of the rule of a saving it takes only that none passes the largest stock length. Assumes nothing.
use Rattle.std.specs.Prelude.{◌≡◌, ℕ, zero, suc, ◌-◌, ◌*◌, ◌<◌, ◌≤◌, false, List, [], ◌∷◌, map, length, is_some, slice_index, refl}
use Rattle.std.proofs.Common.{sym, ap, subst, ◌∙◌, mul-le-mul, arith}
use Rattle.std.proofs.Math.Path.{fun_ext}
use Rattle.std.proofs.lemmas.List.{get_or-map, length-map}
use Rattle.matching.specs.Rows.{row, no_row, Sound, AllSound}
use Rattle.matching.specs.Pairings.{shown_of, ground_of}
use Rattle.matching.specs.Sums.{total}
use Rattle.matching.specs.Lawful.{Lawful, Carries}
use Rattle.matching.proofs.Pairs.{shown_most}
use Rattle.sources.specs.ListRows.{list_carry}
use Rattle.sources.specs.ListLaws.{most_low}
use Rattle.stock.specs.Stock.{largest_stock}
use Rattle.stock.proofs.StockLaws.{saving_low}
use Rattle.numbering.specs.Numbering.{offers_among, number, twos}
use Rattle.numbering.proofs.NumberingLaws.{length_twos, number_low, twos_number, named}
use Rattle.cutlist.specs.Cutlists.{length_fault}
use Rattle.cutlist.proofs.Passed.{members_few, top_low}
use Rattle.lengths.specs.Lengths.{length_row, length_rows}

-- 89 members have at most 3,916 offers
offers_few : (n : ℕ) → n ≤ 89 → offers_among n ≤ 3916
offers_few n few = let less : n - 1 ≤ 88 = omega arith in let h : n * (n - 1) ≤ 89 * 88 = mul-le-mul few less in omega (arith, h)

module _ (ls ss : List ℕ) (c : ℕ) where
  pub row_numbered : (u v : ℕ) → u < v → v < length ls → row (length_rows ls ss c) (number u v) ≡ length_row ls ss c (u, v)
  row_numbered u v l h =
      get_or-map (length_row ls ss c) (twos (length ls)) (number u v) (0, 0) no_row (omega (arith, length_twos (length ls), number_low u v (length ls) l h))
      ∙ ap (length_row ls ss c) (twos_number u v (length ls) l h)

  pub length_length_rows : length (length_rows ls ss c) ≡ offers_among (length ls)
  length_length_rows = length-map (twos (length ls)) (length_row ls ss c) ∙ length_twos (length ls)

  row_sound : (u v : ℕ) → u < v → v < length ls → largest_stock ss ≤ 100000 → Sound (length ls) (largest_stock ss) (length_row ls ss c (u, v))
  row_sound u v l h low =
      let s = saving_low ss c (slice_index ls u) (slice_index ls v) in
      record { differ = λ e. omega (arith, e); first_in = omega arith; second_in = h; shown_low = s; ground_low = omega (arith, s) }

  lengths_sound : largest_stock ss ≤ 100000 → AllSound (length ls) (largest_stock ss) (length_rows ls ss c)
  lengths_sound low e l =
      let m = named (length ls) e (omega (arith, length_length_rows)) in
      subst (λ r. Sound (length ls) (largest_stock ss) r)
      (sym (sym (ap (λ i. row (length_rows ls ss c) i) m.is) ∙ row_numbered m.low m.high m.rising m.inside))
      (row_sound m.low m.high m.rising m.inside low)

  pub same_at : (ps : List (ℕ × ℕ)) (e : ℕ) → (row (map (length_row ls ss c) ps) e).shown ≡ (row (map (length_row ls ss c) ps) e).ground
  same_at [] e = refl
  same_at (p ∷ ps) zero = refl
  same_at (p ∷ ps) (suc e) = same_at ps e

  same_sums : (es : List ℕ) → shown_of (length_rows ls ss c) es ≡ ground_of (length_rows ls ss c) es
  same_sums es = ap (λ f. total f es) (fun_ext (same_at (twos (length ls))))

module _ (ls ss : List ℕ) (c : ℕ) (sound : is_some (length_fault ls ss c) ≡ false) where
  lengths_carry : Carries (length_rows ls ss c) (list_carry (length ls) (largest_stock ss))
  lengths_carry a b s pa pb h =
      let most = shown_most (length ls) (largest_stock ss) (length_rows ls ss c) (lengths_sound ls ss c (omega (arith, top_low ls ss c sound))) b pb in
      omega (arith, h, most, same_sums ls ss c a, same_sums ls ss c b)

  pub length_laws : Lawful (length ls) (length_rows ls ss c) (largest_stock ss) (list_carry (length ls) (largest_stock ss))
  length_laws = record {
    few = omega (arith, members_few ls ss c sound);
    short = omega (arith, length_length_rows ls ss c, offers_few (length ls) (members_few ls ss c sound));
    low = omega (arith, top_low ls ss c sound);
    sound = lengths_sound ls ss c (omega (arith, top_low ls ss c sound));
    capped = λ s. omega (arith, most_low (length ls) (largest_stock ss) (omega (arith, members_few ls ss c sound)) (omega (arith, top_low ls ss c sound)));
    carries = lengths_carry;
  }
