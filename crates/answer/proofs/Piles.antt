-- The pile of a sheet shows what the definitions say, and so does the board over it. Assumes nothing.
use Rattle.std.proofs.Common.{◌≡◌, ℕ, List, [], Some, None, Ok, Err, Option, sym, refl, ap, ◌∙◌, subst, arith}
use lib.ListN.{length-map}
use Rattle.faults.specs.declared.layers.BoardFault.{BoardFault}
use Rattle.matching.specs.declared.row.Row.{Row}
use Rattle.matching.specs.Pairings.{Pairing}
use Rattle.sources.specs.declared.offer.Offer.{Offer}
use Rattle.faults.specs.Checks.{judged, unless_fault}
use Rattle.sources.specs.Lists.{list_fault}
use Rattle.coarse.specs.Ratios.{ratio_fault}
use Rattle.sources.specs.ListRows.{list_rows, largest_saving, list_carry}
use Rattle.coarse.specs.Coarse.{part_of, coarse_row, coarse_rows, coarse_carry}
use Rattle.coarse.specs.CoarseLaws.{same_ends, same_ground}
use Rattle.plan.specs.declared.plan.Plan.{Plan}
use Rattle.tables.specs.declared.tables.Tables.{Tables}
use Rattle.board.specs.Fresh.{fresh}
use Rattle.board.specs.Begins.{begin_fault, begun_with}
use Rattle.board.specs.Questions.{gap}
use Rattle.board.specs.Released.{Released}
use Rattle.board.specs.Truth.{Shows, Bounds}
use Rattle.sheet.specs.declared.reader.Sheet.{Sheet}
use Rattle.sheet.specs.Sheets.{Sound}
use Rattle.answer.specs.Answers.{pile_rows, pile_top, pile_carry, new_board, begun_board, Planned}

-- a pairing of the listed offers is one of those that the coarse layer shows
coarse_pairing : (x N : ℕ) (rs : List Row) (es : List ℕ) → Pairing rs es → Pairing (coarse_rows x N rs) es
coarse_pairing x N rs es p = record {
  offers = rw (length-map rs (coarse_row x N)) p.offers;
  apart = rw (same_ends x N rs es) p.apart;
}

bounds_listed : (x N : ℕ) (rs : List Row) (saved slack : ℕ) → Bounds (coarse_rows x N rs) saved slack → Bounds rs saved slack
bounds_listed x N rs saved slack h b p = omega (arith, h b (coarse_pairing x N rs b p), same_ground x N rs b)

-- begin was taken
begun_none : (o : Option BoardFault) (u : Unit {0}) → Ok u ≡ judged o → o ≡ None
begun_none None u h = refl
begun_none (Some f) u h = let z : ◌≡◌ {A = ℕ} 0 1 = cc in absurd (omega arith)

module _ (s : Sheet) (os : List Offer) (sound : Sound s os) where
  -- what the makings made of the sheet
  pub record Made (n : ℕ) (offers : List Offer) (top x N : ℕ) : Type 0 where
    pub members : n ≡ unless_fault (list_fault s.members os) s.members 0
    pub list : offers ≡ unless_fault (list_fault s.members os) os []
    pub highest : top ≡ largest_saving (unless_fault (list_fault s.members os) os [])
    pub part : x ≡ unless_fault (ratio_fault s.x s.whole) s.x 1
    pub whole : N ≡ unless_fault (ratio_fault s.x s.whole) s.whole 1

  module _ (n : ℕ) (offers : List Offer) (top x N : ℕ) (made : Made n offers top x N) where
    n_is : n ≡ s.members
    n_is = made.members ∙ ap (λ f. unless_fault f s.members 0) sound.listed

    offers_are : offers ≡ os
    offers_are = made.list ∙ ap (λ f. unless_fault f os []) sound.listed

    top_is : top ≡ largest_saving os
    top_is = made.highest ∙ ap (λ f. largest_saving (unless_fault f os [])) sound.listed

    x_is : x ≡ s.x
    x_is = made.part ∙ ap (λ f. unless_fault f s.x 1) sound.ratio

    N_is : N ≡ s.whole
    N_is = made.whole ∙ ap (λ f. unless_fault f s.whole 1) sound.ratio

    pub rows_are : coarse_rows x N (list_rows offers) ≡ pile_rows s os
    rows_are = ap (λ a. coarse_rows a N (list_rows offers)) x_is ∙ ap (λ b. coarse_rows s.x b (list_rows offers)) N_is ∙ ap (λ l. coarse_rows s.x s.whole (list_rows l)) offers_are

    pub highest_is : part_of x N top ≡ pile_top s os
    highest_is = ap (λ a. part_of a N top) x_is ∙ ap (λ b. part_of s.x b top) N_is ∙ ap (part_of s.x s.whole) top_is

    pub carry_is : (g : ℕ) → coarse_carry x N n top (list_carry n top) g ≡ pile_carry s os g
    carry_is g =
        ap (λ a. coarse_carry a N n top (list_carry n top) g) x_is
        ∙ ap (λ b. coarse_carry s.x b n top (list_carry n top) g) N_is
        ∙ ap (λ m. coarse_carry s.x s.whole m top (list_carry m top) g) n_is
        ∙ ap (λ h. coarse_carry s.x s.whole s.members h (list_carry s.members h) g) top_is

    pub board_is : fresh n (coarse_rows x N (list_rows offers)) (part_of x N top) ≡ new_board s os
    board_is =
        ap (λ m. fresh m (coarse_rows x N (list_rows offers)) (part_of x N top)) n_is
        ∙ ap (λ rs. fresh s.members rs (part_of x N top)) rows_are
        ∙ ap (fresh s.members (pile_rows s os)) highest_is

  -- begun or refused, by what begin answered and left
  module _ (t t' : Tables) (same : t ≡ new_board s os) where
    pub refused : (f : BoardFault) → Err f ≡ judged (begin_fault t s.k) → begin_fault (new_board s os) s.k ≡ Some f
    refused f h = sym (ap (λ u. begin_fault u s.k) same) ∙ by (begin_fault t s.k) h
      where
        by : (o : Option BoardFault) → Err f ≡ judged o → o ≡ Some f
        by None h = let z : ◌≡◌ {A = ℕ} 0 1 = cc in absurd (omega arith)
        by (Some g) h = cc

    pub accepted : (u : Unit {0}) → Ok u ≡ judged (begin_fault t s.k) → begin_fault (new_board s os) s.k ≡ None
    accepted u h = sym (ap (λ u. begin_fault u s.k) same) ∙ begun_none (begin_fault t s.k) u h

    pub begun : (u : Unit {0}) → Ok u ≡ judged (begin_fault t s.k) → t' ≡ unless_fault (begin_fault t s.k) (begun_with t s.k) t → t' ≡ begun_with t s.k
    begun u h e = e ∙ ap (λ o. unless_fault o (begun_with t s.k) t) (begun_none (begin_fault t s.k) u h)

    -- the plan that is released then, and its slack
    module _ (n : ℕ) (offers : List Offer) (top x N : ℕ) (made : Made n offers top x N) where
      pub planned : (p : Plan) → t' ≡ begun_with t s.k → Shows n (coarse_rows x N (list_rows offers)) (part_of x N top) t
          → Released t' (coarse_carry x N n top (list_carry n top) (gap t')) p
          → (Shows n (coarse_rows x N (list_rows offers)) (part_of x N top) t' → Bounds (coarse_rows x N (list_rows offers)) p.ground p.slack)
          → Planned s os p
      planned p now shows released truth =
          let there : t' ≡ begun_board s os = now ∙ ap (λ t. begun_with t s.k) same in
          let still : Shows n (coarse_rows x N (list_rows offers)) (part_of x N top) (begun_with t s.k) = record { members = shows.members; offers = shows.offers; highest = shows.highest } in
          let all = truth (subst (Shows n (coarse_rows x N (list_rows offers)) (part_of x N top)) (sym now) still) in
          record {
            released = subst (λ c. Released (begun_board s os) c p) (carry_is n offers top x N made (gap (begun_board s os))) (subst (λ t. Released t (coarse_carry x N n top (list_carry n top) (gap t)) p) there released);
            truth = bounds_listed s.x s.whole (list_rows os) p.ground p.slack (subst (λ rs. Bounds rs p.ground p.slack) (rows_are n offers top x N made) all);
          }
