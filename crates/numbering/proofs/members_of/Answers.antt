use Rattle.std.proofs.Common.{◌≡◌, ℕ, suc, ◌+◌, ◌-◌, ◌<◌, ◌≤◌, sym, subst, arith, rules}
use Rattle.numbering.specs.Numbering.{offers_among, number}
use Rattle.numbering.proofs.Members.{at_number, too_many, past_last, in_row, none_left, these}
use Rattle.numbering.proofs.NumberingLaws.{among_more}
use Rattle.numbering.proofs.members_of.Goals as goal
use Rattle.numbering.proofs.members_of.Goals.{then-members-gt-MOST_LENGTHS-via-then-members-gt-MOST_LENGTHS, then-members-gt-MOST_LENGTHS-via-else-members-gt-MOST_LENGTHS+then-offer-offers_among}

pub returns-then-members-gt-MOST_LENGTHS-clause-value : goal.returns-then-members-gt-MOST_LENGTHS-clause-value
returns-then-members-gt-MOST_LENGTHS-clause-value c =
    let n = c.args.members in
    let e = c.args.offer in
    elim c.then-members-gt-MOST_LENGTHS.branch [
      | then-members-gt-MOST_LENGTHS-via-then-members-gt-MOST_LENGTHS w ↦ too_many n e w.if-members-gt-MOST_LENGTHS.true
      | then-members-gt-MOST_LENGTHS-via-else-members-gt-MOST_LENGTHS+then-offer-offers_among w ↦ past_last n e (omega (arith, w.offers_among.ensures, w.if-offer-offers_among.true))
    ]

pub loop-v-init : goal.loop-v-init
loop-v-init c = (omega (arith, c.offers_among.ensures), c.offers_among-before.ensures)

-- where the row of the member below begins
row_below : (m before : ℕ) → 0 < m → before ≡ offers_among m → (m - 1 ≤ before) × (before - (m - 1) ≡ offers_among (m - 1))
row_below m before l is =
    let one : suc (m - 1) ≡ m = omega (arith, l) in
    let more : offers_among m ≡ offers_among (m - 1) + (m - 1) = subst (λ k. offers_among k ≡ offers_among (m - 1) + (m - 1)) one (among_more (m - 1)) in
    (omega (arith, more, is), omega (arith, more, is))

pub overflow_sub-before : goal.overflow_sub-before
overflow_sub-before c = (row_below c.loop-v.v c.loop-v.before (omega arith) c.loop-v.invariant.1).0

pub loop-v-preserved : goal.loop-v-preserved
loop-v-preserved c =
    let row = row_below c.loop-v.v c.loop-v.before (omega arith) c.loop-v.invariant.1 in
    (omega (arith, row.1), row.1)

pub returns-then-before-offer : goal.returns-then-before-offer
returns-then-before-offer c =
    let n = c.args.members in
    let e = c.args.offer in
    let v = c.loop-v.v - 1 in
    let x = e - (c.loop-v.before - v) in
    let few = c.if-members-gt-MOST_LENGTHS.false in
    let begins = (row_below c.loop-v.v c.loop-v.before (omega arith) c.loop-v.invariant.1).1 in
    let row : e < offers_among (suc v) = subst (λ w. e < offers_among w) (omega arith) c.loop-v.invariant.0 in
    let low : x < v = omega (arith, in_row v e (omega (arith, begins)) row, begins) in
    let is : number x v ≡ e = omega (arith, begins) in
    record {
      value = sym (at_number n x v e few low (omega arith) is);
      every = search rules;
      back = λ u w got. these n e x v u w got few low (omega arith) is;
    }

pub returns-clause-value : goal.returns-clause-value
returns-clause-value c = none_left c.args.offer c.loop-v.v c.loop-v.invariant.0 (omega arith)

pub returns-clause-every : goal.returns-clause-every
returns-clause-every c = none_left c.args.offer c.loop-v.v c.loop-v.invariant.0 (omega arith)
