use Rattle.std.proofs.Common.{◌≡◌, ◌+◌, ◌*◌, ◌≤◌, not, ◌&&◌, ◌||◌, leb, get_or, sym, ap, ◌∙◌, arith, rules}
use Rattle.std.proofs.lemmas.Bool.{lt-ltb}
use Rattle.matching.specs.Mates.{paired}
use Rattle.matching.specs.Rows.{row}
use Rattle.steps.specs.Adjust.{label_at, in_bounds, adjusted}
use Rattle.tables.specs.States.{offered, state}
use Rattle.tables.proofs.Keeping.{few, short, first_in, second_in, weight_low, small_k, price_low}
use Rattle.adjusts.proofs.Bounding.{moved_low, inner_stays, outer_told}
use Rattle.adjusts.proofs.labels.Labelling.leaves_bounds.Goals as goal
use Rattle.adjusts.proofs.labels.Labelling.leaves_bounds.Goals.{After-price_after-2}

pub offset_bounds-tables-offer : goal.offset_bounds-tables-offer
offset_bounds-tables-offer c = omega (arith, short c.args.self.view.tables.now c.args.self.view.kept, c.requires.there)

pub bounds-tables-offer : goal.bounds-tables-offer
bounds-tables-offer c = omega (arith, short c.args.self.view.tables.now c.args.self.view.kept, c.requires.there)

pub bounds-tables-first : goal.bounds-tables-first
bounds-tables-first c =
    let t = c.args.self.view.tables.now in
    omega (arith, few t c.args.self.view.kept, first_in t c.args.self.view.kept c.args.offer c.requires.there)

pub bounds-tables-second : goal.bounds-tables-second
bounds-tables-second c =
    let t = c.args.self.view.tables.now in
    omega (arith, few t c.args.self.view.kept, second_in t c.args.self.view.kept c.args.offer c.requires.there)

pub returns-then-tables-first : goal.returns-then-tables-first
returns-then-tables-first c =
    inner_stays c.args.self.view.tables.now c.args.self.view.kept c.args.self.labels.now c.args.offer c.requires.there c.requires.labelled c.requires.above c.requires.priced c.if-tables-first.true

pub overflow_mul-weight : goal.overflow_mul-weight
overflow_mul-weight c = let h = small_k c.args.self.view.tables.now c.args.self.view.kept c.args.k c.requires.begun in search rules

pub overflow_mul-weight-2 : goal.overflow_mul-weight-2
overflow_mul-weight-2 c = let h = weight_low c.args.self.view.tables.now c.args.self.view.kept c.args.offer c.requires.there c.args.k c.requires.begun in search rules

pub price_after-requires : goal.price_after-requires
price_after-requires c = first_in c.args.self.view.tables.now c.args.self.view.kept c.args.offer c.requires.there

pub price_after-requires-2 : goal.price_after-requires-2
price_after-requires-2 c = second_in c.args.self.view.tables.now c.args.self.view.kept c.args.offer c.requires.there

first_low : (c : goal.After-price_after-2) → c.price_after.result ≤ 128001
first_low c =
    let t = c.args.self.view.tables.now in
    let v = (row t.rows c.args.offer).first in
    omega (arith, c.price_after.ensures, moved_low (label_at c.args.self.labels.now v) (get_or t.prices v 0) 128000 (price_low t c.args.self.view.kept v (first_in t c.args.self.view.kept c.args.offer c.requires.there)))

second_low : (c : goal.After-price_after-2) → c.price_after-2.result ≤ 128001
second_low c =
    let t = c.args.self.view.tables.now in
    let v = (row t.rows c.args.offer).second in
    omega (arith, c.price_after-2.ensures, moved_low (label_at c.args.self.labels.now v) (get_or t.prices v 0) 128000 (price_low t c.args.self.view.kept v (second_in t c.args.self.view.kept c.args.offer c.requires.there)))

pub overflow_add-yz : goal.overflow_add-yz
overflow_add-yz c = let a = first_low c in let b = second_low c in search rules

pub is_outside-requires : goal.is_outside-requires
is_outside-requires c = omega (arith, first_low (goal.at.is_outside-requires c).After-price_after-2, second_low (goal.at.is_outside-requires c).After-price_after-2)

-- what the offer's weight and yz say of its bounds
told : (c : goal.After-price_after-2) →
    in_bounds (adjusted (state c.args.self.view.tables.now) c.args.self.labels.now) c.args.offer
    ≡ (leb (2 * c.args.k * (row c.args.self.view.tables.now.rows c.args.offer).shown) (c.price_after.result + c.price_after-2.result + 2)
    && (not (paired (offered c.args.self.view.tables.now) c.args.self.view.tables.now.mates c.args.offer)
    || leb (c.price_after.result + c.price_after-2.result) (2 * c.args.k * (row c.args.self.view.tables.now.rows c.args.offer).shown)))
told c =
    outer_told c.args.self.view.tables.now c.args.self.view.kept c.args.self.labels.now c.args.offer c.requires.there c.args.k c.requires.begun c.if-tables-first.false
    c.price_after.result c.price_after-2.result c.price_after.ensures c.price_after-2.ensures

pub returns : goal.returns
returns c =
    let t = c.args.self.view.tables.now in
    let here = (goal.at.returns c).After-price_after-2 in
    let w = 2 * c.args.k * (row c.args.self.view.tables.now.rows c.args.offer).shown in
    let y = c.price_after.result + c.price_after-2.result in
    c.is_outside.ensures ∙ ap (λ p. not (leb w (y + 2) && (not p || leb y w))) (c.is_paired.ensures ∙ ap (λ b. b && paired (offered t) t.mates c.args.offer) (lt-ltb c.args.offer t.offers c.requires.there)) ∙ sym (ap not (told here))
