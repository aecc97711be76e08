use Rattle.std.proofs.Common.{◌+◌, ◌*◌, cond, eqb, get_or, sym, ap, ◌∙◌}
use Rattle.matching.specs.declared.row.Row.{Row}
use Rattle.walks.proofs.Going.{or_zero_is, told}
use Rattle.walks.proofs.is_tight.Goals as goal
use Rattle.walks.proofs.is_tight.Goals.{then-paired, else-paired}

pub returns : goal.returns
returns c =
    let t = c.args.view.tables.now in
    let k = c.unwrap_or.result in
    let short = c.if-paired.short in
    ap (λ (r : Row). eqb (get_or t.prices r.first 0 + get_or t.prices r.second 0 + short) (2 * k * r.shown)) c.row-row.ensures.value
    ∙ told t c.args.view.kept c.args.offer c.requires.known c.requires.apart c.args.paired k short (c.unwrap_or.ensures ∙ or_zero_is t.begun)
    (elim c.if-paired.branch [ then-paired w ↦ w.short-is ∙ sym (ap (λ b. cond b 0 2) w.if-paired.true) | else-paired w ↦ w.short-is ∙ sym (ap (λ b. cond b 0 2) w.if-paired.false) ])
