use Rattle.std.proofs.Common.{◌+◌, [], ◌∷◌, ◌++◌, get_or, drop, refl, arith}
use Rattle.report.specs.Drafts.{held}
use Rattle.tokens.specs.Numerals.{numeral_of}
use Rattle.report.specs.Texts.{spaced}
use Rattle.report.proofs.Capped.{push_then, grow, grown}
use Rattle.report.proofs.draft.Draft.push_spaced.Goals as goal

pub loop-number-init : goal.loop-number-init
loop-number-init c = refl

pub loop-number-preserved : goal.loop-number-preserved
loop-number-preserved c =
    let ns = c.args.numbers.now in
    let i = c.loop-number.number-index in
    let now = held c.loop-number.self in
    let after = held c.push_number.new.self in
    let digits = numeral_of (get_or ns i 0) in
    grow spaced ns i 0 now (held c.args.self.now ++ spaced ns) c.loop-number.invariant (omega arith) after (32 ∷ digits) (spaced (drop (i + 1) ns)) refl
    (push_then after (held c.push.new.self) now (32 ∷ []) digits c.push.ensures c.push_number.ensures)

pub returns : goal.returns
returns c =
    let ns = c.args.numbers.now in
    grown spaced ns c.loop-number.number-index c.loop-number.self (held c.args.self.now ++ spaced ns) c.loop-number.invariant (omega arith) refl
