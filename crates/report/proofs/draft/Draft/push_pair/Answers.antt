use Rattle.std.proofs.Common.{◌≡◌, ℕ, List, [], ◌∷◌, ◌++◌, codes, ap, ◌∙◌, append_assoc, arith}
use Rattle.report.specs.Drafts.{held, capped}
use Rattle.tokens.specs.Numerals.{numeral_of}
use Rattle.report.specs.Texts.{pair_line}
use Rattle.report.proofs.Capped.{push_then}
use Rattle.report.proofs.Decimal.{pair_short}
use Rattle.report.proofs.draft.Draft.push_pair.Goals as goal

pub returns : goal.returns
returns c =
    let was = held c.args.self.now in
    let name = codes "(pair (" in
    let first = numeral_of c.args.first in
    let second = numeral_of c.args.second in
    let end : List ℕ = 41 ∷ 41 ∷ 10 ∷ [] in
    let s1 = held c.push.new.self in
    let s2 = held c.push_number.new.self in
    let s3 = held c.push-2.new.self in
    let s4 = held c.push_number-2.new.self in
    let s5 = held c.push-3.new.self in
    let e2 = push_then s2 s1 was name first c.push.ensures c.push_number.ensures in
    let e3 = push_then s3 s2 was (name ++ first) (32 ∷ []) e2 c.push-2.ensures in
    let e4 = push_then s4 s3 was ((name ++ first) ++ 32 ∷ []) second e3 c.push_number-2.ensures in
    let e5 = push_then s5 s4 was (((name ++ first) ++ 32 ∷ []) ++ second) end e4 c.push-3.ensures in
    let regrouped : (((name ++ first) ++ 32 ∷ []) ++ second) ++ end ≡ pair_line c.args.first c.args.second =
    append_assoc ((name ++ first) ++ 32 ∷ []) second end
    ∙ append_assoc (name ++ first) (32 ∷ []) (second ++ end)
    ∙ append_assoc name first (32 ∷ (second ++ end)) in
    record {
      text = e5 ∙ ap (λ ys. capped (was ++ ys)) regrouped;
      short = pair_short c.args.first c.args.second (omega arith) (omega arith);
    }
