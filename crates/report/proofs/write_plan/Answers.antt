use Rattle.std.proofs.Common.{◌≡◌, ◌≤◌, ◌++◌, length, ap, ◌∙◌, subst}
use Rattle.report.specs.Drafts.{held, capped}
use Rattle.report.specs.Texts.{plan_text, written, write_result}
use Rattle.report.proofs.Answer.{head_part, pairs_part, loose_part, parts_whole, parts_short}
use Rattle.report.proofs.Capped.{push_then, held_all}
use Rattle.report.proofs.write_plan.Goals as goal

pub returns : goal.returns
returns c =
    let p = c.args.plan.now in
    let old = c.args.buffer.now in
    let floor = c.from.result in
    let head = head_part p floor in
    let pairs = pairs_part p floor in
    let loose = loose_part p floor in
    let new = held c.new-text.result in
    let s1 = held c.push_form.new.self in
    let s2 = held c.push_pairs.new.self in
    let s3 = held c.push_loose.new.self in
    let headed : s1 ≡ capped (new ++ head) = c.push_form.ensures.text in
    let paired : s2 ≡ capped (s1 ++ pairs) = c.push_pairs.ensures.text in
    let loosed : s3 ≡ capped (s2 ++ loose) = c.push_loose.ensures.text in
    let pairs-too = push_then s2 s1 new head pairs headed paired in
    let loose-too = push_then s3 s2 new (head ++ pairs) loose pairs-too loosed in
    let short = parts_short p floor c.push_form.ensures.short c.push_pairs.ensures.short c.push_loose.ensures.short in
    let told : (head ++ pairs) ++ loose ≡ plan_text p = parts_whole p floor c.from.ensures in
    let whole : s3 ≡ plan_text p = held_all s3 new ((head ++ pairs) ++ loose) loose-too c.new-text.ensures short ∙ told in
    record {
      result = c.copy_into.ensures.result ∙ ap (λ t. write_result t old) whole;
      bytes = c.copy_into.ensures.bytes ∙ ap (λ t. written t old) whole;
      short = subst (λ t. length t ≤ 16384) told short;
    }
