use Rattle.std.proofs.Common.{◌≡◌, take, drop, eqb, Ok, Err, refl, ap, ◌∙◌, rules}
use Rattle.std.specs.Slice.Iter.{split_inclusive_rest}
use Rattle.std.proofs.lemmas.Result.{err_from_is_err_and}
use Rattle.std.proofs.lemmas.List.Sorted.{answers_always}
use Rattle.sheet.proofs.LineLengths.{cut}
use Rattle.sheet.proofs.Reading.{line_taken, line_refused}
use Rattle.sheet.proofs.reader.Reader.read_lines.Goals as goal
use Rattle.sheet.proofs.reader.Reader.read_lines.Goals.{After-take_line}
use Rattle.sheet.specs.Lines.{first_length}

-- the line and what follows it
cut_off : (c : After-take_line) → let text = split_inclusive_rest c.loop-line.line-iterator in (c.in-Some.line.now ≡ take (first_length text) text) × (split_inclusive_rest c.next.new.self ≡ drop (first_length text) text)
cut_off c =
    let next = c.in-Some.ensures.steps in
    cut (split_inclusive_rest c.loop-line.line-iterator) c.in-Some.line.now (split_inclusive_rest c.next.new.self) next.1.0 next.0 next.1.1 (next.1.2 (λ b. eqb b 10) (answers_always _ _ _ (λ f a r f' h. search rules))).1

pub loop-line-preserved : goal.loop-line-preserved
loop-line-preserved c =
    let split = cut_off (goal.at.loop-line-preserved c).After-take_line in
    let step = c.in_ok-take_line.ensures in
    line_taken c.loop-line.invariant c.in-Some.line.now (split_inclusive_rest c.next.new.self) (Ok c.in_ok-take_line.field-0) c.take_line.new.self c.in-Some.ensures.steps.2 split.0 split.1 step.step _ refl step.line

pub returns-in_err-take_line : goal.returns-in_err-take_line
returns-in_err-take_line c =
    let split = cut_off (goal.at.returns-in_err-take_line c).After-take_line in
    let fault = c.in_err-take_line.field-0.0 in
    let out = line_refused c.loop-line.invariant c.in-Some.line.now (split_inclusive_rest c.next.new.self) (Err fault) c.take_line.new.self c.in-Some.ensures.steps.2 split.0 split.1 c.in_err-take_line.ensures.step fault refl in
    let told = err_from_is_err_and c.from_residual.result c.from_residual.ensures.1 in
    record { answer = told.1 ∙ ap Err told.2 ∙ out.answers; lent = out.lends; taken = out.holds }
