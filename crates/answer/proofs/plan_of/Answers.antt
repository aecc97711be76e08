use Rattle.std.proofs.Common.{length, sym, subst, arith}
use Rattle.board.specs.Begins.{begin_fault}
use Rattle.sheet.specs.Sheets.{Sound, sheet_of}
use Rattle.answer.specs.Answers.{new_board, Begins, Reads}
use Rattle.answer.proofs.Slots.{offers_fit, front}
use Rattle.answer.proofs.plan_of.Goals as goal

pub slice_bounds-plan_over-end : goal.slice_bounds-plan_over-end
slice_bounds-plan_over-end c =
    let o = sheet_of (length c.args.slots.now) c.args.input.now in
    let r = c.in_ok-sheet.ensures in
    omega (arith, offers_fit o.taken c.args.slots.now c.read.new.slots c.in_ok-sheet.sheet.offers r.taken r.sound.counted)

pub plan_over-requires : goal.plan_over-requires
plan_over-requires c =
    let o = sheet_of (length c.args.slots.now) c.args.input.now in
    let r = c.in_ok-sheet.ensures in
    let same = front o.taken c.args.slots.now c.read.new.slots c.in_ok-sheet.sheet.offers r.taken r.sound.counted in
    subst (Sound c.in_ok-sheet.sheet) (sym same) r.sound

pub returns : goal.returns
returns c =
    let s = c.in_ok-sheet.sheet in
    let o = sheet_of (length c.args.slots.now) c.args.input.now in
    let r = c.in_ok-sheet.ensures in
    let same = front o.taken c.args.slots.now c.read.new.slots s.offers r.taken r.sound.counted in
    record {
      answer = subst (λ a. Reads a o.taken c.plan_over.result) r.answer
          (subst (λ os. Begins (begin_fault (new_board s os) s.k) s os c.plan_over.result) same c.plan_over.ensures);
      slots = r.taken;
    }
