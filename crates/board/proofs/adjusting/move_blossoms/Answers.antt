use Rattle.std.proofs.Common.{◌<◌, None, ap, ◌∙◌, arith}
use Rattle.steps.specs.Adjust.{moved_blossom}
use Rattle.tables.specs.States.{blossom_of, place}
use Rattle.tables.specs.Prices.{place_moved}
use Rattle.board.proofs.Moving.{new_blossom, partly_here, blossoms_none, blossoms_more, blossoms_done, part_long, part_at}
use Rattle.board.proofs.adjusting.move_blossoms.Goals as goal

pub loop-at-init : goal.loop-at-init
loop-at-init c = blossoms_none c.args.tables.now c.args.common.now c.requires.full

-- the price that is read is still the old one
pub move_blossom-requires : goal.move_blossom-requires
move_blossom-requires c =
    let t = c.args.tables.now in
    let cs = c.args.common.now in
    let at = c.loop-at.at in
    let there : at < 100 = omega (arith, c.loop-at-test.true, part_long cs c.told-common) in
    record {
      there = there;
      low = λ some.
          let here = ap (λ b. (blossom_of b).price) (partly_here None 100 (new_blossom t cs) t.blossoms at c.loop-at.tables.blossoms there c.loop-at.invariant.blossoms) in
          omega (arith, here, c.requires.low at there (λ e. some (part_at cs c.told-common at there ∙ e)));
    }

pub loop-at-preserved : goal.loop-at-preserved
loop-at-preserved c =
    let cs = c.args.common.now in
    let at = c.loop-at.at in
    let there : at < 100 = omega (arith, c.loop-at-test.true, part_long cs c.told-common) in
    blossoms_more c.args.tables.now cs at c.loop-at.tables c.move_blossom.new.tables there
    (c.move_blossom.ensures ∙ ap (λ l. place_moved c.loop-at.tables at (moved_blossom l (blossom_of (place c.loop-at.tables at)).price)) (part_at cs c.told-common at there)) c.loop-at.invariant

pub returns : goal.returns
returns c = blossoms_done c.args.tables.now c.args.common.now c.loop-at.at c.loop-at.tables (omega (arith, c.loop-at-test.false, part_long c.args.common.now c.told-common)) c.loop-at.invariant
