use Rattle.std.proofs.Common.{ap, ◌∙◌, arith}
use Rattle.matching.specs.State.{node_holds}
use Rattle.tables.specs.States.{state}
use Rattle.augments.specs.Laying.{link_at}
use Rattle.augments.proofs.Places.{ringed, first_part}
use Rattle.augments.proofs.laying.seat.Goals as goal

pub returns : goal.returns
returns c =
    let t = c.args.view.tables.now in
    let p = c.args.node in
    let v = c.args.member in
    let ls = c.ring_of.result.now in
    let r = ringed t c.args.view.kept p v c.requires.blossom c.requires.held ls c.ring_of.ensures.value in
    let first = first_part t p v ls r c.first_holding.result c.first_holding.ensures in
    record {
      within = omega (arith, c.unwrap_or.ensures, first.0, r.long);
      found = ap (λ j. node_holds (state t) (link_at (state t) p j).part v) c.unwrap_or.ensures ∙ first.1;
    }
