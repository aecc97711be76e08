use Rattle.std.proofs.Common.{◌+◌, length, take, ◌∙◌}
use Rattle.rings.specs.Shrink.{passed}
use Rattle.tables.specs.States.{parts_in, joins_in, state}
use Rattle.blossoms.specs.Steps.{Free}
use Rattle.blossoms.proofs.Holding.{holds_is, roots_is, ring_told}
use Rattle.blossoms.proofs.ring_of.Goals as goal

pub returns : goal.returns
returns c =
    let t = c.args.view.tables.now in
    let s = state t in
    let r = c.args.root in
    let es = c.args.offers.now in
    let place = c.in_ok-place.place in
    let free : Free s r es place = c.in_ok-place.ensures in
    let ps = passed s r es in
    let links = take (length es) c.links_of.result.0 in
    let marks = c.links_of.result.1 in
    let marked = c.links_of.ensures.marks in
    let holds = c.members_of-holds.result in
    record {
      none = free.none;
      low = free.low;
      free = free.free;
      blossom = ring_told s ps es (parts_in links) (joins_in links) holds c.links_of.ensures.parts c.links_of.ensures.joins (holds_is t c.args.view.kept ps marks marked holds c.members_of-holds.ensures);
      roots = c.roots_under-roots.ensures ∙ roots_is t c.args.view.kept ps marks marked holds c.members_of-holds.ensures (200 + place);
    }
