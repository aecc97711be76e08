use Rattle.rings.specs.Dissolve.{dissolve_fault}
use Rattle.tables.specs.States.{state}
use Rattle.faults.proofs.Judged.{told_ok}
use Rattle.blossoms.proofs.Refusing.{node_from}
use Rattle.blossoms.proofs.roots_after.Goals as goal

pub roots_of_parts-requires : goal.roots_of_parts-requires
roots_of_parts-requires c =
    let t = c.args.view.tables.now in
    node_from t c.args.view.kept c.args.node (told_ok (dissolve_fault (state t) c.args.node) c.in_ok-check_dissolve.field-0 c.in_ok-check_dissolve.ensures)
