use Rattle.std.proofs.Common.{arith}
use Rattle.std.proofs.lemmas.List.{length-take-le}
use Rattle.report.proofs.Capped.{push_fitting, added}
use Rattle.report.proofs.draft.Draft.push.Goals as goal

pub returns : goal.returns
returns c =
    let h = c.try_extend_from_slice-fits.ensures in
    push_fitting c.args.self.now.text.items c.try_extend_from_slice-fits.new.self.items c.args.piece.now c.remaining_capacity-room.result c.min.result (omega (arith, c.remaining_capacity-room.ensures)) (omega (arith, c.min.ensures)) (added _ (h.variant.1 (omega (arith, c.min.ensures, c.remaining_capacity-room.ensures, length-take-le c.min.result c.args.piece.now (omega (arith, c.min.ensures))))) h.ok)
