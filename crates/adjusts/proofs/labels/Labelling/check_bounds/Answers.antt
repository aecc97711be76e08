use Rattle.std.proofs.Common.{not, length, sym, ◌∙◌, arith, below_more}
use Rattle.faults.specs.declared.layers.BoardFault.TheVariants.{OutOfBounds}
use Rattle.steps.specs.Adjust.{in_bounds, adjusted}
use Rattle.tables.specs.States.{offered, state}
use Rattle.tables.proofs.Keeping.{full}
use Rattle.steps.proofs.Searches.{judged_none, judged_found}
use Rattle.adjusts.proofs.labels.Labelling.check_bounds.Goals as goal

pub leaves_bounds-requires : goal.leaves_bounds-requires
leaves_bounds-requires c = record { begun = c.requires.begun; above = c.requires.above; labelled = c.requires.labelled; priced = c.requires.priced; there = c.loop-e-test.true }

pub returns-then-leaves_bounds : goal.returns-then-leaves_bounds
returns-then-leaves_bounds c =
    let t = c.args.self.view.tables.now in
    judged_found OutOfBounds (λ u. not (in_bounds (adjusted (state t) c.args.self.labels.now) u)) (length (offered t)) c.loop-e.e (omega (arith, full t c.args.self.view.kept, c.loop-e-test.true)) (sym c.leaves_bounds.ensures ∙ c.if-leaves_bounds.true) c.loop-e.invariant

pub loop-e-preserved : goal.loop-e-preserved
loop-e-preserved c = below_more _ _ c.loop-e.invariant (sym c.leaves_bounds.ensures ∙ c.if-leaves_bounds.false)

pub returns : goal.returns
returns c =
    let t = c.args.self.view.tables.now in
    judged_none OutOfBounds (λ u. not (in_bounds (adjusted (state t) c.args.self.labels.now) u)) (length (offered t)) (λ u l. c.loop-e.invariant u (omega (arith, full t c.args.self.view.kept)))
