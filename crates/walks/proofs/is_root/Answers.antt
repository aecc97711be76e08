use Rattle.std.proofs.Common.{◌≡◌, ◌-◌, eqb, get_or, None, sym, ap, ◌∙◌, arith}
use mathlib.Core.Logic.{∥∥₁_elim}
use mathlib.Core.Bool.{Bool-set}
use Rattle.std.proofs.lemmas.Bool.{le-ltb}
use Rattle.matching.specs.declared.row.Row.{Row}
use Rattle.matching.specs.State.{Blossom}
use Rattle.tables.proofs.Keeping.{blossom_there}
use Rattle.tables.proofs.Numbered.{member_is, blossom_is}
use Rattle.tables.specs.States.{blossom_of, state, place}
use Rattle.paths.specs.Walk.{is_root}
use Rattle.walks.proofs.Telling.{member_root, past_root, unused_root, end_told}
use Rattle.walks.proofs.is_root.Goals as goal

pub returns-then-own-tables : goal.returns-then-own-tables
returns-then-own-tables c =
    let s = state c.args.view.tables.now in
    let m = member_is c.args.node c.in-Member.own (sym c.from.ensures ∙ c.in-Member.is) in
    ∥∥₁_elim c.args.view.kept (Bool-set _ _) (λ h. member_root s h.kept c.in-Member.own (omega (arith, m.0, m.1)) c.if-own-tables.true ∙ ap (is_root s) m.1)

pub returns-else-own-tables : goal.returns-else-own-tables
returns-else-own-tables c =
    let s = state c.args.view.tables.now in
    let m = member_is c.args.node c.in-Member.own (sym c.from.ensures ∙ c.in-Member.is) in
    ∥∥₁_elim c.args.view.kept (Bool-set _ _) (λ h. le-ltb c.in-Member.own c.args.view.tables.now.members c.if-own-tables.false ∙ past_root s h.kept c.in-Member.own (omega (arith, m.0, m.1)) c.if-own-tables.false ∙ ap (is_root s) m.1)

pub returns-in-Some : goal.returns-in-Some
returns-in-Some c =
    let t = c.args.view.tables.now in
    let m = blossom_is c.args.node c.in-Blossom.at (sym c.from.ensures ∙ c.in-Blossom.is) in
    ap (λ (r : Row). eqb (get_or t.roots r.first 0) c.args.node) c.row-first.ensures.value
    ∙ ∥∥₁_elim c.args.view.kept (Bool-set _ _) (λ h. end_told t h c.in-Blossom.at c.in-Some.blossom.now (sym c.in-Some.ensures) c.args.node m.0 (sym m.1))

pub returns-in-None : goal.returns-in-None
returns-in-None c =
    let t = c.args.view.tables.now in
    let m = blossom_is c.args.node c.in-Blossom.at (sym c.from.ensures ∙ c.in-Blossom.is) in
    let free : place t c.in-Blossom.at ≡ None = sym c.in-None.ensures in
    ∥∥₁_elim c.args.view.kept (Bool-set _ _) (λ h. unused_root (state t) h.kept c.args.node m.0 (ap (λ (b : Blossom). b.used) (blossom_there t (c.args.node - 200) ∙ ap blossom_of (ap (place t) (sym m.1) ∙ free))))
