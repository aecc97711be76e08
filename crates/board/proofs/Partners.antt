-- The partner of a member. Assumes nothing.
use Rattle.std.proofs.Common.{◌≡◌, ℕ, cond, Some, sym, ap, ◌∙◌}
use Rattle.std.proofs.lemmas.Bool.{eq-eqb, ne_eqb}
use Rattle.matching.specs.declared.row.Row.{Row}
use Rattle.matching.specs.Rows.{row}
use Rattle.matching.specs.Mates.{mate, other, partner_by}
use Rattle.tables.specs.declared.tables.Tables.{Tables}
use Rattle.tables.specs.States.{offered}
use Rattle.board.specs.Questions.{partner_of}

-- the partner by a mate, at either end of its offer
module _ (t : Tables) (v e : ℕ) (m : mate t.mates v ≡ Some e) (r : Row) (is : r ≡ row (offered t) e) where
  by_other : partner_of t v ≡ Some (other r v)
  by_other = ap (λ o. partner_by (offered t) o v) m ∙ ap (λ q. Some (other q v)) (sym is)

  pub partner_second : r.first ≡ v → Some r.second ≡ partner_of t v
  partner_second f = sym (by_other ∙ ap (λ b. Some (cond b r.second r.first)) (eq-eqb r.first v f))

  pub partner_first : (r.first ≡ v → ⊥) → Some r.first ≡ partner_of t v
  partner_first f = sym (by_other ∙ ap (λ b. Some (cond b r.second r.first)) (ne_eqb r.first v f))
