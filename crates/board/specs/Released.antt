-- The plan that a board is released as. Assumes nothing.
use Rattle.std.specs.Prelude.{◌≡◌, ℕ, ◌<◌, cond, None, nat_lt, slice_index_or}
use Rattle.plan.specs.declared.plan.Plan.{Plan}
use Rattle.tables.specs.declared.tables.Tables.{Tables}
use Rattle.board.specs.Questions.{partner_of, loose_of, shown_saving, ground_saving}

pub record Released (t : Tables) (bound : ℕ) (p : Plan) : Type 0 where
  pub members : p.members ≡ t.members
  pub shown : p.shown ≡ shown_saving t
  pub ground : p.ground ≡ ground_saving t
  pub slack : p.slack ≡ bound
  pub floor : p.floor ≡ t.floor
  pub loose : p.loose ≡ loose_of t
  -- a place past the last member holds nothing
  pub partners : (v : ℕ) → v < 200 → slice_index_or p.partners v None ≡ cond (nat_lt v t.members) (partner_of t v) None
