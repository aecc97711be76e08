-- What every board keeps, at any moment somebody can hold it. Assumes nothing.
use Rattle.std.specs.Prelude.{◌≡◌, ◌≤◌, length}
use Rattle.matching.specs.Kept.{Kept}
use Rattle.tables.specs.declared.tables.Tables.{Tables}
use Rattle.tables.specs.States.{offered, state}

-- the offers are all there, and the state keeps what every state keeps
pub record Held (t : Tables) : Type 0 where
  pub short : t.offers ≤ 4000
  pub full : length (offered t) ≡ t.offers
  pub kept : Kept (state t)

-- a fact that can be held in a type
abbrev pub Keeps : Tables → Type 0
Keeps t = ∥ Held t ∥₁
