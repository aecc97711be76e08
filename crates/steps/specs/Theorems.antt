-- That an accepted step leaves a state that keeps what every state keeps, and which offers an adjust moves. Assumes nothing.
use Rattle.std.specs.Prelude.{◌≡◌, ℕ, ◌+◌, ◌<◌, ◌≤◌, ◌≢◌, List, length, None}
use Rattle.matching.specs.State.{State, first_of, second_of, price_at, root_at, around, yz}
use Rattle.matching.specs.Kept.{Kept}
use Rattle.steps.specs.Adjust.{label_at, moved, label_fault, zero_fault, adjust_fault, adjusted}

abbrev pub AdjustKeeps : Type 0
AdjustKeeps = (s : State) (ls : List ℕ) → Kept s → adjust_fault s ls ≡ None → Kept (adjusted s ls)

-- an offer inside one root keeps its yz
abbrev pub InnerOffersStay : Type 0
InnerOffersStay = (s : State) (ls : List ℕ) (e : ℕ) → Kept s → label_fault s ls ≡ None → 1 ≤ s.floor → zero_fault s ls ≡ None → e < length s.rows →
    root_at s (first_of s e) ≡ root_at s (second_of s e) → yz (adjusted s ls) e ≡ yz s e

-- an offer between two roots lies in no blossom, and its yz moves with the prices of its two members
pub record Moves (s : State) (ls : List ℕ) (e : ℕ) : Type 0 where
  pub free : around s e ≡ 0
  pub sum : yz (adjusted s ls) e ≡ moved (label_at ls (first_of s e)) (price_at s (first_of s e)) + moved (label_at ls (second_of s e)) (price_at s (second_of s e))

abbrev pub OuterOffersMove : Type 0
OuterOffersMove = (s : State) (ls : List ℕ) (e : ℕ) → Kept s → e < length s.rows → root_at s (first_of s e) ≢ root_at s (second_of s e) → Moves s ls e
