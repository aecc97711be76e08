-- Laying bare: which offers inside a node become paired, so that just one given member is left over. Assumes nothing.
use Rattle.std.specs.Prelude.{◌≡◌, ℕ, ◌-◌, ◌<◌, ◌≤◌, true, cond, List, [], ◌∷◌, ◌++◌, Some, Option, slice_set}
use Rattle.matching.specs.State.{State, first_of, second_of, blossom_at, node_holds}

-- a part of a ring, or a root on a path, and the offer that leads to the next one
pub record Link : Type 0 where
  pub part : ℕ
  pub offer : ℕ

abbrev pub links : List ℕ → List ℕ → List Link
links [] es = []
links (p ∷ ps) [] = []
links (p ∷ ps) (e ∷ es) = record { part = p; offer = e } ∷ links ps es

-- the ring of a node that is a blossom
abbrev pub ring : State → ℕ → List Link
ring s p = links (blossom_at s (p - 200)).parts (blossom_at s (p - 200)).joins

-- an offer that becomes paired, and the two nodes that it joins
pub record Join : Type 0 where
  pub offer : ℕ
  pub one : ℕ
  pub other : ℕ

-- the first node with the second, by the offer between them; the third with the fourth; and so on
abbrev pub by_twos : List Link → List Join
by_twos [] = []
by_twos (x ∷ []) = []
by_twos (x ∷ (y ∷ zs)) = record { offer = x.offer; one = x.part; other = y.part } ∷ by_twos zs

-- the mates once these offers are paired
abbrev pub joined : State → List Join → List (Option ℕ) → List (Option ℕ)
joined s [] m = m
joined s (j ∷ js) m = joined s js (slice_set (slice_set m (first_of s j.offer) (Some j.offer)) (second_of s j.offer) (Some j.offer))

-- a member to lay bare in a node that holds it
pub record Task : Type 0 where
  pub node : ℕ
  pub member : ℕ

-- the end of the offer e that lies in the node p
abbrev pub end_in : State → ℕ → ℕ → ℕ
end_in s p e = cond (node_holds s p (first_of s e)) (first_of s e) (second_of s e)

-- where an offer becomes paired, each of the two nodes is laid bare where the offer ends: these tasks, upon others
abbrev pub piled : State → List Join → List Task → List Task
piled s [] ts = ts
piled s (j ∷ js) ts =
    piled s js
    (record { node = j.other; member = end_in s j.other j.offer }
    ∷ (record { node = j.one; member = end_in s j.one j.offer } ∷ ts))

-- the tasks, done from the first on, turn the mates m into m'
pub data Laid (s : State) : List Task → List (Option ℕ) → List (Option ℕ) → Type 0 where
  none : {m : List (Option ℕ)} → Laid s [] m m
  -- in a member alone nothing is paired
  alone : {t : Task} {ts : List Task} {m m' : List (Option ℕ)} → t.node < 200 → Laid s ts m m' → Laid s (t ∷ ts) m m'
  -- round the ring of a blossom from the part x that holds the member, the second, fourth, .. offer becomes paired; x is laid bare at the member
  round : {t : Task} {ts : List Task} {m m' : List (Option ℕ)} (before after : List Link) (x : Link) →
      200 ≤ t.node → ring s t.node ≡ before ++ (x ∷ after) → node_holds s x.part t.member ≡ true →
      Laid s (piled s (by_twos (after ++ before)) (record { node = x.part; member = t.member } ∷ ts)) (joined s (by_twos (after ++ before)) m) m' →
      Laid s (t ∷ ts) m m'
