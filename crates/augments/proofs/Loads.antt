-- How many members lie under the tasks that are still to be done. Assumes nothing.
use Rattle.std.proofs.Common.{◌≡◌, ℕ, ◌<◌, ◌≤◌, List, [], ◌∷◌, length, arith}
use Rattle.matching.specs.Sums.{total, below}
use Rattle.matching.specs.State.{State}
use Rattle.matching.proofs.Sums.{total_below_const, total_below_le, total_below_less, total_below_same}
use Rattle.paths.specs.Bare.{Task}
use Rattle.paths.proofs.Lists.{here, there, bit_of, tcrowd}
use Rattle.paths.proofs.Laid.{Ready, ApartTasks}
use Rattle.paths.proofs.Rings.{Rings}

-- how many members the tasks' nodes hold
abbrev pub load : State → List Task → ℕ
load s ts = total (tcrowd s ts) (below s.members)

pub load_le : (s : State) (ts : List Task) → ApartTasks s ts → load s ts ≤ s.members
load_le s ts apart = omega (arith, total_below_le (tcrowd s ts) (λ v. 1) s.members (λ v l. apart v), total_below_const 1 s.members)

module _ (s : State) (nest : Rings s) where
  -- every task has a member of its own
  pub load_more : (t : Task) (ts : List Task) → Ready s (t ∷ ts) → load s ts < load s (t ∷ ts)
  load_more t ts ready =
      let r = ready t here in
      total_below_less (tcrowd s ts) (tcrowd s (t ∷ ts)) t.member s.members (nest.below _ _ r.0 r.1) (omega (arith, bit_of _ r.1)) (λ v l. omega arith)

  pub length_load : (ts : List Task) → Ready s ts → length ts ≤ load s ts
  length_load [] ready = omega arith
  length_load (t ∷ ts) ready = omega (arith, length_load ts (λ u i. ready u (there i)), load_more t ts ready)

pub load_same : (s : State) (ts us : List Task) → ((v : ℕ) → tcrowd s ts v ≡ tcrowd s us v) → load s ts ≡ load s us
load_same s ts us h = total_below_same (tcrowd s ts) (tcrowd s us) s.members (λ v l. h v)
