-- What laying bare brings about, and that an accepted augment leaves one state, which keeps what every state keeps. Assumes nothing.
use Rattle.std.specs.Prelude.{◌≡◌, ℕ, ◌+◌, ◌<◌, true, false, not, ◌≢◌, ◌⊎◌, List, [], ◌∷◌, length, Some, None, Option, slice_index, slice_index_or}
use Rattle.matching.specs.Mates.{mate}
use Rattle.matching.specs.State.{State, first_of, second_of, blossom_at, InUse, inside, node_holds, paired_in, loose_in}
use Rattle.matching.specs.Kept.{Kept, Node, bare}
use Rattle.paths.specs.Bare.{Laid}
use Rattle.paths.specs.Augment.{augment_fault, with_mates, Augmented}

-- the blossom at place i is in use, and lies inside the node p
pub record Within (s : State) (i p : ℕ) : Type 0 where
  pub used : InUse s i
  pub holds : (v : ℕ) → inside (blossom_at s i) v ≡ true → node_holds s p v ≡ true

-- with the mates m, v is paired inside the node p by an offer that joins two parts of a blossom there
pub record PairedWithin (s : State) (m : List (Option ℕ)) (p v : ℕ) : Type 0 where
  pub offer : ℕ
  pub by : mate m v ≡ Some offer
  pub names : (v ≡ first_of s offer) ⊎ (v ≡ second_of s offer)
  pub first : mate m (first_of s offer) ≡ Some offer
  pub second : mate m (second_of s offer) ≡ Some offer
  pub first_in : node_holds s p (first_of s offer) ≡ true
  pub second_in : node_holds s p (second_of s offer) ≡ true
  pub place : ℕ
  pub within : Within s place p
  pub at : ℕ
  pub there : at < length (blossom_at s place).joins
  pub rings : slice_index_or (blossom_at s place).joins at 0 ≡ offer

-- v's mate, if it has one, leads out of the node p
abbrev pub LeadsOut : State → List (Option ℕ) → ℕ → ℕ → Type 0
LeadsOut s m p v = (e : ℕ) → mate m v ≡ Some e → node_holds s p (first_of s e) ≡ true → node_holds s p (second_of s e) ≢ true

-- the node p is laid bare at its member u
pub record LaidBare (s : State) (p u : ℕ) (m m' : List (Option ℕ)) : Type 0 where
  pub outside : (v : ℕ) → node_holds s p v ≡ false → mate m' v ≡ mate m v
  pub kept : mate m' u ≡ mate m u
  pub others : (v : ℕ) → node_holds s p v ≡ true → v ≢ u → PairedWithin s m' p v
  -- in every blossom inside, exactly one member is not paired within it
  pub one_bare : LeadsOut s m p u → (i : ℕ) → Within s i p → bare (with_mates s m') (blossom_at s i) ≡ 1

abbrev pub BareLaw : Type 0
BareLaw = (s : State) (p u : ℕ) (m m' : List (Option ℕ)) → Kept s → length m ≡ 200 → Node s p → node_holds s p u ≡ true →
    Laid s (record { node = p; member = u } ∷ []) m m' → LaidBare s p u m m'

abbrev pub OneResult : Type 0
OneResult = (s : State) (p u : ℕ) (m m₁ m₂ : List (Option ℕ)) → Kept s → Node s p → node_holds s p u ≡ true →
    Laid s (record { node = p; member = u } ∷ []) m m₁ → Laid s (record { node = p; member = u } ∷ []) m m₂ → m₁ ≡ m₂

abbrev pub AugmentKeeps : Type 0
AugmentKeeps = (s t : State) (r : ℕ) (es : List ℕ) → Kept s → augment_fault s r es ≡ None → Augmented s r es t → Kept t

abbrev pub TwoFewerLoose : Type 0
TwoFewerLoose = (s t : State) (r : ℕ) (es : List ℕ) → Kept s → augment_fault s r es ≡ None → Augmented s r es t → loose_in s ≡ loose_in t + 2

-- along the list, paired and unpaired are exchanged
abbrev pub Exchanges : Type 0
Exchanges = (s t : State) (r : ℕ) (es : List ℕ) (j : ℕ) → Kept s → augment_fault s r es ≡ None → Augmented s r es t → j < length es →
    paired_in t (slice_index es j) ≡ not (paired_in s (slice_index es j))

abbrev pub OneAugment : Type 0
OneAugment = (s t₁ t₂ : State) (r : ℕ) (es : List ℕ) → Kept s → augment_fault s r es ≡ None → Augmented s r es t₁ → Augmented s r es t₂ → t₁ ≡ t₂
