-- Membership in lists, and in how many nodes a member lies. Assumes nothing.
use Rattle.std.proofs.Common.{◌≡◌, ℕ, ◌+◌, ◌%◌, ◌<◌, ◌≤◌, Bool, true, false, cond, ◌⊎◌, List, [], ◌∷◌, ◌++◌, length, sym, refl, ap, subst, inl, inr, ⊎_elim, arith}
use Rattle.std.proofs.lemmas.Bool.{cases_Bool}
use Rattle.matching.specs.State.{State, node_holds}
use Rattle.paths.specs.Bare.{Link, Join, Task, by_twos, end_in, piled}

pub data In {A : Type 0} (x : A) : List A → Type 0 where
  here : {xs : List A} → In x (x ∷ xs)
  there : {y : A} {xs : List A} → In x xs → In x (y ∷ xs)

pub in_cases : {A : Type 0} {x y : A} {ys : List A} → In x (y ∷ ys) → (x ≡ y) ⊎ In x ys
in_cases here = inl refl
in_cases (there i) = inr i

pub in_left : {A : Type 0} {x : A} {xs : List A} (ys : List A) → In x xs → In x (xs ++ ys)
in_left ys here = here
in_left ys (there i) = there (in_left ys i)

pub in_right : {A : Type 0} {x : A} (xs : List A) {ys : List A} → In x ys → In x (xs ++ ys)
in_right [] i = i
in_right (y ∷ xs) i = there (in_right xs i)

pub in_append : {A : Type 0} {x : A} (xs ys : List A) → In x (xs ++ ys) → In x xs ⊎ In x ys
in_append [] ys i = inr i
in_append (z ∷ xs) ys here = inl here
in_append (z ∷ xs) ys (there i) = ⊎_elim (λ k. inl (there k)) inr (in_append xs ys i)

pub cons_each : {A : Type 0} (P : A → Type 0) (x : A) (xs : List A) → P x → ((y : A) → In y xs → P y) → (y : A) → In y (x ∷ xs) → P y
cons_each P x xs h hs y here = h
cons_each P x xs h hs y (there i) = hs y i

abbrev pub bit : Bool → ℕ
bit b = cond b 1 0

pub bit_of : (b : Bool) → b ≡ true → bit b ≡ 1
bit_of b h = rw h

pub bit_no : (b : Bool) → b ≡ false → bit b ≡ 0
bit_no b h = rw h

pub bit_yes : (b : Bool) → 0 < bit b → b ≡ true
bit_yes true h = refl
bit_yes false h = absurd (omega arith)

pub bit_le1 : (b : Bool) → bit b ≤ 1
bit_le1 true = omega arith
bit_le1 false = omega arith

-- in how many of the nodes of a list v lies
abbrev among_nodes : {A : Type 0} → State → (A → ℕ) → List A → ℕ → ℕ
among_nodes s node [] v = 0
among_nodes s node (x ∷ xs) v = bit (node_holds s (node x) v) + among_nodes s node xs v

module _ {A : Type 0} (s : State) (node : A → ℕ) where
  nodes_append : (xs ys : List A) (v : ℕ) → among_nodes s node (xs ++ ys) v ≡ among_nodes s node xs v + among_nodes s node ys v
  nodes_append [] ys v = omega arith
  nodes_append (x ∷ xs) ys v = omega (arith, nodes_append xs ys v)

  nodes_in : {x : A} {xs : List A} (v : ℕ) → In x xs → node_holds s (node x) v ≡ true → 0 < among_nodes s node xs v
  nodes_in v here h = omega (arith, bit_of _ h)
  nodes_in v (there i) h = omega (arith, nodes_in v i h)

  nodes_find : (xs : List A) (v : ℕ) → 0 < among_nodes s node xs v → (x : A) × In x xs × (node_holds s (node x) v ≡ true)
  nodes_find [] v h = absurd (omega arith)
  nodes_find (x ∷ xs) v h = elim (cases_Bool (node_holds s (node x) v)) [
    | inl e ↦ (x, here, e)
    | inr e ↦ let r = nodes_find xs v (omega (arith, bit_no _ e)) in (r.0, there r.1, r.2)
  ]

-- in how many of the parts v lies
abbrev pub crowd : State → List Link → ℕ → ℕ
crowd s xs v = among_nodes s (λ (x : Link). x.part) xs v

pub crowd_append : (s : State) (xs ys : List Link) (v : ℕ) → crowd s (xs ++ ys) v ≡ crowd s xs v + crowd s ys v
crowd_append s xs ys v = nodes_append s (λ (x : Link). x.part) xs ys v

pub crowd_in : (s : State) {x : Link} {xs : List Link} (v : ℕ) → In x xs → node_holds s x.part v ≡ true → 0 < crowd s xs v
crowd_in s v i h = nodes_in s (λ (x : Link). x.part) v i h

pub crowd_find : (s : State) (xs : List Link) (v : ℕ) → 0 < crowd s xs v → (x : Link) × In x xs × (node_holds s x.part v ≡ true)
crowd_find s xs v h = nodes_find s (λ (x : Link). x.part) xs v h

-- in how many of the tasks' nodes v lies
abbrev pub tcrowd : State → List Task → ℕ → ℕ
tcrowd s ts v = among_nodes s (λ (t : Task). t.node) ts v

pub tcrowd_in : (s : State) {t : Task} {ts : List Task} (v : ℕ) → In t ts → node_holds s t.node v ≡ true → 0 < tcrowd s ts v
tcrowd_in s v i h = nodes_in s (λ (t : Task). t.node) v i h

pub tcrowd_find : (s : State) (ts : List Task) (v : ℕ) → 0 < tcrowd s ts v → (t : Task) × In t ts × (node_holds s t.node v ≡ true)
tcrowd_find s ts v h = nodes_find s (λ (t : Task). t.node) ts v h

-- the two tasks of a join
abbrev pub one_task : State → Join → Task
one_task s j = record { node = j.one; member = end_in s j.one j.offer }

abbrev pub other_task : State → Join → Task
other_task s j = record { node = j.other; member = end_in s j.other j.offer }

abbrev pub tasks : State → List Join → List Task
tasks s [] = []
tasks s (j ∷ js) = one_task s j ∷ (other_task s j ∷ tasks s js)

-- every part of an even number is in a join
pub tcrowd_twos : (s : State) (xs : List Link) (v : ℕ) → length xs % 2 ≡ 0 → tcrowd s (tasks s (by_twos xs)) v ≡ crowd s xs v
tcrowd_twos s [] v h = refl
tcrowd_twos s (x ∷ []) v h = absurd (omega arith)
tcrowd_twos s (x ∷ (y ∷ zs)) v h = omega (arith, tcrowd_twos s zs v (omega arith))

-- tasks piled upon others are these tasks and the others
pub tcrowd_piled : (s : State) (js : List Join) (ts : List Task) (v : ℕ) → tcrowd s (piled s js ts) v ≡ tcrowd s (tasks s js) v + tcrowd s ts v
tcrowd_piled s [] ts v = omega arith
tcrowd_piled s (j ∷ js) ts v = omega (arith, tcrowd_piled s js (other_task s j ∷ (one_task s j ∷ ts)) v)

pub piled_below : (s : State) (js : List Join) {ts : List Task} {t : Task} → In t ts → In t (piled s js ts)
piled_below s [] i = i
piled_below s (j ∷ js) i = piled_below s js (there (there i))

pub piled_in : (s : State) (js : List Join) (ts : List Task) (t : Task) → In t (tasks s js) → In t (piled s js ts)
piled_in s [] ts t i = elim i [ ]
piled_in s (j ∷ js) ts t here = piled_below s js (there here)
piled_in s (j ∷ js) ts t (there here) = piled_below s js here
piled_in s (j ∷ js) ts t (there (there i)) = piled_in s js _ t i

pub piled_cases : (s : State) (js : List Join) (ts : List Task) (t : Task) → In t (piled s js ts) → In t (tasks s js) ⊎ In t ts
piled_cases s [] ts t i = inr i
piled_cases s (j ∷ js) ts t i = elim (piled_cases s js (other_task s j ∷ (one_task s j ∷ ts)) t i) [
  | inl k ↦ inl (there (there k))
  | inr k ↦ elim (in_cases k) [
    | inl q ↦ inl (subst (λ (u : Task). In u (tasks s (j ∷ js))) (sym q) (there here))
    | inr l ↦ elim (in_cases l) [ inl q ↦ inl (subst (λ (u : Task). In u (tasks s (j ∷ js))) (sym q) here) | inr z ↦ inr z ]
  ]
]

-- what stands before and after an element
pub in_split : {A : Type 0} {x : A} {xs : List A} → In x xs → (before : List A) × (after : List A) × (xs ≡ before ++ (x ∷ after))
in_split (here {xs = ys}) = ([], ys, refl)
in_split (there {y = y} i) = let r = in_split i in (y ∷ r.0, r.1, ap (λ zs. y ∷ zs) r.2)
