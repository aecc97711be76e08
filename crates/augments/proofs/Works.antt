-- The work that is left while tasks are done. Assumes nothing.
use Rattle.std.proofs.Common.{◌≡◌, ℕ, ◌+◌, ◌-◌, ◌*◌, ◌<◌, ◌≤◌, true, List, [], ◌∷◌, ◌++◌, map, length, take, drop, Some, None, Option, sym, refl, ap, ◌∙◌, subst, arith}
use mathlib.Core.Bool.{Bool-set}
use mathlib.Core.Logic.{∥∥₁_elim, ∥∥₁_map, ∥∥₁_prop}
use native.Mathlib.Bridge.{le_prop}
use native.Mathlib.Nat.{ℕ_set}
use lib.ListN.{length-map}
use Rattle.std.proofs.lemmas.List.{length-append}
use Rattle.matching.specs.State.{State, blossom_at, InUse, node_holds}
use Rattle.stack.specs.Items.{items, top, below}
use Rattle.stack.proofs.Tops.{length_items}
use Rattle.paths.specs.Bare.{Link, ring, by_twos, joined, Task, piled, Laid}
use Rattle.paths.proofs.Lists.{here, there, bit_of, crowd_find, in_split}
use Rattle.paths.proofs.Rings.{IsBlossom, Rings, rings_of, length_links}
use Rattle.paths.proofs.Laid.{blossom_of, even, crowd_round, apart_round, ready_round}
use Rattle.tables.specs.declared.tables.Tables.{Tables}
use Rattle.tables.specs.States.{state}
use Rattle.tables.specs.Kept.{Keeps}
use Rattle.tables.proofs.Keeping.{few}
use Rattle.augments.specs.declared.laying.Task.{Task as Chore}
use Rattle.augments.specs.Laying.{task_of, pile, link_at, turned, opened, Pending}
use Rattle.augments.proofs.Turns.{split_at, length_piled, length_twos}
use Rattle.augments.proofs.Loads.{load, load_le, load_more, length_load, load_same}
use Rattle.augments.proofs.Places.{links_at, node_used}

-- from the mates m₀ and the tasks ts₀, the tasks ts and the mates m are left
pub record Work (s : State) (ts₀ : List Task) (m₀ : List (Option ℕ)) (ts : List Task) (m : List (Option ℕ)) : Type 0 where
  pub pending : ∥ Pending s ts ∥₁
  pub laid : (m' : List (Option ℕ)) → Laid s ts m m' → Laid s ts₀ m₀ m'

-- what the stack still holds falls by this
abbrev pub effort : State → List Task → ℕ
effort s ts = 2 * load s ts - length ts

top_some : {A : Type 0} (xs : List A) (x : A) → top xs ≡ Some x → xs ≡ (x ∷ below xs)
top_some [] x h = let z : ◌≡◌ {A = ℕ} 0 1 = cc in absurd (omega arith)
top_some (y ∷ xs) x h = let e : y ≡ x = cc in ap (λ a. a ∷ xs) e

top_none : {A : Type 0} (xs : List A) → top xs ≡ None → xs ≡ []
top_none [] h = refl
top_none (y ∷ xs) h = let z : ◌≡◌ {A = ℕ} 0 1 = cc in absurd (omega arith)

-- a stack after its top task is taken off, and one that gave none
pub popped : (slots slots' : List Chore) (n n' : ℕ) (c : Chore) → Some c ≡ top (items slots n) → items slots' n' ≡ below (items slots n) → pile slots n ≡ (task_of c ∷ pile slots' n')
popped slots slots' n n' c one rest =
    ap (map task_of) (top_some (items slots n) c (sym one)) ∙ ap (λ (cs : List Chore). task_of c ∷ map task_of cs) (sym rest)

pub emptied : (slots : List Chore) (n : ℕ) → None ≡ top (items slots n) → pile slots n ≡ []
emptied slots n none = ap (map task_of) (top_none (items slots n) (sym none))

pub length_pile : (slots : List Chore) (n : ℕ) → n ≤ length slots → length (pile slots n) ≡ n
length_pile slots n l = length-map (items slots n) task_of ∙ length_items slots n l

-- a ring opened at x has a task for each of its parts
module _ (s : State) (nest : Rings s) (c : Task) (ts : List Task) (before after : List Link) (x : Link)
    (b : IsBlossom s c.node) (eq : ring s c.node ≡ before ++ (x ∷ after)) where
  length_round : (u : ℕ) → length (piled s (by_twos (after ++ before)) (record { node = x.part; member = u } ∷ ts)) ≡ length ts + length (ring s c.node)
  length_round u =
      let p = length_piled s (by_twos (after ++ before)) (record { node = x.part; member = u } ∷ ts) in
      let q = length_twos (after ++ before) (even s c.node nest b before after x eq) in
      let l = length-append after before in
      let m = length-append before (x ∷ after) in
      let n = ap length eq in
      omega arith

module _ (t : Tables) (k : Keeps t) where
  -- what holds by the rings of a kept state and by pending tasks
  by_both : {P : Type 0} (ts : List Task) → ∥ Pending (state t) ts ∥₁ → IsProp P → (Rings (state t) → Pending (state t) ts → P) → P
  by_both ts p prop f = ∥∥₁_elim k prop (λ h. ∥∥₁_elim p prop (f (rings_of (state t) h.kept)))

  pub fits : (ts : List Task) → ∥ Pending (state t) ts ∥₁ → (length ts ≤ load (state t) ts) × (load (state t) ts ≤ 200)
  fits ts p = (
    by_both ts p le_prop (λ nest w. length_load (state t) nest ts w.ready),
    by_both ts p le_prop (λ nest w. omega (arith, load_le (state t) ts w.apart, few t k)),
  )

  module _ (c : Task) (ts : List Task) (p : ∥ Pending (state t) (c ∷ ts) ∥₁) where
    pub top_holds : node_holds (state t) c.node c.member ≡ true
    top_holds = ∥∥₁_elim p (Bool-set _ _) (λ w. (w.ready c here).1)

    pub rest_pending : ∥ Pending (state t) ts ∥₁
    rest_pending = ∥∥₁_map p (λ w. record { ready = λ u i. w.ready u (there i); apart = λ v. omega (arith, w.apart v) })

    pub falls_alone : effort (state t) ts < effort (state t) (c ∷ ts)
    falls_alone =
        let a : load (state t) ts < load (state t) (c ∷ ts) = by_both (c ∷ ts) p le_prop (λ nest w. load_more (state t) nest c ts w.ready) in
        let f = fits (c ∷ ts) p in
        omega (arith, a, f.0)

    module _ (ge : 200 ≤ c.node) where
      -- there is room for a task for each part
      pub ring_room : length ts + length (ring (state t) c.node) ≤ 200
      ring_room = by_both (c ∷ ts) p le_prop by
        where
          by : Rings (state t) → Pending (state t) (c ∷ ts) → length ts + length (ring (state t) c.node) ≤ 200
          by nest w =
              let s = state t in
              let h = w.ready c here in
              let b = blossom_of s c.node nest ge h.0 in
              let f = crowd_find s (ring s c.node) c.member (omega (arith, (nest.rings c.node b).splits c.member, bit_of _ h.1)) in
              let sp = in_split f.1 in
              let ready = ready_round s nest c ts sp.0 sp.1 f.0 b sp.2 f.2 w.ready in
              let apart = apart_round s nest c ts sp.0 sp.1 f.0 b sp.2 w.apart in
              omega (
                arith,
                length_round s nest c ts sp.0 sp.1 f.0 b sp.2 c.member,
                length_load s nest _ ready,
                load_le s _ apart,
                few t k,
              )

      used : InUse (state t) (c.node - 200)
      used = node_used (state t) c.node c.member ge top_holds

      same_length : length (blossom_at (state t) (c.node - 200)).joins ≡ length (blossom_at (state t) (c.node - 200)).parts
      same_length = ∥∥₁_elim k (ℕ_set _ _) (λ h. (h.kept.nested.rings (c.node - 200) used).joins)

      module _ (r : ℕ) (l : r < length (ring (state t) c.node)) (held : node_holds (state t) (link_at (state t) c.node r).part c.member ≡ true) where
        ring_split : ring (state t) c.node ≡ take r (ring (state t) c.node) ++ (link_at (state t) c.node r ∷ drop (r + 1) (ring (state t) c.node))
        ring_split =
            let d : Link = record { part = 0; offer = 0 } in
            let bl = blossom_at (state t) (c.node - 200) in
            split_at (ring (state t) c.node) r l d
            ∙ ap (λ (x : Link). take r (ring (state t) c.node) ++ (x ∷ drop (r + 1) (ring (state t) c.node)))
            (links_at bl.parts bl.joins r d same_length (omega (arith, l, length_links bl.parts bl.joins same_length)))

        pub falls_open : effort (state t) (opened (state t) c r ts) < effort (state t) (c ∷ ts)
        falls_open =
            let s = state t in
            let x = link_at s c.node r in
            let a : load s (opened s c r ts) ≡ load s (c ∷ ts) = by_both (c ∷ ts) p (ℕ_set _ _) (λ nest w.
            load_same s (opened s c r ts) (c ∷ ts) (λ v. crowd_round s nest c ts _ _ x (blossom_of s c.node nest ge (w.ready c here).0) ring_split c.member v)) in
            let b : length (opened s c r ts) ≡ length ts + length (ring s c.node) = by_both (c ∷ ts) p (ℕ_set _ _) (λ nest w.
            length_round s nest c ts _ _ x (blossom_of s c.node nest ge (w.ready c here).0) ring_split c.member) in
            let e : 3 ≤ length (ring s c.node) = by_both (c ∷ ts) p le_prop (λ nest w. (nest.rings c.node (blossom_of s c.node nest ge (w.ready c here).0)).three) in
            let f = fits (c ∷ ts) p in
            omega (arith, a, b, e, f.0)

        pub open_pending : ∥ Pending (state t) (opened (state t) c r ts) ∥₁
        open_pending = by_both (c ∷ ts) p ∥∥₁_prop (λ nest w.
            let s = state t in
            let x = link_at s c.node r in
            let b = blossom_of s c.node nest ge (w.ready c here).0 in
            ∣ record { ready = ready_round s nest c ts _ _ x b ring_split held w.ready; apart = apart_round s nest c ts _ _ x b ring_split w.apart } ∣₁)

        pub open_laid : (m m' : List (Option ℕ)) → Laid (state t) (opened (state t) c r ts) (joined (state t) (by_twos (turned (state t) c.node r)) m) m' → Laid (state t) (c ∷ ts) m m'
        open_laid m m' l' = Laid.round (take r (ring (state t) c.node)) (drop (r + 1) (ring (state t) c.node)) (link_at (state t) c.node r) ge ring_split held l'

pub begin : (s : State) (ts : List Task) (m : List (Option ℕ)) → ∥ Pending s ts ∥₁ → Work s ts m ts m
begin s ts m p = record { pending = p; laid = λ m' l. l }

pub finish : (s : State) (ts₀ : List Task) (m₀ m : List (Option ℕ)) (ts : List Task) → ts ≡ [] → Work s ts₀ m₀ ts m → Laid s ts₀ m₀ m
finish s ts₀ m₀ m ts none w = w.laid m (subst (λ (us : List Task). Laid s us m m) (sym none) Laid.none)

-- one turn at a member alone, and one at a blossom
module _ (t : Tables) (k : Keeps t) (ts₀ : List Task) (m₀ m : List (Option ℕ)) (before : List Task) (c : Task) (ts : List Task) (is : before ≡ (c ∷ ts)) (w : Work (state t) ts₀ m₀ before m) where
  here_pending : ∥ Pending (state t) (c ∷ ts) ∥₁
  here_pending = subst (λ (us : List Task). ∥ Pending (state t) us ∥₁) is w.pending

  here_laid : (m' : List (Option ℕ)) → Laid (state t) (c ∷ ts) m m' → Laid (state t) ts₀ m₀ m'
  here_laid m' l = w.laid m' (subst (λ (us : List Task). Laid (state t) us m m') (sym is) l)

  pub task_holds : node_holds (state t) c.node c.member ≡ true
  task_holds = top_holds t k c ts here_pending

  pub task_room : 200 ≤ c.node → length ts + length (ring (state t) c.node) ≤ 200
  task_room = ring_room t k c ts here_pending

  pub alone_falls : effort (state t) ts < effort (state t) before
  alone_falls = subst (λ (us : List Task). effort (state t) ts < effort (state t) us) (sym is) (falls_alone t k c ts here_pending)

  pub alone_work : c.node < 200 → Work (state t) ts₀ m₀ ts m
  alone_work lt = record { pending = rest_pending t k c ts here_pending; laid = λ m' l. here_laid m' (Laid.alone lt l) }

  module _ (ge : 200 ≤ c.node) (r : ℕ) (l : r < length (ring (state t) c.node)) (held : node_holds (state t) (link_at (state t) c.node r).part c.member ≡ true)
      (after : List Task) (m₁ : List (Option ℕ)) (tasks : after ≡ opened (state t) c r ts) (mates : m₁ ≡ joined (state t) (by_twos (turned (state t) c.node r)) m) where
    pub open_falls : effort (state t) after < effort (state t) before
    open_falls =
        subst (λ (us : List Task). effort (state t) after < effort (state t) us) (sym is)
        (subst (λ (us : List Task). effort (state t) us < effort (state t) (c ∷ ts)) (sym tasks) (falls_open t k c ts here_pending ge r l held))

    pub open_work : Work (state t) ts₀ m₀ after m₁
    open_work = record {
      pending = subst (λ (us : List Task). ∥ Pending (state t) us ∥₁) (sym tasks) (open_pending t k c ts here_pending ge r l held);
      laid = λ m' l'. here_laid m' (open_laid t k c ts here_pending ge r l held m m'
          (subst (λ (us : List Task). Laid (state t) us (joined (state t) (by_twos (turned (state t) c.node r)) m) m') tasks
          (subst (λ (n : List (Option ℕ)). Laid (state t) after n m') mates l')));
    }
