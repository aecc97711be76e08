-- Moving the prices, one member and one blossom after the other. Assumes nothing.
use Rattle.std.proofs.Common.{◌≡◌, ℕ, ◌+◌, ◌-◌, ◌<◌, ◌≤◌, cond, ltb, List, [], ◌∷◌, map, length, get_or, take, drop, set, None, Some, Option, sym, refl, ap, ◌∙◌, subst, ⊎_elim, arith, length-set}
use lib.ListN.{length-map}
use Rattle.std.proofs.lemmas.List.{length-drop, length-take-le, get_or-drop, get_or-take, ext_get_or, get_or-map, get_or-set_same, get_or-set_other, get_or_past, set-get_or}
use Rattle.std.proofs.lemmas.Bool.{cases_eq, cases_lt, lt-ltb, le-ltb}
use Rattle.std.proofs.lemmas.Bool.Decides.{nat_tests}
use Rattle.std.specs.List.{AllByRecursion as All}
use Rattle.matching.specs.Sums.{below}
use Rattle.matching.specs.State.{Blossom as Shape, no_blossom, blossom_at}
use Rattle.matching.proofs.Sums.{length_below, getD_below, all_below}
use Rattle.steps.specs.Adjust.{label_at, root_label, moved, moved_blossom, repriced, adjusted}
use Rattle.tables.specs.declared.tables.Blossom.{Blossom}
use Rattle.tables.specs.declared.tables.Tables.{Tables}
use Rattle.tables.specs.States.{offered, blossom_of, state, place}
use Rattle.adjusts.specs.Labels.{RootLabels}
use Rattle.tables.specs.Prices.{with_prices, place_moved}
use Rattle.tables.proofs.Keeping.{blossom_there}
use Rattle.board.specs.Moves.{moved_place, moved_prices, members_moved, moved_blossoms, blossoms_moved, all_moved}

-- a list of n places whose first i are by f, and the others as in xs, and what comes of it at the end
module _ {X : Type 0} (d : X) (n : ℕ) (f : ℕ → X) (xs : List X) where
  pub record Partly (i : ℕ) (ys : List X) : Type 0 where
    pub long : length ys ≡ n
    pub places : (v : ℕ) → v < n → get_or ys v d ≡ cond (ltb v i) (f v) (get_or xs v d)

  pub partly_none : length xs ≡ n → Partly 0 xs
  partly_none l = record { long = l; places = λ v h. ap (λ b. cond b (f v) (get_or xs v d)) (sym (le-ltb v 0 (omega arith))) }

  pub partly_more : (i : ℕ) (ys : List X) (y : X) → i < n → y ≡ f i → Partly i ys → Partly (i + 1) (set ys i y)
  partly_more i ys y l e h = record {
    long = length-set ys i y ∙ h.long;
    places = λ v less. ⊎_elim
        (λ (same : v ≡ i).
        ap (λ k. get_or (set ys i y) k d) same
        ∙ get_or-set_same ys i y d (omega (arith, h.long))
        ∙ e
        ∙ ap f (sym same)
        ∙ ap (λ b. cond b (f v) (get_or xs v d)) (sym (lt-ltb v (i + 1) (omega arith))))
        (λ (apart : v ≡ i → ⊥).
        let still : ltb v i ≡ ltb v (i + 1) = grind (arith, nat_tests) in
        get_or-set_other ys i v y d apart ∙ h.places v less ∙ ap (λ b. cond b (f v) (get_or xs v d)) still)
        (cases_eq v i);
  }

  -- the element that is next is still the old one
  pub partly_here : (i : ℕ) (ys : List X) → i < n → Partly i ys → get_or ys i d ≡ get_or xs i d
  partly_here i ys l h = h.places i l ∙ ap (λ b. cond b (f i) (get_or xs i d)) (le-ltb i i (omega arith))

  -- at an end from which on f changes nothing
  pub partly_all : (i : ℕ) (ys : List X) → Partly i ys → ((v : ℕ) → v < n → i ≤ v → f v ≡ get_or xs v d) → ys ≡ map f (below n)
  partly_all i ys h rest =
      ext_get_or d ys (map f (below n)) (h.long ∙ sym (length-map (below n) f ∙ length_below n))
      (λ v l. let less : v < n = omega (arith, h.long) in
      h.places v less
      ∙ ⊎_elim
      (λ (in' : v < i). ap (λ b. cond b (f v) (get_or xs v d)) (lt-ltb v i in'))
      (λ (out : i ≤ v). ap (λ b. cond b (f v) (get_or xs v d)) (le-ltb v i out) ∙ sym (rest v less out))
      (cases_lt v i)
      ∙ sym (get_or-map f (below n) v 0 d (omega (arith, length_below n)) ∙ ap f (getD_below n v 0 less)))

abbrev pub new_price : Tables → List ℕ → ℕ → ℕ
new_price t ls v = moved (label_at ls v) (get_or t.prices v 0)

-- the prices of the members below v are moved, and nothing else
pub record MembersSofar (t : Tables) (ls : List ℕ) (v : ℕ) (t' : Tables) : Type 0 where
  pub others : t' ≡ with_prices t t.floor t'.prices t.blossoms
  pub prices : Partly 0 200 (new_price t ls) t.prices v t'.prices

abbrev pub new_blossom : Tables → List ℕ → ℕ → Option Blossom
new_blossom t common i = moved_place (get_or common (200 + i) 0) (place t i)

-- the blossoms below place i are moved, and nothing else
pub record BlossomsSofar (t : Tables) (common : List ℕ) (i : ℕ) (t' : Tables) : Type 0 where
  pub others : t' ≡ with_prices t t.floor t.prices t'.blossoms
  pub blossoms : Partly None 100 (new_blossom t common) t.blossoms i t'.blossoms

past_label : (ls : List ℕ) (v y : ℕ) → length ls ≤ v → moved (label_at ls v) y ≡ y
past_label ls v y l = ap (λ k. moved k y) (get_or_past ls v 0 l)

pub members_done : (t : Tables) (ls : List ℕ) (v : ℕ) (t' : Tables) → length ls ≤ v → MembersSofar t ls v t' → t' ≡ members_moved t ls
members_done t ls v t' l h =
    h.others
    ∙ ap (λ ps. with_prices t t.floor ps t.blossoms) (partly_all 0 200 (new_price t ls) t.prices v t'.prices h.prices (λ u less out. past_label ls u (get_or t.prices u 0) (omega arith)))

module _ (t : Tables) (common : List ℕ) where
  pub blossoms_none : length t.blossoms ≡ 100 → BlossomsSofar t common 0 t
  blossoms_none l = record { others = refl; blossoms = partly_none None 100 (new_blossom t common) t.blossoms l }

  pub blossoms_more : (i : ℕ) (t' t'' : Tables) → i < 100 → t'' ≡ place_moved t' i (moved_blossom (get_or common (200 + i) 0) (blossom_of (place t' i)).price) → BlossomsSofar t common i t' → BlossomsSofar t common (i + 1) t''
  blossoms_more i t' t'' l made h =
      let here : place t' i ≡ place t i = partly_here None 100 (new_blossom t common) t.blossoms i t'.blossoms l h.blossoms in
      let new = set t'.blossoms i (moved_place (get_or common (200 + i) 0) (place t' i)) in
      let is : moved_place (get_or common (200 + i) 0) (place t' i) ≡ new_blossom t common i = ap (moved_place (get_or common (200 + i) 0)) here in
      let held : new ≡ t''.blossoms = ap (λ u. u.blossoms) (sym made) in
      record {
        others = made ∙ ap (λ u. with_prices u u.floor u.prices new) h.others ∙ ap (with_prices t t.floor t.prices) held;
        blossoms = subst (Partly None 100 (new_blossom t common) t.blossoms (i + 1)) held (partly_more None 100 (new_blossom t common) t.blossoms i t'.blossoms (moved_place (get_or common (200 + i) 0) (place t' i)) l is h.blossoms);
      }

  pub blossoms_done : (i : ℕ) (t' : Tables) → 100 ≤ i → BlossomsSofar t common i t' → t' ≡ blossoms_moved t common
  blossoms_done i t' l h =
      h.others
      ∙ ap (with_prices t t.floor t.prices) (partly_all None 100 (new_blossom t common) t.blossoms i t'.blossoms h.blossoms (λ u less out. absurd (omega arith)))

-- without a label nothing moves, nor where there is no blossom
same_price : (o : Option Blossom) → moved_place 0 o ≡ o
same_price None = refl
same_price (Some b) = refl

put_back : (t : Tables) (i : ℕ) (o : Option Blossom) → o ≡ place t i → t ≡ with_prices t t.floor t.prices (set t.blossoms i o)
put_back t i o e = ap (with_prices t t.floor t.prices) (sym (ap (set t.blossoms i) e ∙ set-get_or t.blossoms i None))

pub unmoved : (t : Tables) (i l : ℕ) → l ≡ 0 → t ≡ place_moved t i (moved_blossom l (blossom_of (place t i)).price)
unmoved t i l e =
    put_back t i (moved_place 0 (place t i)) (same_price (place t i))
    ∙ ap (λ k. place_moved t i (moved_blossom k (blossom_of (place t i)).price)) (sym e)

-- read as a state, the tables after the step are the adjusted state
module _ (t : Tables) (ls common : List ℕ) (full : length t.blossoms ≡ 100) (roots : RootLabels (state t) ls common) (idle : (i : ℕ) → i < 100 → place t i ≡ None → root_label (state t) ls (200 + i) ≡ 0) where
  place_repriced : (l : ℕ) (o : Option Blossom) → (o ≡ None → l ≡ 0) → blossom_of (moved_place l o) ≡ repriced l (blossom_of o)
  place_repriced l None e = ap (λ k. repriced k no_blossom) (sym (e refl))
  place_repriced l (Some b) e = refl

  each_repriced : (i : ℕ) → i < 100 → blossom_of (new_blossom t common i) ≡ repriced (root_label (state t) ls (200 + i)) (blossom_at (state t) i)
  each_repriced i l =
      ap (λ k. blossom_of (moved_place k (place t i))) (roots (200 + i) (omega arith))
      ∙ place_repriced (root_label (state t) ls (200 + i)) (place t i) (idle i l)
      ∙ ap (repriced (root_label (state t) ls (200 + i))) (sym (blossom_there t i))

  all_repriced : map blossom_of (moved_blossoms t common) ≡ map (λ i. repriced (root_label (state t) ls (200 + i)) (blossom_at (state t) i)) (below 100)
  all_repriced = same_map (below 100) (all_below (λ i. blossom_of (new_blossom t common i) ≡ repriced (root_label (state t) ls (200 + i)) (blossom_at (state t) i)) 100 each_repriced)
    where
      same_map : (is : List ℕ) → All (λ i. blossom_of (new_blossom t common i) ≡ repriced (root_label (state t) ls (200 + i)) (blossom_at (state t) i)) is
          → map blossom_of (map (new_blossom t common) is) ≡ map (λ i. repriced (root_label (state t) ls (200 + i)) (blossom_at (state t) i)) is
      same_map [] h = refl
      same_map (i ∷ is) h = ap (λ b. b ∷ map blossom_of (map (new_blossom t common) is)) h.0 ∙ ap (λ l. repriced (root_label (state t) ls (200 + i)) (blossom_at (state t) i) ∷ l) (same_map is h.1)

  pub state_moved : state (all_moved t ls common) ≡ adjusted (state t) ls
  state_moved = ap (λ (bs : List Shape). record {
    members = t.members;
    rows = offered t;
    top = t.top;
    begun = t.begun;
    floor = t.floor - 1;
    prices = moved_prices t ls;
    mates = t.mates;
    roots = t.roots;
    blossoms = bs;
  }) all_repriced

-- the labels of the blossoms' places stand past those of the members
module _ (cs : List ℕ) (long : length cs ≡ 300) where
  pub part_long : length (take 100 (drop 200 cs)) ≡ 100
  part_long = length-take-le 100 (drop 200 cs) (omega (arith, length-drop 200 cs, long))

  pub part_at : (i : ℕ) → i < 100 → get_or (take 100 (drop 200 cs)) i 0 ≡ get_or cs (200 + i) 0
  part_at i l = get_or-take 100 (drop 200 cs) i 0 l ∙ get_or-drop 200 cs i 0
