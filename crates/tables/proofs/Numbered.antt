-- What a node is, told from its number. Assumes nothing.
use Rattle.std.proofs.Common.{◌≡◌, ℕ, ◌-◌, ◌<◌, ◌≤◌, Bool, true, false, cond, ltb, sym, refl, ap, ◌∙◌}
use Rattle.std.proofs.lemmas.Bool.{ltb-true, ltb-false}
use Rattle.tables.specs.declared.node.Node.{Node}
use Rattle.tables.specs.declared.node.Node.TheVariants.{Member, Blossom}
use Rattle.tables.specs.Nodes.{node_of}

abbrev is_member : Node → Bool
is_member (Member v) = true
is_member (Blossom i) = false

abbrev own_number : Node → ℕ
own_number (Member v) = v
own_number (Blossom i) = i

told : (b : Bool) (n : ℕ) → is_member (cond b (Member n) (Blossom (n - 200))) ≡ b
told true n = refl
told false n = refl

pub member_is : (n v : ℕ) → node_of n ≡ Member v → (n < 200) × (v ≡ n)
member_is n v e =
    let low : ltb n 200 ≡ true = sym (told (ltb n 200) n) ∙ ap is_member e in
    (ltb-true n 200 low, sym (ap own_number e) ∙ ap (λ b. own_number (cond b (Member n) (Blossom (n - 200)))) low)

pub blossom_is : (n i : ℕ) → node_of n ≡ Blossom i → (200 ≤ n) × (i ≡ n - 200)
blossom_is n i e =
    let high : ltb n 200 ≡ false = sym (told (ltb n 200) n) ∙ ap is_member e in
    (ltb-false n 200 high, sym (ap own_number e) ∙ ap (λ b. own_number (cond b (Member n) (Blossom (n - 200)))) high)
