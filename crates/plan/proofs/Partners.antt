-- `==` on plans decides whether they are the same. Assumes nothing.
use Rattle.std.proofs.Common.{◌≡◌, ℕ, Some, None, Decides, Option, nat_eq, refl, ap, true≢false, sym}
use Rattle.std.specs.Option.{option_eq}
use Rattle.std.specs.Cmp.Lexicographic.{pointwise}
use Rattle.std.proofs.lemmas.Slice.Eq.{slice_eq-Decides}
use Rattle.std.proofs.lemmas.Bool.Decides.{Decides-eqb, Decides-and}
use Rattle.plan.specs.Plans.{partners_of, SameIsTested}

alike_decide : (o p : Option ℕ) → Decides (option_eq nat_eq o p) (o ≡ p)
alike_decide None None = (λ _. refl, λ _. refl)
alike_decide None (Some y) = (λ t. absurd (true≢false (sym t)), λ e. cc)
alike_decide (Some x) None = (λ t. absurd (true≢false (sym t)), λ e. cc)
alike_decide (Some x) (Some y) = let d = Decides-eqb x y in (λ t. ap Some (d.0 t), λ e. d.1 (cc))

pub same_decides : SameIsTested
same_decides p q =
    let agree = pointwise (option_eq nat_eq) (partners_of p) (partners_of q) in
    Decides-and (nat_eq p.members q.members) agree (Decides-eqb p.members q.members) (slice_eq-Decides alike_decide (partners_of p) (partners_of q) agree refl)
