-- A step of a loop whose result a recursion with a test defines: x is what is left, and the whole is what it began with. Assumes nothing.
use Rattle.std.proofs.Common.{◌≡◌, Bool, true, false, cond, sym, ap, ◌∙◌}

module _ {A : Type 0} (x whole y z : A) (b : Bool) (inv : x ≡ whole) (step : x ≡ cond b y z) where
  pub taken : b ≡ true → y ≡ whole
  taken h = sym (sym inv ∙ step ∙ ap (λ t. cond t y z) h)

  pub left : b ≡ false → z ≡ whole
  left h = sym (sym inv ∙ step ∙ ap (λ t. cond t y z) h)
