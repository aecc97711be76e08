-- The faults of an adjust, one after the other. Assumes nothing.
use Rattle.std.proofs.Common.{◌≡◌, ℕ, not, eqb, List, length, is_some, Some, None, Option, ap, ◌∙◌}
use Rattle.std.specs.Option.{option_map}
use Rattle.std.proofs.lemmas.Bool.{eq-eqb, ne_eqb, eqb-true}
use Rattle.faults.specs.Checks.{or_else, unless}
use Rattle.faults.specs.declared.layers.BoardFault.{BoardFault}
use Rattle.faults.specs.declared.layers.BoardFault.TheVariants.{NotBegun, BadLabels, FloorZero}
use Rattle.matching.specs.State.{State}
use Rattle.steps.specs.Searches.{first_below, some_below}
use Rattle.steps.proofs.Searches.{or_else_none, unless_none}
use Rattle.steps.specs.Adjust.{offends, label_fault, zero_fault, bound_fault, adjust_fault}

-- the labels that nothing stands against are as many as the members
pub labels_counted : (s : State) (ls : List ℕ) → label_fault s ls ≡ None → length ls ≡ s.members
labels_counted s ls h = eqb-true (length ls) s.members (unless_none (eqb (length ls) s.members) (BadLabels (length ls)) (or_else_none (unless (eqb (length ls) s.members) (BadLabels (length ls))) (option_map BadLabels (first_below (λ v. some_below (offends s ls v) s.members) s.members)) h).0)

module _ (s : State) (ls : List ℕ) where
  abbrev after_zero : Option BoardFault
  after_zero = or_else (zero_fault s ls) (bound_fault s ls)

  abbrev after_floor : Option BoardFault
  after_floor = or_else (unless (not (eqb s.floor 0)) FloorZero) after_zero

  module _ (k : ℕ) (begun : s.begun ≡ Some k) where
    first : adjust_fault s ls ≡ or_else (label_fault s ls) after_floor
    first = ap (λ (b : Option ℕ). or_else (unless (is_some b) NotBegun) (or_else (label_fault s ls) after_floor)) begun

    pub mislabelled : (f : BoardFault) → label_fault s ls ≡ Some f → adjust_fault s ls ≡ Some f
    mislabelled f h = first ∙ ap (λ o. or_else o after_floor) h

    module _ (labelled : label_fault s ls ≡ None) where
      second : adjust_fault s ls ≡ after_floor
      second = first ∙ ap (λ o. or_else o after_floor) labelled

      pub at_zero : s.floor ≡ 0 → adjust_fault s ls ≡ Some FloorZero
      at_zero e = second ∙ ap (λ b. or_else (unless (not b) FloorZero) after_zero) (eq-eqb s.floor 0 e)

      module _ (above : s.floor ≡ 0 → ⊥) where
        third : adjust_fault s ls ≡ after_zero
        third = second ∙ ap (λ b. or_else (unless (not b) FloorZero) after_zero) (ne_eqb s.floor 0 above)

        pub unpriced : (f : BoardFault) → zero_fault s ls ≡ Some f → adjust_fault s ls ≡ Some f
        unpriced f h = third ∙ ap (λ o. or_else o (bound_fault s ls)) h

        pub bounded : (o : Option BoardFault) → zero_fault s ls ≡ None → bound_fault s ls ≡ o → adjust_fault s ls ≡ o
        bounded o h b = third ∙ ap (λ z. or_else z (bound_fault s ls)) h ∙ b
