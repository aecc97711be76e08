-- The top of a stack. Assumes nothing.
use Rattle.std.proofs.Common.{◌≡◌, ℕ, ◌+◌, ◌<◌, ◌≤◌, List, [], ◌∷◌, reverse, length, get_or, take, set, ap, ◌∙◌}
use Rattle.std.proofs.lemmas.List.{length-reverse, length-take-le, reverse-append, take_more, take_more_set}
use Rattle.stack.specs.Items.{items}

pub length_items : {A : Type 0} (xs : List A) (n : ℕ) → n ≤ length xs → length (items xs n) ≡ n
length_items xs n l = length-reverse (take n xs) ∙ length-take-le n xs l

-- one more item
pub items_push : {A : Type 0} (xs : List A) (i : ℕ) (y : A) → i < length xs → items (set xs i y) (i + 1) ≡ (y ∷ items xs i)
items_push xs i y l = ap reverse (take_more_set xs i y l) ∙ reverse-append (take i xs) (y ∷ [])

-- one item less
pub items_pop : {A : Type 0} (xs : List A) (n : ℕ) (d : A) → n < length xs → items xs (n + 1) ≡ (get_or xs n d ∷ items xs n)
items_pop xs n d l = ap reverse (take_more xs n d l) ∙ reverse-append (take n xs) (get_or xs n d ∷ [])
