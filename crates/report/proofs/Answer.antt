-- The whole text of an answer, from its parts. Assumes nothing.
use Rattle.std.proofs.Common.{◌≡◌, ℕ, ◌*◌, ◌≤◌, List, [], ◌∷◌, ◌++◌, length, codes, ap, ◌∙◌, append_assoc, arith}
use Rattle.std.proofs.lemmas.List.{length-append, length-take}
use Rattle.plan.specs.declared.plan.Plan.{Plan}
use Rattle.plan.specs.Plans.{partners_of}
use Rattle.report.specs.Texts.{form, pair_told, loose_told, told_from, plan_text}

module _ (p : Plan) (floor : ℕ) where
  abbrev pub head_part : List ℕ
  head_part = form (codes "plan") (p.shown ∷ p.ground ∷ p.slack ∷ floor ∷ p.loose ∷ [])

  abbrev pub pairs_part : List ℕ
  pairs_part = told_from pair_told 0 (partners_of p)

  abbrev pub loose_part : List ℕ
  loose_part = told_from loose_told 0 (partners_of p)

  pub parts_whole : floor ≡ p.floor → (head_part ++ pairs_part) ++ loose_part ≡ plan_text p
  parts_whole ef =
      append_assoc head_part pairs_part loose_part
      ∙ ap (λ f. form (codes "plan") (p.shown ∷ p.ground ∷ p.slack ∷ f ∷ p.loose ∷ []) ++ (pairs_part ++ loose_part)) ef

  pub parts_short : length head_part ≤ 112 → length pairs_part ≤ 51 * length (partners_of p) → length loose_part ≤ 29 * length (partners_of p) → length ((head_part ++ pairs_part) ++ loose_part) ≤ 16384
  parts_short head pairs loose =
      let few : length (partners_of p) ≤ 200 = simp length-take (omega (arith, p.few)) in
      omega (arith, few, head, pairs, loose, length-append (head_part ++ pairs_part) loose_part, length-append head_part pairs_part)
