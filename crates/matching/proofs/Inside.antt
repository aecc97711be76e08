-- The pairs inside a blossom. Assumes nothing.
use Rattle.std.proofs.Common.{not, ◌&&◌, arith}
use Rattle.std.proofs.lemmas.Bool.{and_from, and_parts, not-true, not_from_false}
use Rattle.matching.specs.Mates.{mate}
use Rattle.matching.specs.State.{blossom_at, inside}
use Rattle.matching.specs.Kept.{met}
use Rattle.matching.specs.Theorems.{OneBare, OwnInside, MostInside}
use Rattle.matching.proofs.Counts.{only_one}
use Rattle.matching.proofs.Nodes.{size_inside}
use Rattle.matching.proofs.Duality.{pair_spans, own_spans}

pub one_bare : OneBare
one_bare s i kept u =
    let b = blossom_at s i in
    let r = only_one (λ v. inside b v && not (met s b (mate s.mates v))) s.members (kept.one_bare i u) in
    let parts = and_parts (inside b r.0) (not (met s b (mate s.mates r.0))) r.2 in
    record {
      member = r.0;
      held = parts.0;
      unmet = not-true (met s b (mate s.mates r.0)) parts.1;
      only = λ v h f. r.3 v ((kept.nested.rings i u).members v h) (and_from (inside b v) (not (met s b (mate s.mates v))) h (not_from_false (met s b (mate s.mates v)) f));
    }

pub own_inside : OwnInside
own_inside s i kept u = omega (arith, own_spans s kept (blossom_at s i) (kept.one_bare i u), size_inside s i)

pub most_inside : MostInside
most_inside s i es kept p = omega (arith, pair_spans s kept.rows es p (blossom_at s i), size_inside s i)
