use Rattle.std.proofs.Common.{◌≡◌, ◌+◌, ◌++◌, get_or, Some, None, sym, ap, ◌∙◌, subst, arith}
use Rattle.report.specs.Drafts.{held, capped}
use Rattle.report.specs.Texts.{pair_told, pair_line}
use Rattle.report.proofs.Telling.{Telling, pair_here, pair_elsewhere, tell_more, tell_nothing, tell_all, tell_short}
use Rattle.report.proofs.draft.Draft.push_pairs.Goals as goal
use Rattle.report.proofs.draft.Draft.push_pairs.Goals.{in-Some+then-member-other, in_default, in_default-via-in-None-1, in_default-via-in-Some+else-member-other}

pub loop-member-preserved : goal.loop-member-preserved
loop-member-preserved c =
    let ms = c.args.partners.now in
    let was = held c.args.self.now in
    let i = c.loop-member.member in
    let m = get_or ms i None in
    let now = held c.loop-member.self in
    let inv = c.loop-member.invariant in
    elim c.match-partner.branch [
      | in-Some+then-member-other w ↦
          let v = w.from.result in
          let here : held c.match-partner.self ≡ capped (now ++ pair_line i v) = ap held w.self-is ∙ w.push_pair.ensures.text in
          tell_more pair_told 51 ms was i now inv (omega arith) (held c.match-partner.self) (pair_line i v)
          (pair_here i v m (w.in-Some.is ∙ ap Some (sym w.from.ensures)) (omega arith)) w.push_pair.ensures.short here
      | in_default w ↦
          subst (λ s. Telling pair_told 51 ms (i + 1) was (held s)) (sym w.self-is)
          (tell_nothing pair_told 51 ms was i now inv (omega arith) (elim w.in_default.branch [
            | in_default-via-in-None-1 w' ↦ grind arith
            | in_default-via-in-Some+else-member-other w' ↦ pair_elsewhere i w'.in-Some.other m w'.in-Some.is (omega arith)
          ]))
    ]

pub returns : goal.returns
returns c =
    let ms = c.args.partners.now in
    let was = held c.args.self.now in
    let i = c.loop-member.member in
    let s = c.loop-member.self in
    record {
      text = tell_all pair_told 51 ms was i s c.loop-member.invariant (omega arith);
      short = tell_short pair_told 51 ms was i (held s) c.loop-member.invariant (omega arith);
    }
