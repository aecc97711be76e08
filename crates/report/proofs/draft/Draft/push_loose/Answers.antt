use Rattle.std.proofs.Common.{◌≡◌, ◌+◌, ◌++◌, get_or, None, sym, subst, arith}
use Rattle.report.specs.Drafts.{held, capped}
use Rattle.report.specs.Texts.{loose_told, loose_line}
use Rattle.report.proofs.Telling.{Telling, loose_here, loose_not, tell_more, tell_nothing, tell_all, tell_short}
use Rattle.report.proofs.draft.Draft.push_loose.Goals as goal
use Rattle.report.proofs.draft.Draft.push_loose.Goals.{then-is_none, else-is_none}

pub loop-member-preserved : goal.loop-member-preserved
loop-member-preserved c =
    let ms = c.args.partners.now in
    let was = held c.args.self.now in
    let i = c.loop-member.member in
    let now = held c.loop-member.self in
    let inv = c.loop-member.invariant in
    elim c.if-is_none.branch [
      | then-is_none w ↦
          let here : held c.if-is_none.self ≡ capped (now ++ loose_line i) = cc (w.self-is, w.push_form.ensures.text) in
          tell_more loose_told 29 ms was i now inv (omega arith) (held c.if-is_none.self) (loose_line i)
          (loose_here i (get_or ms i None) w.if-is_none.ensures) w.push_form.ensures.short here
      | else-is_none w ↦
          subst (λ s. Telling loose_told 29 ms (i + 1) was (held s)) (sym w.self-is)
          (tell_nothing loose_told 29 ms was i now inv (omega arith) (loose_not i (get_or ms i None) w.if-is_none.ensures))
    ]

pub returns : goal.returns
returns c =
    let ms = c.args.partners.now in
    let was = held c.args.self.now in
    let i = c.loop-member.member in
    let s = c.loop-member.self in
    record {
      text = tell_all loose_told 29 ms was i s c.loop-member.invariant (omega arith);
      short = tell_short loose_told 29 ms was i (held s) c.loop-member.invariant (omega arith);
    }
