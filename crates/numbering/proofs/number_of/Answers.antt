use Rattle.std.proofs.Common.{◌≡◌, rules}
use Rattle.numbering.specs.Numbering.{number}
use Rattle.numbering.proofs.Members.{at_number, number_is}
use Rattle.numbering.proofs.number_of.Goals as goal

pub returns-then-v-lt-MOST_LENGTHS : goal.returns-then-v-lt-MOST_LENGTHS
returns-then-v-lt-MOST_LENGTHS c =
    let u = c.args.u in
    let v = c.args.v in
    let l = c.if-u-v.true in
    let number-told = number_is u v l c.if-v-lt-MOST_LENGTHS.true in
    record {
      value = search rules;
      back = λ n e few h same. let is : number u v ≡ e = search rules in at_number n u v e few l h is;
    }
