use Rattle.std.proofs.Common.{rules}
use Rattle.forms.proofs.Laws.{exact_by}
use Rattle.forms.proofs.form.read_form.Goals as goal

pub returns-in-Framing-clause-exactly : goal.returns-in-Framing-clause-exactly
returns-in-Framing-clause-exactly c = exact_by c.args.line.now _ (search rules)

pub returns-in-Coarsening-clause-exactly : goal.returns-in-Coarsening-clause-exactly
returns-in-Coarsening-clause-exactly c = exact_by c.args.line.now _ (search rules)

pub returns-in-Offering-clause-exactly : goal.returns-in-Offering-clause-exactly
returns-in-Offering-clause-exactly c = exact_by c.args.line.now _ (search rules)
