use Rattle.std.proofs.Common.{codes, sym, ap, arith, rules}
use Rattle.std.proofs.lemmas.Slice.Eq.{text_from_reads}
use Rattle.forms.specs.Forms.{keyword_of}
use Rattle.forms.proofs.form.keyword_of.Goals as goal

pub returns-in-coarse : goal.returns-in-coarse
returns-in-coarse c = sym (ap keyword_of (text_from_reads c.args.word.now (codes "coarse") (omega arith) (search rules)))
