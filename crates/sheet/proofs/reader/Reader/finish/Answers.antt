use Rattle.std.proofs.lemmas.Result.{err_from_is_err_and}
use Rattle.sheet.specs.Readers.{slots_in}
use Rattle.sheet.proofs.Finishing.{list_refused}
use Rattle.sheet.proofs.reader.Reader.finish.Goals as goal

pub returns-in_err-check : goal.returns-in_err-check
returns-in_err-check c =
    let told = err_from_is_err_and c.from_residual.result c.from_residual.ensures.1 in
    let reader = c.args.self.now in
    rw (told.1, told.2) (list_refused reader.line reader.state c.in-Body.sheet (slots_in reader) _ c.in-Body.is c.in_err-check.ensures)
