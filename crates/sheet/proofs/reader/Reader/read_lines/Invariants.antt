use Rattle.std.specs.Slice.Iter.{split_inclusive_rest}
use Rattle.sheet.specs.Readers.{outcome_at}
use Rattle.sheet.proofs.Reading.{Sofar}
use Rattle.sheet.proofs.reader.Reader.read_lines.Given as goal

abbrev pub invariant-loop-line : goal.invariant-loop-line
invariant-loop-line l = Sofar l.initial.self (outcome_at l.initial.self l.text) (split_inclusive_rest l.line-iterator) l.self
