-- Labels by their numbers. Assumes nothing.
use Rattle.std.specs.Prelude.{ℕ, Ok, Err, Result, if◌then◌else◌, ◌==◌}
use Rattle.steps.specs.declared.label.Label.{Label}
use Rattle.steps.specs.declared.label.Label.TheVariants.{Still, Out, In}
use Rattle.steps.specs.declared.label.NoLabel.{NoLabel}

abbrev pub label_named : ℕ → Result Label NoLabel
label_named n = if n == 0 then Ok Still else (if n == 1 then Ok Out else (if n == 2 then Ok In else Err (record { number = n })))
