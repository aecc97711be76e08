-- A text in the making: what it holds so far, and what is kept of it at the full size. Assumes nothing.
use Rattle.std.specs.Prelude.{ℕ, List, take}
use Rattle.report.specs.declared.draft.Draft.{Draft}

-- what fits of a text
unfoldable pub capped : List ℕ → List ℕ
capped bs = take 16384 bs

-- no more than fits: the room for the text has that size
abbrev pub held : Draft → List ℕ
held s = capped s.text.items
