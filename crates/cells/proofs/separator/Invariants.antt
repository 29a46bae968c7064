-- `cells::separator` meets its contract. Invariant: the first separator of the text is that of what is left of it.
-- Assumes nothing.
use mathlib.Core.Path.{◌≡◌}
use lib.ListN.{drop}
use Rattle.meaning.specs.Design.{separator_in}
use Rattle.cells.proofs.separator.Given as goal

abbrev pub invariant-loop-b : goal.invariant-loop-b
invariant-loop-b l = separator_in (drop l.b-index l.text) ≡ separator_in l.text
