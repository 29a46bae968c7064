-- `cells::number` meets its contract. Invariant: the cell says what the digits that are left say behind the value.
-- Assumes nothing.
use mathlib.Core.Path.{◌≡◌}
use Prim.Native.Nat.{◌≤◌}
use lib.ListN.{drop}
use Rattle.meaning.specs.Bounds.{most_allowance}
use Rattle.meaning.specs.Design.{number_from, number_in}
use Rattle.cells.proofs.number.Given as goal

abbrev pub invariant-loop-b : goal.invariant-loop-b
invariant-loop-b l = (l.value ≤ most_allowance) × (number_from l.value (drop l.b-index l.cell) ≡ number_in l.cell)
