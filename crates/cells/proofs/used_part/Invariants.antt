-- `cells::used_part` meets its contract. Invariant: what is left comes to the same without its separators. Measure: its length. Assumes nothing.
use mathlib.Core.Path.{◌≡◌}
use lib.ListN.{length}
use Rattle.cells.proofs.Laws.{trimmed}
use Rattle.cells.proofs.used_part.Given as goal

abbrev pub invariant-loop-last : goal.invariant-loop-last
invariant-loop-last l = trimmed l.s l.used ≡ trimmed l.s l.initial.used

abbrev pub decreases-loop-last : goal.decreases-loop-last
decreases-loop-last l = length l.used
