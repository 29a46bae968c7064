-- Invariant: the reader is one of s, its steps so far handed out records, and the numbers and both arrays hold what they come to (`Underway`).
-- Measure: what is left of the bytes behind the reader's place.
-- Assumes nothing.
use mathlib.Core.Path.{◌≡◌}
use Prim.Native.Nat.{◌-◌}
use lib.ListN.{length}
use Rattle.casefile.proofs.Underway.{Underway}
use Rattle.casefile.proofs.read.Given as goal

abbrev pub invariant-loop-step : goal.invariant-loop-step
invariant-loop-step l = (l.reader.src.now ≡ l.s) × Underway l.s l.matrix l.candidates l.known l.reader.at

abbrev pub decreases-loop-step : goal.decreases-loop-step
decreases-loop-step l = length l.s - l.reader.at
