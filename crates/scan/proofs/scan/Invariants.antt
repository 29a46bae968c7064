-- `scan::scan` meets its contract. Invariant: the bytes up to `at` lead to the good state `state` (`Scans`).
-- Assumes nothing.
use Rattle.scan.specs.Machine.{Scans}
use Rattle.scan.proofs.scan.Given as goal

abbrev pub invariant-loop-at : goal.invariant-loop-at
invariant-loop-at l = Scans l.s l.at l.state
