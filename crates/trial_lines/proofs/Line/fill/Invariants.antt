-- `trial_lines::Line::fill` keeps within its buffer. Invariant: the count is within the buffer, whose length stays. Measure: what is left of the group.
-- Assumes nothing.
use Rattle.std.proofs.Common.{◌≡◌, ◌≤◌, length}
use Rattle.trial_lines.proofs.Line.fill.Given as goal

abbrev pub invariant-loop-run : goal.invariant-loop-run
invariant-loop-run l = (length l.room ≡ length l.initial.room) × (l.count ≤ length l.room)

abbrev pub decreases-loop-run : goal.decreases-loop-run
decreases-loop-run l = length l.rest
