-- `escaped::decode` keeps within its room. Invariant: the count is within the room, whose length stays. Measure: what is left of the line.
-- Assumes nothing.
use Rattle.std.proofs.Common.{◌≡◌, ◌≤◌, length}
use Rattle.trial_designs.proofs.escaped.decode.Given as goal

abbrev pub invariant-loop-byte : goal.invariant-loop-byte
invariant-loop-byte l = (length l.room ≡ length l.initial.room) × (l.count ≤ length l.room)

abbrev pub decreases-loop-byte : goal.decreases-loop-byte
decreases-loop-byte l = length l.rest
