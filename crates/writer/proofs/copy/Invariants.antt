-- `writer::copy` meets its contract. Invariant: the first i bytes are those of s. Assumes nothing.
use Rattle.std.proofs.Common.{◌≡◌, length, take}
use Rattle.writer.proofs.copy.Given as goal

abbrev pub invariant-loop-i : goal.invariant-loop-i
invariant-loop-i l = (length l.to ≡ length l.s) × (take l.i l.to ≡ take l.i l.s)
