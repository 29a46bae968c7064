-- `spelling::spell` meets its contract. Invariant: what the lines that are left say comes to what the text says.
-- Assumes nothing.
use mathlib.Core.Path.{◌≡◌}
use Prim.Native.Nat.{◌+◌, ◌<◌}
use lib.ListN.{length, drop}
use Rattle.meaning.specs.Design.{without_mark, cut_at, text_said}
use Rattle.spelling.specs.Trace.{spot_of, steps, started}
use Rattle.spelling.proofs.Lines.{Reading}
use Rattle.spelling.proofs.spell.Given as goal

abbrev pub invariant-loop-l : goal.invariant-loop-l
invariant-loop-l l =
    (l.line ≡ length l.yielded + 1) × (l.here.spot.line < l.line)
    × Reading (l.here.trace, l.out) l.s (spot_of l.here.spot) l.line (drop (length l.yielded) (cut_at 10 (without_mark l.text))) (steps (started, l.initial.out) (text_said l.text))
