-- `spelling::say_line` meets its contract. Invariant: what the cells that are left say comes to what all behind the word say.
-- Assumes nothing.
use lib.ListN.{length, drop}
use Rattle.meaning.specs.Design.{cut_at}
use Rattle.cells.specs.Cells.{used_part}
use Rattle.spelling.proofs.Pieces.{Going}
use Rattle.spelling.proofs.say_line.Given as goal

abbrev pub invariant-loop-w : goal.invariant-loop-w
invariant-loop-w l =
    let ws = drop 1 (cut_at l.fn.s (used_part l.fn.s l.fn.l)) in
    Going (l.initial.trace, l.initial.out) l.letter l.fn.line ws (l.trace, l.out) l.cell (drop (length l.yielded) ws)
