-- `writer::lay_rows` meets its contract. Invariant: the records of the rows so far are laid down, `behind` is the place behind them, and the iterator has
-- the rows behind them. Assumes nothing.
use Rattle.std.proofs.Common.{◌≡◌, ◌*◌, length, take, drop}
use Rattle.meaning.specs.Bytes.{byte_rows}
use Rattle.writer.specs.Laying.{LaidAt, marked}
use Rattle.writer.proofs.lay_rows.Given as goal

abbrev pub invariant-loop-row : goal.invariant-loop-row
invariant-loop-row l =
    (l.row-iterator.size ≡ l.n) × (l.row-iterator.rest.now ≡ drop (length l.yielded * l.n) l.s)
    × LaidAt l.initial.out l.at (marked l.letter (take (length l.yielded) (byte_rows l.n l.s))) l.behind l.out
