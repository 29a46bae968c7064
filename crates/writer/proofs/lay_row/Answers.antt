-- `writer::lay_row` meets its contract: the entries are laid down behind the mark and the letter. Assumes nothing.
use native.Mathlib.Omega.{arith}
use Rattle.writer.proofs.Laws.{laid_turn}
use Rattle.writer.proofs.lay_row.Goals as goal

pub returns : goal.returns
returns c = laid_turn (omega arith) c.lay-behind.ensures c.lay.ensures
