-- `sheet::proved_lines` meets its contract: one line after another. Assumes nothing.
use Rattle.std.proofs.Common.{[], ◌∷◌}
use Rattle.meaning.specs.Line.{spaced, line_bytes, text}
use Rattle.sheet.specs.Lines.{counts_line, factor_line, unwitnessed_line}
use Rattle.sheet.proofs.Laws.{toward_start, toward_last, line_turn}
use Rattle.sheet.proofs.proved_lines.Goals as goal

pub returns : goal.returns
unfolding text line_bytes spaced
returns c =
    let x = c.args in
    let last = factor_line "MINPOLY" x.c x.poly.now in
    let counted = line_turn (counts_line "STAND proved" x.c) (last ∷ unwitnessed_line ∷ []) (toward_start _ _) c.line.ensures in
    toward_last (line_turn last (unwitnessed_line ∷ []) counted c.line-2.ensures) c.word.ensures
