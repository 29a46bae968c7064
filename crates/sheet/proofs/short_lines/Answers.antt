-- `sheet::short_lines` meets its contract: one line after another. Assumes nothing.
use Rattle.std.proofs.Common.{[], ◌∷◌}
use Rattle.meaning.specs.Line.{text}
use Rattle.sheet.specs.Lines.{counts_line, factor_line, image_line}
use Rattle.sheet.proofs.Laws.{toward_start, toward_end, line_turn}
use Rattle.sheet.proofs.short_lines.Goals as goal

pub returns : goal.returns
unfolding text
returns c =
    let x = c.args in
    let next = factor_line "DIVISOR" x.c x.poly.now in
    let last = image_line x.n x.w x.image.now in
    let counted = line_turn (counts_line "STAND short" x.c) (next ∷ last ∷ []) (toward_start _ _) c.line.ensures in
    toward_end (line_turn last [] (line_turn next (last ∷ []) counted c.line-2.ensures) c.witness_line.ensures)
