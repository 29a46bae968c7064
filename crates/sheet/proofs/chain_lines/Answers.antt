-- `sheet::chain_lines` meets its contract: the stages' lines, then the product's. Assumes nothing.
use Rattle.std.proofs.Common.{[], ◌∷◌}
use Rattle.meaning.specs.Line.{text}
use Rattle.sheet.specs.Lines.{stage_lines_in, product_line}
use Rattle.sheet.proofs.Laws.{toward_start, toward_end, line_turn, line_room, lines_turn, lines_room}
use Rattle.sheet.proofs.chain_lines.Goals as goal

pub stage_lines-requires : goal.stage_lines-requires
stage_lines-requires c =
    let x = c.args in
    record {
      stages_in = c.requires.stages_in;
      has_room = lines_room (stage_lines_in x.count x.stages.now) (product_line x.n x.product.now ∷ []) c.requires.has_room (toward_start _ _);
    }

pub line-requires : goal.line-requires
line-requires c =
    let x = c.args in
    let last = product_line x.n x.product.now in
    line_room last [] c.requires.has_room (lines_turn (stage_lines_in x.count x.stages.now) (last ∷ []) (toward_start _ _) c.stage_lines.ensures)

pub returns : goal.returns
unfolding text
returns c =
    let x = c.args in
    let last = product_line x.n x.product.now in
    toward_end (line_turn last [] (lines_turn (stage_lines_in x.count x.stages.now) (last ∷ []) (toward_start _ _) c.stage_lines.ensures) c.line.ensures)
