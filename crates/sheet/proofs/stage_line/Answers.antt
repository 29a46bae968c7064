-- `sheet::stage_line` meets its contract: the word, the coefficients, the leading 1, the newline. Assumes nothing.
use Rattle.std.proofs.Common.{refl}
use Rattle.meaning.proofs.Line.{spaced-next}
use Rattle.sheet.proofs.Laws.{toward_start, toward_turn, toward_last, toward_room, last_room}
use Rattle.sheet.proofs.stage_line.Goals as goal

pub numbers-requires : goal.numbers-requires
numbers-requires c = toward_room _ c.requires (toward_turn _ (toward_start _ _) refl c.word.ensures) _ (spaced-next c.args.s.now _ _)

pub spaced_number-requires : goal.spaced_number-requires
spaced_number-requires c =
    let named = toward_turn _ (toward_start _ _) refl c.word.ensures in
    toward_room _ c.requires (toward_turn _ named (spaced-next c.args.s.now _ _) c.numbers.ensures) _ refl

pub byte-requires : goal.byte-requires
byte-requires c =
    let named = toward_turn _ (toward_start _ _) refl c.word.ensures in
    last_room c.requires (toward_turn _ (toward_turn _ named (spaced-next c.args.s.now _ _) c.numbers.ensures) refl c.spaced_number.ensures)

pub returns : goal.returns
returns c =
    let named = toward_turn _ (toward_start _ _) refl c.word.ensures in
    toward_last (toward_turn _ (toward_turn _ named (spaced-next c.args.s.now _ _) c.numbers.ensures) refl c.spaced_number.ensures) c.byte.ensures
