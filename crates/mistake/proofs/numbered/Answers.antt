-- `mistake::numbered` meets its contract: there is room for the number, which takes 21 bytes at most. Assumes nothing.
use Rattle.std.proofs.Common.{ℕ, length, ap, arith, length-append}
use Rattle.meaning.specs.Sheet.{sheet_room}
use Rattle.mistake.proofs.Laws.{spaced_one}
use Rattle.mistake.proofs.numbered.Goals as goal

pub word-requires : goal.word-requires
unfolding sheet_room
word-requires c = omega arith

pub spaced_number-requires : goal.spaced_number-requires
unfolding sheet_room
spaced_number-requires c = omega (arith, length-append {A = ℕ}, ap length c.word.ensures, spaced_one c.args.x (omega arith))

pub returns-clause-size : goal.returns-clause-size
returns-clause-size c =
    omega (arith, length-append {A = ℕ}, ap length c.word.ensures, ap length c.spaced_number.ensures, spaced_one c.args.x (omega arith))
