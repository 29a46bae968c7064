-- `Text::number` meets its contract: a number below 10 is its last digit; any other is its tenth, laid down first, and its last digit. Assumes nothing.
use Rattle.std.proofs.Common.{arith}
use Rattle.std.proofs.lemmas.Grind.{common_steps}
use Rattle.text.proofs.Laws.{decimal_low, decimal_high}
use Rattle.text.proofs.Text.+number.Goals as goal
use Rattle.text.proofs.Text.+number.Goals.{then-x-ge10, else-x-ge10}

pub number-requires : goal.number-requires
number-requires t c = (omega arith, let e = decimal_high c.args.x c.if-x-ge10.true in grind (arith, common_steps))

pub byte-requires : goal.byte-requires
byte-requires t c = elim c.if-x-ge10.branch [
  | then-x-ge10 w ↦ let e = decimal_high c.args.x w.if-x-ge10.true in grind (arith, common_steps)
  | else-x-ge10 w ↦ let e = decimal_low c.args.x w.if-x-ge10.false in grind (arith, common_steps)
]

pub returns : goal.returns
returns t c = elim c.if-x-ge10.branch [
  | then-x-ge10 w ↦ let e = decimal_high c.args.x w.if-x-ge10.true in grind (arith, common_steps)
  | else-x-ge10 w ↦ let e = decimal_low c.args.x w.if-x-ge10.false in grind (arith, common_steps)
]
