-- What 01 and 02 call the reasons of the code.
--   as_refusal r     the number of a reason, and the row and the column where an entry is bad
--   numbers_of q     a refusal as three numbers: row and column are 0 where its number stands alone
--   cell_of c        the cell of an entry
--   checked_of x     what a test, or a list of tests, gives
--   answer_of x      what a call answers
-- Assumes nothing.
use Rattle.std.specs.Prelude.{Option, None, Some, Result, Ok, Err}
use Rattle.meaning.specs.Calls.{Answer, refused, given}
use Rattle.meaning.specs.Entry.{Cell}
use Rattle.meaning.specs.Refusal.{Refusal, alone, at}
use Rattle.reasons.specs.declared.Cell.{Cell as CodeCell}
use Rattle.reasons.specs.declared.Reason.{Reason}
use Rattle.reasons.specs.declared.Reason.TheVariants as reason
use Rattle.reasons.specs.declared.Numbers.{Numbers}

abbrev pub as_refusal : Reason → Refusal
as_refusal reason.NoPrime = alone 1
as_refusal reason.NoSize = alone 2
as_refusal reason.NoMatrix = alone 3
as_refusal reason.NoRows = alone 4
as_refusal reason.NoPolynomial = alone 7
as_refusal (reason.MatrixEntry c) = at 5 c.row c.column
as_refusal (reason.RowEntry c) = at 10 c.row c.column
as_refusal (reason.Coefficient place) = at 11 0 place
as_refusal reason.NoAllowance = alone 9
as_refusal reason.NoRoom = alone 6

abbrev pub numbers_of : Refusal → Numbers
numbers_of (alone k) = record { number = k; row = 0; column = 0 }
numbers_of (at k r c) = record { number = k; row = r; column = c }

abbrev pub cell_of : CodeCell → Cell
cell_of c = record { row = c.row; column = c.column }

abbrev pub checked_of : Result (Unit {0}) Reason → Option Refusal
checked_of (Ok _) = None
checked_of (Err r) = Some (as_refusal r)

abbrev pub answer_of : {A : Type 0} → Result A Reason → Answer A
answer_of (Ok x) = given x
answer_of (Err r) = refused (as_refusal r)
