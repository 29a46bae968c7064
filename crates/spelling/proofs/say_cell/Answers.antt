-- `spelling::say_cell` meets its contract, test by test. Assumes nothing.
use mathlib.Core.Path.{sym}
use native.Mathlib.Omega.{arith}
use Rattle.spelling.proofs.Saying.{cell_allowance, cell_entry, cell_large, cell_none}
use Rattle.spelling.proofs.say_cell.Goals as goal
use Rattle.spelling.proofs.say_cell.Goals.{in_default-via-in-Some-2+else-v-from, in_default-via-in_default}

pub returns-in-Some : goal.returns-in-Some
returns-in-Some c = cell_allowance _ _ _ _ _ _ c.if-letter-eq65.true (sym c.in-Some.ensures.value) c.say-high.ensures c.say.ensures

pub returns-in-Some-2 : goal.returns-in-Some-2
returns-in-Some-2 c = cell_entry _ _ _ _ _ c.if-letter-eq65.false (sym c.in-Some.ensures.value) (omega arith) c.say-in-Some-2.ensures

pub returns-in_default : goal.returns-in_default
returns-in_default c =
    elim c.in_default.branch [
      | in_default-via-in-Some-2+else-v-from w ↦ cell_large _ _ _ _ _ w.if-letter-eq65.false (sym w.in-Some-2.ensures.value) (omega arith) c.say-in_default.ensures
      | in_default-via-in_default w ↦ cell_none _ _ _ _ (sym w.in_default.ensures.value) c.say-in_default.ensures
    ]
