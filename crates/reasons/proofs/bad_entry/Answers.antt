-- `reasons::bad_entry` meets its contract: the cell is that of the place. Assumes nothing.
use mathlib.Core.Path.{sym}
use native.Mathlib.Nat.{div-le_self}
use native.Mathlib.Omega.{arith}
use Rattle.meaning.specs.Refusal.{bad_entry}
use Rattle.meaning.proofs.Entry.{first_bad_place}
use Rattle.reasons.proofs.Laws.{placed, nowhere}
use Rattle.reasons.proofs.bad_entry.Goals as goal

pub overflow_add-result : goal.overflow_add-result
overflow_add-result c =
    let x = c.args in
    let i = c.in_ok-i.i in
    omega (arith, (first_bad_place x.p x.s.now i (sym c.in_ok-i.ensures)).within, div-le_self i x.n)

pub returns : goal.returns
unfolding bad_entry
returns c = placed 1 _ _ _ (sym c.in_ok-i.ensures)

pub returns-in_err-i : goal.returns-in_err-i
unfolding bad_entry
returns-in_err-i c = rw c.from_residual.ensures (nowhere 1 _ _ _ (sym c.in_err-i.ensures))
