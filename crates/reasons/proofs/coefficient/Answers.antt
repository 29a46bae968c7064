-- `reasons::coefficient` meets its contract: the cell is that of the place. Assumes nothing.
use mathlib.Core.Path.{sym, ap}
use Rattle.std.specs.Prelude.{option_map}
use native.Mathlib.Omega.{arith}
use Rattle.meaning.specs.Refusal.{at, refuse_at, bad_coefficient}
use Rattle.meaning.proofs.Entry.{first_bad_place}
use Rattle.reasons.proofs.Laws.{nowhere, coefficient_placed}
use Rattle.reasons.proofs.coefficient.Goals as goal

pub overflow_add-result : goal.overflow_add-result
overflow_add-result c =
    let x = c.args in
    omega (arith, (first_bad_place x.p x.f.now c.in-Some.i (sym c.in-Some.ensures)).within)

pub returns-in-Some : goal.returns-in-Some
returns-in-Some c = coefficient_placed _ _ (sym c.in-Some.ensures)

pub returns-in-None : goal.returns-in-None
unfolding refuse_at bad_coefficient
returns-in-None c = ap (option_map (λ k. at 11 k.row k.column)) (nowhere 0 _ _ _ (sym c.in-None.ensures))
