-- `design::make` meets its contract: the writer is given the values of the design. Assumes nothing.
use Rattle.std.proofs.Common.{refl}
use Rattle.std.proofs.lemmas.Result.{err_from_is_err_and}
use Rattle.design.proofs.Making.{drawn_values, values_write, drawn_wrong}
use Rattle.design.proofs.make.Goals as goal

pub returns-in_err-case : goal.returns-in_err-case
returns-in_err-case c =
    let p = err_from_is_err_and c.from_residual.result c.from_residual.ensures.1 in
    rw (p.1, p.2) (drawn_wrong c.read-design.ensures c.in_err-case.was refl)

pub returns : goal.returns
returns c = values_write (drawn_values c.read-design.ensures c.in_ok-case.was) c.write.ensures
