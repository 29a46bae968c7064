-- `kinarsop_inverse` meets its contract: an answer is read as `calls::inverse` gave it. Assumes nothing.
use Rattle.kinarsop.proofs.AsGiven.{inverse_told}
use Rattle.kinarsop.proofs.kinarsop_inverse.Goals as goal

pub returns-clause-inverse_call : goal.returns-clause-inverse_call
returns-clause-inverse_call c =
    let t = c.told-inverse.result in
    rw c.unwrap_or.ensures (inverse_told _ _ t.0 t.1 (rw c.told-inverse.ensures.read c.inverse.ensures))
