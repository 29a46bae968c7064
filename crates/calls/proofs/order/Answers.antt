-- `calls::order` meets its contract: where the refusal is none, the inputs are sound; spun over no rows, the row's relative order is its order,
-- and its first n + 1 coefficients are put to the front of the buffer. Assumes nothing.
use mathlib.Core.Path.{sym}
use native.Mathlib.Omega.{arith}
use Rattle.meaning.proofs.Called.{given_by}
use Rattle.spin.proofs.Laws.{before_empty, spinned_order}
use Rattle.calls.proofs.Laws.{order_told, order_written}
use Rattle.calls.proofs.order.Goals as goal

pub spin-f-requires-clause-before : goal.spin-f-requires-clause-before
spin-f-requires-clause-before c =
    let x = c.args in
    let S = order_told _ _ _ _ _ c.in_ok-of_order.ensures in
    before_empty x.p x.n x.m.now _ (omega arith)

pub returns : goal.returns
returns c =
    let S = c.spin-f.ensures in
    given_by (sym c.in_ok-of_order.ensures) (order_written (spinned_order S) S.good (order_told _ _ _ _ _ c.in_ok-of_order.ensures).0.size c.put.ensures)
