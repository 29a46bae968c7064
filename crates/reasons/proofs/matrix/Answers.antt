-- `reasons::matrix` meets its contract. Assumes nothing.
use mathlib.Core.Path.{sym}
use Prim.Native.Nat.{◌≤◌, ◌*◌}
use native.Mathlib.Nat.{mul-le-mul}
use native.Mathlib.Omega.{arith}
use Rattle.meaning.proofs.Refusal.{no_matrix_false, matrix_no_matrix, refuse_here, refuse_none}
use Rattle.meaning.specs.Bounds.{widest}
use Rattle.reasons.proofs.Laws.{applies}
use Rattle.reasons.proofs.matrix.Goals as goal

pub overflow_mul-n : goal.overflow_mul-n
overflow_mul-n c =
    let n = c.args.n in
    let h : n ≤ widest = omega arith in
    let k : n * n ≤ widest * widest = mul-le-mul h h in
    omega arith

pub returns-then-m-n : goal.returns-then-m-n
returns-then-m-n c = sym (refuse_here (applies _ (λ q. c.if-m-n.true (no_matrix_false _ _ q))))

pub returns : goal.returns
returns c = sym (refuse_none 3 (matrix_no_matrix _ _ c.if-m-n.false))
