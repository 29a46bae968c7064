-- `reasons::candidates` meets its contract. Assumes nothing.
use mathlib.Core.Path.{◌≡◌, sym}
use Prim.Native.Nat.{◌/◌, ◌%◌, ◌≤◌}
use native.Mathlib.Omega.{arith}
use lib.ListN.{length}
use Rattle.meaning.proofs.Refusal.{no_rows_false, rows_no_rows, rows_over, rows_whole, refuse_here, refuse_none}
use Rattle.meaning.specs.Bounds.{most_candidates}
use Rattle.reasons.proofs.Laws.{applies}
use Rattle.reasons.proofs.candidates.Goals as goal

pub returns-then-cs-n-ne0 : goal.returns-then-cs-n-ne0
returns-then-cs-n-ne0 c =
    let x = c.args in
    sym (refuse_here (applies _ (λ q. omega (arith, rows_over x.n x.cs.now (omega arith) q, no_rows_false _ _ (omega arith) q))))

pub returns : goal.returns
returns c =
    let x = c.args in
    let over : length x.cs.now % x.n ≡ 0 = omega arith in
    let few : length x.cs.now / x.n ≤ most_candidates = omega arith in
    sym (refuse_none 4 (rows_no_rows x.n x.cs.now (omega arith) _ (rows_whole x.n x.cs.now over) few))
