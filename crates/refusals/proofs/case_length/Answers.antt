-- `refusals::case_length` meets its contract: the sums and the product are small. Assumes nothing.
use mathlib.Core.Path.{refl}
use Prim.Native.Nat.{ℕ, ◌+◌, ◌*◌, ◌≤◌}
use native.Mathlib.Nat.{mul-le-mul}
use native.Mathlib.Omega.{arith}
use Rattle.meaning.specs.Bounds.{widest, most_candidates}
use Rattle.refusals.proofs.case_length.Goals as goal

most : {n k : ℕ} → n ≤ widest → k ≤ most_candidates → (n + k) * (n + 2) ≤ (widest + most_candidates) * (widest + 2)
most {n} {k} h j =
    let rows : n + k ≤ widest + most_candidates = omega arith in
    let long : n + 2 ≤ widest + 2 = omega arith in
    mul-le-mul rows long

pub overflow_mul-result : goal.overflow_mul-result
overflow_mul-result c = omega (arith, most c.requires.0 c.requires.1)

pub overflow_add-result-3 : goal.overflow_add-result-3
overflow_add-result-3 c = omega (arith, most c.requires.0 c.requires.1)

pub returns : goal.returns
returns c = refl
