-- `reasons::scalar` meets its contract: a scalar is like the one coefficient of a list. Assumes nothing.
use mathlib.Core.Path.{sym}
use mathlib.Core.List.{[], ◌∷◌}
use native.Mathlib.Nat.{zero-lt-suc, not-suc-le-zero}
use native.Mathlib.Omega.{arith}
use Rattle.meaning.specs.Refusal.{bad_scalar}
use Rattle.meaning.proofs.Entry.{BadAt, first_bad_at}
use Rattle.meaning.proofs.Refusal.{scalar_none}
use Rattle.reasons.proofs.Laws.{coefficient_placed}
use Rattle.reasons.proofs.scalar.Goals as goal

pub returns-then-p-a : goal.returns-then-p-a
unfolding bad_scalar
returns-then-p-a c =
    let x = c.args in
    let bad : BadAt x.p (x.a ∷ []) 0 = record { within = zero-lt-suc 0; bad = omega arith; before = λ j l. absurd (not-suc-le-zero l) } in
    coefficient_placed x.p (x.a ∷ []) (first_bad_at x.p (x.a ∷ []) 0 bad)

pub returns : goal.returns
returns c = sym (scalar_none 11 _ _ (omega arith))
