-- `reasons::room` meets its contract. Assumes nothing.
use mathlib.Core.Path.{sym}
use native.Mathlib.Omega.{arith}
use Rattle.meaning.proofs.Refusal.{too_short_false, long-too_short, refuse_here, refuse_none}
use Rattle.reasons.proofs.Laws.{applies}
use Rattle.reasons.proofs.room.Goals as goal

pub returns-then-out-k : goal.returns-then-out-k
returns-then-out-k c = sym (refuse_here (applies _ (λ q. omega (arith, too_short_false _ _ q))))

pub returns : goal.returns
returns c = sym (refuse_none 6 (long-too_short _ _ c.if-out-k.false))
