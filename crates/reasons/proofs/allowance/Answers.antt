-- `reasons::allowance` meets its contract. Assumes nothing.
use mathlib.Core.Path.{sym}
use native.Mathlib.Omega.{arith}
use Rattle.meaning.proofs.Refusal.{no_allowance_false, allowance_no_allowance, refuse_here, refuse_none}
use Rattle.reasons.proofs.Laws.{applies}
use Rattle.reasons.proofs.allowance.Goals as goal

pub returns-then-a-gt-MOST_ALLOWANCE : goal.returns-then-a-gt-MOST_ALLOWANCE
returns-then-a-gt-MOST_ALLOWANCE c = sym (refuse_here (applies _ (λ q. omega (arith, no_allowance_false _ q))))

pub returns : goal.returns
returns c = sym (refuse_none 9 (allowance_no_allowance _ (omega arith)))
