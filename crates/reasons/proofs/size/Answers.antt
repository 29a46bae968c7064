-- `reasons::size` meets its contract. Assumes nothing.
use mathlib.Core.Path.{sym}
use native.Mathlib.Omega.{arith}
use Rattle.meaning.proofs.Refusal.{no_size_false, size_no_size, refuse_here, refuse_none}
use Rattle.reasons.proofs.Laws.{applies}
use Rattle.reasons.proofs.size.Goals as goal

pub returns-then-n-lt1 : goal.returns-then-n-lt1
returns-then-n-lt1 c = sym (refuse_here (applies _ (λ q. omega (arith, no_size_false _ q))))

pub returns : goal.returns
returns c = sym (refuse_none 2 (size_no_size _ (omega arith) (omega arith)))
