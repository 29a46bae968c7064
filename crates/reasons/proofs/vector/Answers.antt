-- `reasons::vector` meets its contract. Assumes nothing.
use mathlib.Core.Path.{sym}
use Rattle.meaning.proofs.Refusal.{no_vector_false, vector-no_vector, refuse_here, refuse_none}
use Rattle.reasons.proofs.Laws.{applies}
use Rattle.reasons.proofs.vector.Goals as goal

pub returns-then-v-n : goal.returns-then-v-n
returns-then-v-n c = sym (refuse_here (applies _ (λ q. c.if-v-n.true (no_vector_false _ _ q))))

pub returns : goal.returns
returns c = sym (refuse_none 4 (vector-no_vector _ _ c.if-v-n.false))
