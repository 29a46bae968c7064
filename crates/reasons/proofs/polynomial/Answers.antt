-- `reasons::polynomial` meets its contract. Assumes nothing.
use mathlib.Core.Path.{sym}
use native.Mathlib.Omega.{arith}
use Rattle.std.proofs.lemmas.Bool.Decides.{nat_tests}
use Rattle.meaning.proofs.Refusal.{no_polynomial_false, polynomial_no_polynomial, refuse_here, refuse_none}
use Rattle.reasons.proofs.Laws.{applies}
use Rattle.reasons.proofs.polynomial.Goals as goal

pub returns-then-is_empty : goal.returns-then-is_empty
returns-then-is_empty c = sym (refuse_here (applies _ (λ q. grind (arith, nat_tests, no_polynomial_false _ q))))

pub returns : goal.returns
returns c = sym (refuse_none 7 (polynomial_no_polynomial _ (grind (arith, nat_tests)) (omega arith)))
