-- `reasons::prime` meets its contract: the code's prime test is that of the refusal table. Assumes nothing.
use mathlib.Core.Path.{sym}
use Rattle.meaning.proofs.Refusal.{prime_told, refuse_here, refuse_none}
use Rattle.reasons.proofs.prime.Goals as goal

pub returns-then-not-is_prime : goal.returns-then-not-is_prime
returns-then-not-is_prime c = sym (refuse_here (prime_told _ c.is_prime.ensures c.if-not-is_prime.true))

pub returns : goal.returns
returns c = sym (refuse_none 1 (prime_told _ c.is_prime.ensures c.if-not-is_prime.false))
