-- `trial_parts::prime` meets its contract: the test tells a prime up to 251. Assumes nothing.
use Rattle.std.proofs.Common.{arith}
use Rattle.trial_parts.proofs.Laws.{test_prime}
use Rattle.trial_parts.proofs.prime.Goals as goal

pub overflow_cast-result : goal.overflow_cast-result
overflow_cast-result c = omega (arith, (test_prime _ c.is_prime.ensures c.if-is_prime.true).1)

pub returns-then-is_prime : goal.returns-then-is_prime
returns-then-is_prime c = (test_prime _ c.is_prime.ensures c.if-is_prime.true).0
