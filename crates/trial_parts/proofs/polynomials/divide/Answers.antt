-- `trial_parts::polynomials::divide` calls `divide` as it asks: a divisor whose size is not 0 is not zero. Assumes nothing.
use Rattle.poly.proofs.Laws.{good_at_prime}
use Rattle.trial_parts.proofs.Laws.{test_nonzero}
use Rattle.trial_parts.proofs.polynomials.divide.Goals as goal

pub divide-parts-requires-clause-fact : goal.divide-parts-requires-clause-fact
divide-parts-requires-clause-fact g c = test_nonzero (good_at_prime c.in_ok-f.g c.in_ok-f.ensures) c.size.ensures c.if-size-eq0.false
