-- `trial_parts::polynomials::lcm` calls `lcm` as it asks: the leading coefficients are 1, and the gcd's degree leaves room. Assumes nothing.
use Rattle.poly.proofs.Laws.{good_own, good_at_prime}
use Rattle.trial_parts.proofs.Laws.{test_monic, test_room}
use Rattle.trial_parts.proofs.polynomials.lcm.Goals as goal

pub lcm-requires-clause-monic : goal.lcm-requires-clause-monic
lcm-requires-clause-monic g c = test_monic (good_own c.in_ok-f.f) c.if-f-ne1.false

pub lcm-requires-clause-monic_2 : goal.lcm-requires-clause-monic_2
lcm-requires-clause-monic_2 g c = test_monic (good_at_prime c.in_ok-f.g c.in_ok-f.ensures) c.if-g-ne1.false

pub lcm-requires-clause-room : goal.lcm-requires-clause-room
lcm-requires-clause-room g c =
    let F = good_own c.in_ok-f.f in
    let G = good_at_prime c.in_ok-f.g c.in_ok-f.ensures in
    let M = test_monic F c.if-f-ne1.false in
    let N = test_monic G c.if-g-ne1.false in
    test_room F G M N c.gcd-h.ensures c.if-h-f.false
