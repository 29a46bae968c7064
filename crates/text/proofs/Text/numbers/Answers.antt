-- `Text::numbers` meets its contract. Invariant: with the numbers that are left behind it, the text is what it will be. Assumes nothing.
use Rattle.std.proofs.Common.{ℕ, length, ap, arith, length-append}
use Rattle.std.proofs.lemmas.Grind.{common_steps}
use Rattle.meaning.specs.Line.{spaced}
use Rattle.text.proofs.Laws.{spaced_next}
use Rattle.text.proofs.Text.numbers.Goals as goal

pub spaced_number-requires : goal.spaced_number-requires
spaced_number-requires g c =
    let each = g.met.T.Number.each c.args.s.now in
    let next = spaced_next g.T.Number.value c.args.s.now c.loop-x.x-index c.x-item.result c.as_usize.result c.loop-x-test.true c.x-item.is c.as_usize.ensures in
    omega (arith, length-append {A = ℕ}, ap length c.loop-x.invariant, ap length next, ap (λ l. length (spaced l)) each)

pub loop-x-preserved : goal.loop-x-preserved
loop-x-preserved g c =
    let next = spaced_next g.T.Number.value c.args.s.now c.loop-x.x-index c.x-item.result c.as_usize.result c.loop-x-test.true c.x-item.is c.as_usize.ensures in
    grind (arith, common_steps)

pub returns : goal.returns
unfolding spaced
returns g c =
    let each = g.met.T.Number.each c.args.s.now in
    grind (arith, common_steps)
