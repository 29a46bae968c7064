-- `cells::used_part` meets its contract. Invariant: what is left comes to the same without its separators. Measure: its length. Assumes nothing.
use mathlib.Core.Path.{refl, sym, ap, ◌∙◌}
use native.Mathlib.Omega.{arith}
use Rattle.cells.proofs.Laws.{trimmed, trimmed_none, trimmed_turn, trimmed_found}
use Rattle.cells.proofs.used_part.Goals as goal

pub loop-last-init : goal.loop-last-init
loop-last-init c = refl

pub loop-last-smaller : goal.loop-last-smaller
loop-last-smaller c = omega (arith, c.in-Some.ensures.cases.1)

pub loop-last-preserved : goal.loop-last-preserved
loop-last-preserved c = sym (trimmed_turn _ _ _ _ c.in-Some.ensures.cases.0 c.if-last-s.false) ∙ c.loop-last.invariant

pub returns-then-last-s : goal.returns-then-last-s
returns-then-last-s c =
    trimmed_found _ _ _ _ c.in-Some.ensures.cases.0 c.if-last-s.true ∙ c.loop-last.invariant ∙ ap (trimmed c.args.s) c.without_return-used.ensures

pub returns-in_default : goal.returns-in_default
returns-in_default c =
    trimmed_none _ _ c.in_default.ensures.cases ∙ c.loop-last.invariant ∙ ap (trimmed c.args.s) c.without_return-used.ensures
