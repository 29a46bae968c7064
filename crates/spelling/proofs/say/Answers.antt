-- `spelling::say` meets its contract, test by test. Assumes nothing.
use mathlib.Core.Path.{sym, ◌∙◌}
use Rattle.spelling.proofs.Steps.{step_stays, step-lost, step-held, step_full}
use Rattle.spelling.proofs.say.Goals as goal

pub returns-then-is_some : goal.returns-then-is_some
returns-then-is_some c = step_stays _ _ _ (sym c.is_some.ensures ∙ c.if-is_some.true)

pub returns-in-Dead : goal.returns-in-Dead
returns-in-Dead c = step-lost _ _ _ _ (sym c.is_some.ensures ∙ c.if-is_some.false) c.behind-next.ensures c.in-Dead.is

pub returns-then-t-out : goal.returns-then-t-out
returns-then-t-out c =
    step-held _ _ _ _ (sym c.is_some.ensures ∙ c.if-is_some.false) c.behind-next.ensures c.in_default.not-Dead c.if-t-out.true

pub returns : goal.returns
returns c =
    step_full _ _ _ _ (sym c.is_some.ensures ∙ c.if-is_some.false) c.behind-next.ensures c.in_default.not-Dead c.if-t-out.false
