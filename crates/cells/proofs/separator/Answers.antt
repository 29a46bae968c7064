-- `cells::separator` meets its contract. Invariant: the first separator of the text is that of what is left of it.
-- Assumes nothing.
use mathlib.Core.Path.{sym, ◌∙◌}
use native.Mathlib.Omega.{arith}
use Rattle.cells.proofs.Laws.{separator_found, separator_turn, separator_end}
use Rattle.cells.proofs.separator.Goals as goal

pub returns-then-is_separator : goal.returns-then-is_separator
returns-then-is_separator c =
    sym (separator_found _ c.loop-b.b-index (omega arith) (sym c.is_separator.ensures ∙ c.if-is_separator.true)) ∙ c.loop-b.invariant

pub loop-b-preserved : goal.loop-b-preserved
loop-b-preserved c =
    separator_turn _ c.loop-b.b-index (omega arith) (sym c.is_separator.ensures ∙ c.if-is_separator.false) ∙ c.loop-b.invariant

pub returns : goal.returns
returns c = sym (separator_end _ c.loop-b.b-index (omega arith)) ∙ c.loop-b.invariant
