-- `cells::without_mark` meets its contract. Assumes nothing.
use mathlib.Core.Path.{ap, ◌∙◌}
use Rattle.cells.proofs.Laws.{mark_stripped}
use Rattle.cells.proofs.without_mark.Goals as goal

pub returns : goal.returns
returns c = ap (λ x. x.now) c.unwrap_or.ensures ∙ mark_stripped _ _ c.strip_prefix.ensures.cases
