-- `cells::without_return` meets its contract. Assumes nothing.
use mathlib.Core.Path.{ap, ◌∙◌}
use Rattle.cells.proofs.Laws.{return_stripped}
use Rattle.cells.proofs.without_return.Goals as goal

pub returns : goal.returns
returns c = ap (λ x. x.now) c.unwrap_or.ensures ∙ return_stripped _ _ c.strip_suffix.ensures.cases
