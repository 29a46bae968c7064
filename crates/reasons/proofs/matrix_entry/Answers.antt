-- `reasons::matrix_entry` meets its contract: the cell that was found, with the number. Assumes nothing.
use mathlib.Core.Path.{ap}
use Rattle.std.specs.Prelude.{option_map}
use Rattle.meaning.specs.Refusal.{at, refuse_at}
use Rattle.reasons.proofs.matrix_entry.Goals as goal

pub returns-in-Some : goal.returns-in-Some
unfolding refuse_at
returns-in-Some c = ap (option_map (λ k. at 5 k.row k.column)) c.in-Some.ensures

pub returns-in-None : goal.returns-in-None
unfolding refuse_at
returns-in-None c = ap (option_map (λ k. at 5 k.row k.column)) c.in-None.ensures
