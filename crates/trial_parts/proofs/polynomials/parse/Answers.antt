-- `trial_parts::polynomials::parse` makes a polynomial as `made` asks: `first_bad` found no entry of p or more. Assumes nothing.
use Rattle.std.proofs.Common.{sym, ◌∙◌}
use Rattle.trial_parts.proofs.Laws.{test_small}
use Rattle.trial_parts.proofs.polynomials.parse.Goals as goal

pub made-requires-clause-small : goal.made-requires-clause-small
made-requires-clause-small c = test_small _ c.from.ensures (sym c.first_bad.ensures ∙ c.in-None.is)
