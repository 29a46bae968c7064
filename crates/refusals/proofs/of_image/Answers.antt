-- `refusals::of_image` meets its contract: the laws of `tests` alone lead to what test 7 refuses. Assumes nothing.
use borrow.Author.Rules.{rules}
use Rattle.meaning.specs.Refusal.{image_refusal}
use Rattle.refusals.proofs.Laws.{tests}
use Rattle.refusals.proofs.of_image.Goals as goal

pub returns-in_err-polynomial : goal.returns-in_err-polynomial
unfolding image_refusal
returns-in_err-polynomial c = search (rules, tests)
