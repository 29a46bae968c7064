-- `cells::number` meets its contract. Invariant: the cell says what the digits that are left say behind the value.
-- Assumes nothing.
use mathlib.Core.Path.{◌≡◌, sym, ap, ◌∙◌}
use Prim.Native.Nat.{◌+◌, ◌*◌}
use native.Mathlib.Omega.{arith}
use borrow.Author.Tests.{eqb-true, eqb-false}
use Rattle.cells.specs.Cells.{small}
use Rattle.cells.proofs.Laws.{number_none, number_start, number_turn, number_other, number_end, small_over}
use Rattle.meaning.specs.Design.{number_from, number_in}
use lib.ListN.{drop}
use Rattle.cells.proofs.number.Goals as goal
use Rattle.cells.proofs.number.Goals.{Else-value-ge-TOO_LARGE, After-from}

pub returns-then-is_empty-clause-value : goal.returns-then-is_empty-clause-value
returns-then-is_empty-clause-value c = number_none _ (eqb-true _ _ (sym c.is_empty.ensures ∙ c.if-is_empty.true))

pub loop-b-init : goal.loop-b-init
loop-b-init c = (omega arith, number_start _ (eqb-false _ _ (sym c.is_empty.ensures ∙ c.if-is_empty.false)))

pub returns-then-not-is_ascii_digit-clause-value : goal.returns-then-not-is_ascii_digit-clause-value
returns-then-not-is_ascii_digit-clause-value c =
    number_other _ c.loop-b.b-index c.loop-b.value (omega arith) (sym c.is_ascii_digit.ensures.value ∙ c.if-not-is_ascii_digit.true)
    ∙ ap small c.loop-b.invariant.1

-- one digit more
digit : (c : After-from) → number_from (10 * c.loop-b.value + c.from.result) (drop (c.loop-b.b-index + 1) c.args.cell.now) ≡ number_in c.args.cell.now
digit c =
    ap (λ d. number_from (10 * c.loop-b.value + d) (drop (c.loop-b.b-index + 1) c.args.cell.now)) c.from.ensures
    ∙ number_turn _ c.loop-b.b-index c.loop-b.value (omega arith) (sym c.is_ascii_digit.ensures.value ∙ c.if-not-is_ascii_digit.false)
    ∙ c.loop-b.invariant.1

pub returns-then-value-ge-TOO_LARGE-clause-value : goal.returns-then-value-ge-TOO_LARGE-clause-value
returns-then-value-ge-TOO_LARGE-clause-value c = small_over _ _ (omega arith) ∙ ap small (digit (goal.at.returns-then-value-ge-TOO_LARGE-clause-value c).After-from)

pub loop-b-preserved : goal.loop-b-preserved
loop-b-preserved c = (omega arith, digit (goal.at.loop-b-preserved c).After-from)

pub returns-clause-value : goal.returns-clause-value
returns-clause-value c = number_end _ c.loop-b.b-index _ (omega arith) c.loop-b.invariant.0 ∙ ap small c.loop-b.invariant.1
