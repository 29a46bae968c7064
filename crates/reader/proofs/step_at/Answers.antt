-- `reader::step_at` meets its contract. The first scan gives the state at the offset, or the place in front of it; the second goes over the record that begins
-- there, or stops at the place; where none begins, a scan of the rest finds the place.
-- Assumes nothing.
use mathlib.Core.Path.{sym, subst}
use borrow.Author.Rules.{rules}
use Rattle.scan.proofs.Place.{scans_start, scan_to}
use Rattle.reader.specs.Step.{StepIs}
use Rattle.reader.proofs.Look.{peek_far}
use Rattle.reader.proofs.Stepping.{step_hands, step_over, step_early, step_cut, step_stops, step_nothing}
use Rattle.reader.proofs.step_at.Goals as goal

pub scan-here-requires : goal.scan-here-requires
scan-here-requires c = (scans_start _, search rules)

pub returns-then-reached-at : goal.returns-then-reached-at
returns-then-reached-at c = subst (StepIs _ _) (sym c.said.ensures) (step_early (c.scan-here.ensures.stop c.if-reached-at.true) c.if-reached-at.true)

pub returns-in_default : goal.returns-in_default
returns-in_default c =
    subst (StepIs _ _) (sym c.said-in_default.ensures)
    (step_cut (scan_to c.scan-here.ensures c.if-reached-at.false) c.if-at-s.true c.in_default.not-Over)

pub returns-then-at-s : goal.returns-then-at-s
returns-then-at-s c =
    subst (StepIs _ _) (sym c.said-then-at-s.ensures)
    (step_over (scan_to c.scan-here.ensures c.if-reached-at.false) c.in-Over.is c.if-at-s.true)

pub scan-end-requires : goal.scan-end-requires
scan-end-requires c =
    (scan_to c.scan-here.ensures c.if-reached-at.false, peek_far _ _ (sym c.in-Some.ensures))

pub returns-then-end-next : goal.returns-then-end-next
returns-then-end-next c =
    subst (StepIs _ _) (sym c.said-then-end-next.ensures)
    (step_stops (scan_to c.scan-here.ensures c.if-reached-at.false) c.if-at-s.false (sym c.in-Some.ensures)
    (c.scan-end.ensures.stop c.if-end-next.true) c.if-end-next.true)

pub place-requires : goal.place-requires
place-requires c =
    scan_to c.scan-here.ensures c.if-reached-at.false

pub returns : goal.returns
returns c =
    subst (StepIs _ _) (sym c.said-2.ensures)
    (step_hands (scan_to c.scan-here.ensures c.if-reached-at.false) (sym c.in-Some.ensures)
    (scan_to c.scan-end.ensures c.if-end-next.false))

pub returns-in_default-peek : goal.returns-in_default-peek
returns-in_default-peek c =
    subst (StepIs _ _) (sym c.said-in_default-peek.ensures)
    (step_nothing (scan_to c.scan-here.ensures c.if-reached-at.false) c.if-at-s.false (sym c.in_default-peek.ensures) c.place.ensures)
