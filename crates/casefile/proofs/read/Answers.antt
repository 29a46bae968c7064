-- `casefile::read` meets its contract: what is held of the records handed out so far (`Underway`), and how it ends.
-- Assumes nothing.
use mathlib.Core.Path.{ap, subst, ◌∙◌}
use Rattle.std.specs.Prelude.{Ok}
use native.Mathlib.Omega.{arith}
use Rattle.meaning.specs.Case.{default_allowance}
use Rattle.reader.specs.Step.{StepIs}
use Rattle.casefile.proofs.Underway.{underway_start, step_less, underway_noting, underway_turn, underway_over, underway_refused}
use Rattle.casefile.proofs.read.Goals as goal
use Rattle.casefile.proofs.read.Goals.{After-next-stepped}

said : (c : After-next-stepped) → StepIs c.args.s.now c.loop-step.reader.at c.next-stepped.result
said c = subst (λ t. StepIs t c.loop-step.reader.at c.next-stepped.result) c.loop-step.invariant.0 c.next-stepped.ensures.step

pub loop-step-init : goal.loop-step-init
unfolding default_allowance
loop-step-init c = (ap (λ x. x.now) c.new-reader.ensures.0, underway_start _ c.new-reader.ensures.1)

pub returns-in-Over : goal.returns-in-Over
returns-in-Over c = underway_over c.loop-step.invariant.1 (said (goal.at.returns-in-Over c).After-next-stepped) (c.in-Ok.is ∙ ap Ok c.in-Over.is)

pub returns-in-Err : goal.returns-in-Err
returns-in-Err c = underway_refused c.loop-step.invariant.1 (said (goal.at.returns-in-Err c).After-next-stepped) c.in-Err.is

pub note-known-requires : goal.note-known-requires
note-known-requires c = underway_noting c.loop-step.invariant.1 (said (goal.at.note-known-requires c).After-next-stepped) c.in-Ok.is c.in_default.not-Over

pub loop-step-smaller : goal.loop-step-smaller
loop-step-smaller c =
    omega (arith, c.next-stepped.ensures.place, step_less (said (goal.at.loop-step-smaller c).After-next-stepped) c.in-Ok.is c.in_default.not-Over)

pub loop-step-preserved : goal.loop-step-preserved
loop-step-preserved c = (
  ap (λ x. x.now) c.next-stepped.ensures.same ∙ c.loop-step.invariant.0,
  underway_turn c.loop-step.invariant.1 (said (goal.at.loop-step-preserved c).After-next-stepped) c.in-Ok.is c.in_default.not-Over
      c.next-stepped.ensures.place c.note-known.ensures c.note-known.auto.m c.note-known.auto.cs,
)
