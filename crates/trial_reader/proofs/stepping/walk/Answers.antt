-- `trial_reader::stepping::walk` ends: a step that hands out a record leaves fewer bytes (`step_less`). Assumes nothing.
use Rattle.casefile.proofs.Underway.{step_less}
use Rattle.trial_reader.proofs.stepping.walk.Goals as goal

pub loop-stepped-smaller : goal.loop-stepped-smaller
loop-stepped-smaller g c = step_less c.in_ok-stepped.ensures c.in-Ok.is c.in_default-said.not-Over
