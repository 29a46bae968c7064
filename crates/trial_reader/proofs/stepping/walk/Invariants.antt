-- `trial_reader::stepping::walk` ends. Measure: what is left of the file behind the cursor. Assumes nothing.
use Rattle.std.proofs.Common.{◌-◌, length}
use Rattle.trial_reader.proofs.stepping.walk.Given as goal

abbrev pub decreases-loop-stepped : goal.decreases-loop-stepped
decreases-loop-stepped g l = length l.s - l.at.at
