-- `Text::number` ends: each call is on a tenth. Measure: the number. Assumes nothing.
use Rattle.text.proofs.Text.+number.Given as goal

abbrev pub decreases-number : goal.decreases-number
decreases-number l = l.x
