-- `trial_sheets::judge_text` judges what the call says it made, which lies at the front of the buffer (`made_size`). Assumes nothing.
use Rattle.std.proofs.Common.{sym, length-take-le}
use Rattle.design.proofs.Size.{made_size}
use Rattle.trial_sheets.proofs.judge_text.Goals as goal

pub slice_bounds-case-end : goal.slice_bounds-case-end
slice_bounds-case-end g c = made_size c.make.ensures c.in-Ok-Ok.is c.in-Ok-Ok.field-0-is

pub slice_bounds-judge-end : goal.slice_bounds-judge-end
slice_bounds-judge-end g c = sym (length-take-le _ _ (made_size c.make.ensures c.in-Ok-Ok.is c.in-Ok-Ok.field-0-is))
