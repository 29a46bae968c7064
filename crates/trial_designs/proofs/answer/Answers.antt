-- `trial_designs::answer` prints what the call says it made, which lies at the front of the buffer (`made_size`). Assumes nothing.
use Rattle.std.proofs.Common.{sym, length-take-le}
use Rattle.design.proofs.Size.{made_size}
use Rattle.trial_designs.proofs.answer.Goals as goal

pub slice_bounds-out-end : goal.slice_bounds-out-end
slice_bounds-out-end g c = made_size c.make.ensures c.in-Ok-Ok.is c.in-Ok-Ok.field-0-is

pub slice_bounds-print_list-end : goal.slice_bounds-print_list-end
slice_bounds-print_list-end g c = sym (length-take-le _ _ (made_size c.make.ensures c.in-Ok-Ok.is c.in-Ok-Ok.field-0-is))
