-- `stand::show` writes what the call says it printed, which lies at the front of the buffer (`sheet_size`). Assumes nothing.
use Rattle.std.proofs.Common.{sym, length-take-le}
use Rattle.sheet.proofs.Size.{sheet_size}
use Rattle.stand.proofs.show.Goals as goal

pub slice_bounds-out-end : goal.slice_bounds-out-end
slice_bounds-out-end g c = sheet_size c.sheet.ensures c.in-Ok.is

pub slice_bounds-write_all-end : goal.slice_bounds-write_all-end
slice_bounds-write_all-end g c = sym (length-take-le _ _ (sheet_size c.sheet.ensures c.in-Ok.is))
