-- `sheet::sheet` meets its contract: a buffer without the room is refused; otherwise the text of the file is copied to its front, and the rest of it
-- stays. Assumes nothing.
use Rattle.std.proofs.Common.{◌≤◌, [], length, sym, ap, ◌∙◌, arith}
use Rattle.std.proofs.lemmas.Result.{err_from_is_err_and}
use Rattle.meaning.proofs.Called.{refused_by, given_by}
use lib.Seq.{length-take-le}
use Rattle.meaning.specs.Sheet.{sheet_room}
use Rattle.meaning.proofs.Refusal.{none_refuse, first_here, first_next, first_end, too_short_false}
use Rattle.meaning.proofs.SheetRoom.{room_bytes}
use Rattle.meaning.proofs.Written.{front_write}
use Rattle.sheet.proofs.sheet.Goals as goal
use Rattle.sheet.proofs.sheet.Goals.{After-as_bytes-bytes}

pub returns-in_err-room : goal.returns-in_err-room
unfolding sheet_room
returns-in_err-room c =
    let p = err_from_is_err_and c.from_residual.result c.from_residual.ensures.1 in
    rw (p.1, p.2) (refused_by (first_here _ [] (sym c.in_err-room.ensures)))

-- the text lies within the buffer
within : (c : After-as_bytes-bytes) → length c.as_bytes-bytes.result.now ≤ length c.args.out.now
within c =
    let room = too_short_false 2048 c.args.out.now (none_refuse 6 _ (sym c.in_ok-room.ensures)) in
    omega (arith, ap length c.as_bytes-bytes.ensures, c.file_text-t.ensures.room, room_bytes, room)

pub slice_bounds-copy_from_slice-end : goal.slice_bounds-copy_from_slice-end
slice_bounds-copy_from_slice-end c = within c

pub slice_bounds-copy_from_slice-end-2 : goal.slice_bounds-copy_from_slice-end-2
slice_bounds-copy_from_slice-end-2 c = sym (length-take-le _ _ (within (goal.at.slice_bounds-copy_from_slice-end-2 c).After-as_bytes-bytes))

pub copy_from_slice-requires : goal.copy_from_slice-requires
copy_from_slice-requires c = length-take-le _ _ (within (goal.at.copy_from_slice-requires c).After-as_bytes-bytes)

pub returns : goal.returns
unfolding sheet_room
returns c =
    let same = c.as_bytes-bytes.ensures in
    given_by (first_next _ [] (sym c.in_ok-room.ensures) ∙ first_end)
    (record {
      printed = c.file_text-t.result;
      sheet = c.file_text-t.ensures.sheet;
      size = ap length same;
      buffer = front_write c.args.out.now (c.copy_from_slice.ensures.after ∙ same) (sym (ap length same));
    })
