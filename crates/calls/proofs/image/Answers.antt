-- `calls::image` meets its contract: where the refusal is none, the inputs are sound, and the worker writes the front of the buffer.
-- Assumes nothing.
use mathlib.Core.Path.{sym, ◌∙◌}
use lib.Seq.{length-take-le}
use Rattle.meaning.proofs.Bytes.{bytes_length}
use Rattle.meaning.proofs.Called.{given_by}
use Rattle.meaning.proofs.Written.{front_write}
use Rattle.calls.proofs.Laws.{image_told}
use Rattle.calls.proofs.image.Goals as goal

pub slice_bounds-image-end-2 : goal.slice_bounds-image-end-2
slice_bounds-image-end-2 c =
    let x = c.args in
    sym (length-take-le x.n x.out.now (image_told _ _ _ _ _ _ c.in_ok-of_image.ensures).6)

pub image-requires-clause-out_len : goal.image-requires-clause-out_len
image-requires-clause-out_len c =
    let x = c.args in
    let S = image_told _ _ _ _ _ _ c.in_ok-of_image.ensures in
    length-take-le x.n x.out.now S.6 ∙ sym S.1

pub returns : goal.returns
returns c =
    let S = image_told _ _ _ _ _ _ c.in_ok-of_image.ensures in
    given_by (sym c.in_ok-of_image.ensures) (front_write _ (rw S.1 at c.image.ensures) (bytes_length _ _))
