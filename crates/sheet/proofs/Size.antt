-- How long a printed sheet is.
--   sheet_size   the length that the call answers is that of bytes at the front of the buffer
-- Assumes nothing.
use mathlib.Core.Path.{◌≡◌, subst}
use mathlib.Core.List.{List}
use Prim.Native.Nat.{ℕ, ◌≤◌}
use lib.ListN.{length}
use Rattle.meaning.specs.Sheet.{SheetCall}
use Rattle.meaning.proofs.SheetRoom.{given_size}
use Rattle.std.specs.Prelude.{Result, Ok}
use Rattle.reasons.specs.declared.Reason.{Reason}
use Rattle.reasons.specs.Reasons.{answer_of}

pub sheet_size : {s old new : List ℕ} {r : Result ℕ Reason} {k : ℕ} → SheetCall s old (answer_of r) new → r ≡ Ok k → k ≤ length new
sheet_size {s} {old} {new} h e = given_size (subst (λ x. SheetCall s old (answer_of x) new) e h)
