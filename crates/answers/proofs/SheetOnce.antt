-- One result for every input, of the code's own answers: any two that the contract permits are the same, and so are the bytes in the buffer.
--   sheet_once     any two permitted answers and buffer contents are the same
-- Assumes nothing.
use mathlib.Core.Path.{◌≡◌}
use mathlib.Core.List.{List}
use Rattle.std.specs.Prelude.{Result}
use Prim.Native.Nat.{ℕ}
use Rattle.meaning.specs.Sheet.{SheetCall}
use Rattle.reasons.specs.Reasons.{answer_of}
use Rattle.reasons.specs.declared.Reason.{Reason}
use Rattle.answers.proofs.Unique.{answer_only}
use Rattle.answers.proofs.Sheet.{sheet_call_unique}

pub sheet_once : (r q : Result ℕ Reason) {s old x y : List ℕ} → SheetCall s old (answer_of r) x → SheetCall s old (answer_of q) y → (r ≡ q) × (x ≡ y)
sheet_once r q A B = let (e, f) = sheet_call_unique A B in (answer_only r q e, f)
