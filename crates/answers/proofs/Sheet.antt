-- Every file has a sheet, and the call has one answer and one buffer content.
--   sheet_exists        every file has a sheet
--   sheet_call_unique   any two answers of the call, and what the buffer holds afterwards, agree
--   sheet_call_exists   there is one
-- Assumes nothing.
use mathlib.Core.Path.{◌≡◌, refl, sym, ap, ◌∙◌}
use mathlib.Core.List.{List}
use Prim.Native.Nat.{ℕ}
use lib.ListN.{length}
use Rattle.meaning.specs.Bytes.{write}
use Rattle.meaning.specs.Calls.{Answer}
use Rattle.meaning.specs.Sheet.{IsSheet, SheetCall}
use Rattle.meaning.proofs.Called.{called_exists, called_unique}
use Rattle.promises.proofs.Sheet.{sheet_found, sheet_unique}
use Rattle.scan.proofs.Decide.{case_or_place}

pub sheet_exists : (s : List ℕ) → (t : List ℕ) × IsSheet s t
sheet_exists s = sheet_found s (case_or_place s)

pub sheet_call_exists : (s old : List ℕ) → (answer : Answer ℕ) × (new : List ℕ) × SheetCall s old answer new
sheet_call_exists s old =
    let (t, S) = sheet_exists s in
    called_exists _ old (λ q. (length t, write t old, record { printed = t; sheet = S; size = refl; buffer = refl }))

pub sheet_call_unique : {s old a b : List ℕ} {x y : Answer ℕ} → SheetCall s old x a → SheetCall s old y b → (x ≡ y) × (a ≡ b)
sheet_call_unique {s} {old} =
    called_unique (λ q i j a b A B.
    let same = sheet_unique A.sheet B.sheet in
    (A.size ∙ ap length same ∙ sym B.size, A.buffer ∙ ap (λ t. write t old) same ∙ sym B.buffer))
