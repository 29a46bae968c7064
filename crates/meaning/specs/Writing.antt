-- Writing a case (02, #101): "from p, n, matrix, candidates and allowance it lays down one case, always with an `A` record, and returns its length;
-- bytes after it keep their content".
--   halves_of a               the two halves of an A record for the allowance a: how often 128 goes into it, and what is left over
--   case_of p n m cs a        the case with these values and an A record
--   case_written p n m cs a   its bytes
--   write_refusal             the refusal of the call, in the table's order
--   WriteCall                the call: the number of these bytes is returned, and they are at the front of the lent buffer
-- Assumes nothing.
use Rattle.std.specs.Prelude.{◌≡◌, List, [], ◌∷◌, ℕ, ◌/◌, ◌%◌, length}
use Rattle.std.specs.Prelude.{Option, Some}
use Rattle.meaning.specs.Bytes.{byte_rows, write}
use Rattle.meaning.specs.Refusal.{Refusal, refuse, refuse_at, no_prime, no_size, no_matrix, no_rows, bad_entry, no_allowance, too_short, first}
use Rattle.meaning.specs.Case.{Case, case_bytes, radix}
use Rattle.meaning.specs.Calls.{Answer, Called}

abbrev pub halves_of : ℕ → ℕ × ℕ
halves_of a = (a / radix, a % radix)

unfoldable pub case_of : ℕ → ℕ → List ℕ → List ℕ → ℕ → Case
case_of p n m cs a = record { p = p; n = n; allowance = Some (halves_of a); matrix = byte_rows n m; candidates = byte_rows n cs }

unfoldable pub case_written : ℕ → ℕ → List ℕ → List ℕ → ℕ → List ℕ
case_written p n m cs a = case_bytes (case_of p n m cs a)

unfoldable pub write_refusal : ℕ → ℕ → List ℕ → List ℕ → ℕ → List ℕ → Option Refusal
write_refusal p n m cs a out =
    first (refuse 1 (no_prime p) ∷ refuse 2 (no_size n) ∷ refuse 3 (no_matrix n m) ∷ refuse 4 (no_rows n cs) ∷ refuse_at 5 (bad_entry p n m)
    ∷ refuse_at 10 (bad_entry p n cs) ∷ refuse 9 (no_allowance a) ∷ refuse 6 (too_short (length (case_written p n m cs a)) out) ∷ [])

abbrev pub WriteCall : ℕ → ℕ → List ℕ → List ℕ → ℕ → List ℕ → Answer ℕ → List ℕ → Type 0
WriteCall p n m cs a old =
    Called (write_refusal p n m cs a old) (λ size new. (size ≡ length (case_written p n m cs a)) × (new ≡ write (case_written p n m cs a) old)) old
