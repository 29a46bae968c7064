-- What the code expects at a spot of a text.
--   expected_as e   what meaning calls it
--   expected_of q   what may come in the state q of the scan
-- Assumes nothing.
use Rattle.std.specs.Prelude.{cond, ◌+◌, ltb, eqb}
use Rattle.meaning.specs.Bounds.{most_candidates}
use Rattle.meaning.specs.Case.{radix}
use Rattle.meaning.specs.Design as meant
use Rattle.meaning.specs.Design.{word_field, prime, size, entry_below, allowance, line_end, allowance_or_row, word_row, candidate_or_end, text_end}
use Rattle.scan.specs.declared.State.{State}
use Rattle.scan.specs.declared.State.TheVariants.{Start, Opening, Modulus, Size, Body, Letter, Entries, Over, Dead}
use Rattle.design.specs.declared.Expected.{Expected}
use Rattle.design.specs.declared.Expected.TheVariants as expected

abbrev pub expected_as : Expected → meant.Expected
expected_as expected.Field = word_field
expected_as expected.Prime = prime
expected_as expected.Size = size
expected_as (expected.Entry p) = entry_below p
expected_as expected.Allowance = allowance
expected_as expected.LineEnd = line_end
expected_as expected.AllowanceOrRow = allowance_or_row
expected_as expected.Row = word_row
expected_as expected.CandidateOrEnd = candidate_or_end
expected_as expected.TextEnd = text_end

unfoldable pub expected_of : State → meant.Expected
expected_of Start = line_end
expected_of Opening = word_field
expected_of Modulus = prime
expected_of (Size p) = size
expected_of (Body h) = line_end
expected_of (Letter h) =
    cond (ltb h.count h.n) (cond h.fresh allowance_or_row word_row)
    (cond (ltb h.count (h.n + most_candidates)) candidate_or_end text_end)
expected_of (Entries h bound left) = cond (eqb bound radix) allowance (entry_below bound)
expected_of (Over h) = line_end
expected_of Dead = line_end
