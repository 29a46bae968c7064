-- What is said of the first thing that is wrong in a design's text: one line with the line, the cell and what was expected.
--   up_to k            a number from 0 to k, in words
--   expected_words e   what was expected, in words
--   mistake p e       the line, without its end
-- Assumes nothing.
use Rattle.std.specs.Prelude.{List, [], ◌∷◌, ◌++◌, ℕ, ◌-◌}
use Rattle.meaning.specs.Bounds.{most_allowance}
use Rattle.meaning.specs.Ascii.{ascii}
use Rattle.meaning.specs.Line.{spaced}
use Rattle.meaning.specs.Design.{Spot, Expected, word_field, prime, size, entry_below, allowance, line_end, allowance_or_row, word_row}
use Rattle.meaning.specs.Design.{candidate_or_end, text_end}

abbrev pub up_to : ℕ → List ℕ
up_to k = ascii "a number from 0 to" ++ spaced (k ∷ [])

abbrev pub expected_words : Expected → List ℕ
expected_words word_field = ascii "the word field"
expected_words prime = ascii "a prime from 2 to 251"
expected_words size = ascii "a number from 1 to 64"
expected_words (entry_below p) = up_to (p - 1)
expected_words allowance = up_to most_allowance
expected_words line_end = ascii "the end of the line"
expected_words allowance_or_row = ascii "the word allowance or the word row"
expected_words word_row = ascii "the word row"
expected_words candidate_or_end = ascii "the word candidate or the end of the text"
expected_words text_end = ascii "the end of the text"

unfoldable pub mistake : Spot → Expected → List ℕ
mistake p e =
    ascii "line" ++ (spaced (p.line ∷ []) ++ (ascii ", cell" ++ (spaced (p.cell ∷ []) ++ (ascii ": expected " ++ expected_words e))))
