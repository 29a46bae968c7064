-- What is read of a design's text.
--   used_part s l     the line l without the carriage return and then the separators s at its end
--   letter_in w       the letter of the record that begins with the word w, or none
--   small o           the number o where it is an allowance; none where it is larger, or where there is none
-- Assumes nothing.
use Rattle.std.specs.Prelude.{cond, List, ℕ, length, take, leb}
use Rattle.std.specs.Prelude.{Option, None, Some}
use Rattle.meaning.specs.Ascii.{ascii}
use Rattle.meaning.specs.Bounds.{most_allowance}
use Rattle.meaning.specs.Design.{without_return, used, same}

abbrev pub used_part : ℕ → List ℕ → List ℕ
used_part s l = take (used s (without_return l) (length (without_return l))) (without_return l)

unfoldable pub letter_in : List ℕ → Option ℕ
letter_in w =
    cond (same w (ascii "field")) (Some 70) (cond (same w (ascii "allowance")) (Some 65)
    (cond (same w (ascii "row")) (Some 82) (cond (same w (ascii "candidate")) (Some 67) None)))

unfoldable pub small : Option ℕ → Option ℕ
small None = None
small (Some v) = cond (leb v most_allowance) (Some v) None
