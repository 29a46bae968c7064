-- A text that grows. What contracts see of a text are the bytes that it holds.
--   HasRoom t s      t has room for the bytes s behind it
--   line_of w l      the bytes of a line with the word w and the numbers l
-- Assumes nothing.
use Rattle.std.specs.Prelude.{List, [], ◌∷◌, ◌++◌, ℕ, ◌+◌, ◌≤◌, length}
use Rattle.meaning.specs.Line.{spaced}
use Rattle.meaning.specs.Sheet.{sheet_room}

abbrev pub HasRoom : List ℕ → List ℕ → Type 0
HasRoom t s = length t + length s ≤ sheet_room

abbrev pub line_of : List ℕ → List ℕ → List ℕ
line_of w l = w ++ (spaced l ++ (10 ∷ []))
