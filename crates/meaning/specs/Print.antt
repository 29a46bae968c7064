-- Print as it is read back.
--   Each P l     every byte of l has the property P
--   IsDigit b    b is the byte of a digit
--   Plain b      b is neither the byte of a digit nor a newline
--   Wordy xs     the words of the lines xs are of such bytes alone
-- Assumes nothing.
use Rattle.std.specs.Prelude.{◌≡◌, List, [], ◌∷◌, ℕ, ◌≤◌}
use Rattle.meaning.specs.Ascii.{ascii}
use Rattle.meaning.specs.Line.{Line}

abbrev pub Each : (ℕ → Type 0) → List ℕ → Type 0
Each P [] = Unit {0}
Each P (b ∷ l) = P b × Each P l

abbrev pub IsDigit : ℕ → Type 0
IsDigit b = (48 ≤ b) × (b ≤ 57)

abbrev pub Plain : ℕ → Type 0
Plain b = ¬ IsDigit b × ¬ (b ≡ 10)

abbrev pub Wordy : List Line → Type 0
Wordy [] = Unit {0}
Wordy (x ∷ xs) = Each Plain (ascii x.word) × Wordy xs
