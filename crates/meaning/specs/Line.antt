-- A line of print (01, the listing of the program `stand`): a word, numbers, each behind a space, and a newline.
--   digit d        the byte of the digit d
--   digits k x     the decimal digits of x, the highest first, where it has at most k
--   decimal x      the decimal digits of x, the highest first
--   Line           a word and numbers
--   spaced l       each number of l behind a space
--   line_bytes x    the bytes of a line
--   text xs        the bytes of lines, one after another
-- Assumes nothing.
use Rattle.std.specs.Prelude.{true, false, List, [], ◌∷◌, ◌++◌, ℕ, zero, suc, ◌+◌, ◌/◌, ◌%◌, ltb}
use Prim.Native.String.{String}
use Rattle.meaning.specs.Ascii.{ascii}

unfoldable pub digit : ℕ → ℕ
digit d = 48 + d

unfoldable pub digits : ℕ → ℕ → List ℕ
digits zero x = []
digits (suc k) x = elim (ltb x 10) [ true ↦ digit x ∷ [] | false ↦ digits k (x / 10) ++ (digit (x % 10) ∷ []) ]

-- a number has fewer digits than it counts, and 0 has one
unfoldable pub decimal : ℕ → List ℕ
decimal x = digits (suc x) x

pub record Line : Type 0 where
  pub word : String
  pub numbers : List ℕ

unfoldable pub spaced : List ℕ → List ℕ
spaced [] = []
spaced (x ∷ l) = 32 ∷ (decimal x ++ spaced l)

unfoldable pub line_bytes : Line → List ℕ
line_bytes x = ascii x.word ++ (spaced x.numbers ++ (10 ∷ []))

unfoldable pub text : List Line → List ℕ
text [] = []
text (x ∷ xs) = line_bytes x ++ text xs
