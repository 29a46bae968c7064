-- A design's text, as spreadsheets save it (02, #101): lines of cells. A line is a word and numbers, and each says a record: the word is its mark and its
-- letter, a number is an entry, and the end of the text is the record E. So a text is a design exactly where the bytes that it says are a case, and the
-- first thing that is wrong is the first byte that begins no case, with the cell that says it.
--   separators       comma, semicolon, tab; `separator_in t` is the first of them in the text t, a comma where there is none
--   without_mark t    t without a byte-order mark at its front
--   cut_at b s        the pieces between the bytes b of s
--   without_return l  a line without the carriage return at its end, if there is one
--   used s l k       how much of the first k bytes of the line l comes before the separators s at their end
--   cells_in s l      the cells of a line, empty ones at its end left out; a blank line has none
--   number_in w       the number that the cell w says in decimal digits, or none
--   letter_of w       the letter of the record that begins with the word w
--   no_byte           254: no byte of a case, wherever it stands; what is no word, no number or too large a number is taken for it
--   byte_in, halves_in the byte of an entry, and the two bytes of an allowance
--   cell_bytes b w    the bytes that the cell w says in a line with the letter b
--   Spot             a line and a cell, counted from 1
--   Said             a byte, and the spot of the cell that says it. The mark of a record is said by the end of the line before, which is behind its last
--                    cell; E is said by the line behind the last one that has cells
--   said, cells_said, line_said, lines_said, text_said   what a cell, cells, a line, lines and a text say
--   bytes_said t      the bytes alone
--   IsDesign t c     the text t is a design of the case c
--   Expected, fits   what may come, and the bytes that are that; `Proper`: the bound of an entry is a prime
--   FirstWrong t p e   the first thing that is wrong in t is at the spot p, where e was expected: just what might have been said there
-- Assumes nothing.
use Rattle.std.specs.Prelude.{◌≡◌, Bool, true, false, ◌&&◌, ◌||◌, cond, List, [], ◌∷◌, ◌++◌, map, ℕ, zero, suc, ◌+◌, ◌*◌, ◌-◌, ◌/◌, ◌%◌, ◌<◌, length, get_or, take, drop, leb, ltb, eqb}
use Rattle.std.specs.Prelude.{Option, None, Some}
use Rattle.meaning.specs.Bounds.{widest, most_allowance}
use Rattle.meaning.specs.Refusal.{is_prime}
use Rattle.meaning.specs.Case.{Case, radix, IsCase, Begins, Place}
use Rattle.meaning.specs.Ascii.{ascii}

abbrev pub comma : ℕ
comma = 44

abbrev pub is_separator : ℕ → Bool
is_separator b = eqb b comma || (eqb b 59 || eqb b 9)

unfoldable pub separator_in : List ℕ → ℕ
separator_in [] = comma
separator_in (b ∷ t) = cond (is_separator b) b (separator_in t)

unfoldable pub without_mark : List ℕ → List ℕ
without_mark t = cond (eqb (get_or t 0 0) 239 && (eqb (get_or t 1 0) 187 && eqb (get_or t 2 0) 191)) (drop 3 t) t

unfoldable pub joined : ℕ → List (List ℕ) → List (List ℕ)
joined x [] = (x ∷ []) ∷ []
joined x (l ∷ ls) = (x ∷ l) ∷ ls

unfoldable pub cut_at : ℕ → List ℕ → List (List ℕ)
cut_at b [] = [] ∷ []
cut_at b (x ∷ s) = cond (eqb x b) ([] ∷ cut_at b s) (joined x (cut_at b s))

unfoldable pub without_return : List ℕ → List ℕ
without_return l = cond (eqb (get_or l (length l - 1) 0) 13) (take (length l - 1) l) l

unfoldable pub used : ℕ → List ℕ → ℕ → ℕ
used s l zero = zero
used s l (suc k) = cond (eqb (get_or l k 0) s) (used s l k) (suc k)

unfoldable pub cells_of : ℕ → List ℕ → List (List ℕ)
cells_of s [] = []
cells_of s (b ∷ l) = cut_at s (b ∷ l)

unfoldable pub cells_in : ℕ → List ℕ → List (List ℕ)
cells_in s l = cells_of s (take (used s (without_return l) (length (without_return l))) (without_return l))

-- numbers and words
abbrev pub is_digit : ℕ → Bool
is_digit b = leb 48 b && leb b 57

unfoldable pub number_from : ℕ → List ℕ → Option ℕ
number_from v [] = Some v
number_from v (b ∷ w) = cond (is_digit b) (number_from (10 * v + (b - 48)) w) None

unfoldable pub number_in : List ℕ → Option ℕ
number_in [] = None
number_in (b ∷ w) = number_from 0 (b ∷ w)

abbrev pub no_byte : ℕ
no_byte = 254

unfoldable pub same : List ℕ → List ℕ → Bool
same [] [] = true
same [] (y ∷ t) = false
same (x ∷ s) [] = false
same (x ∷ s) (y ∷ t) = eqb x y && same s t

unfoldable pub letter_of : List ℕ → ℕ
letter_of w =
    cond (same w (ascii "field")) 70 (cond (same w (ascii "allowance")) 65
    (cond (same w (ascii "row")) 82 (cond (same w (ascii "candidate")) 67 no_byte)))

abbrev pub byte_in : Option ℕ → ℕ
byte_in None = no_byte
byte_in (Some v) = cond (ltb v no_byte) v no_byte

abbrev pub halves_in : Option ℕ → List ℕ
halves_in None = no_byte ∷ []
halves_in (Some v) = cond (leb v most_allowance) (v / radix ∷ v % radix ∷ []) (no_byte ∷ [])

unfoldable pub cell_bytes : ℕ → List ℕ → List ℕ
cell_bytes b w = cond (eqb b 65) (halves_in (number_in w)) (byte_in (number_in w) ∷ [])

-- what a text says, each byte with its spot
pub record Spot : Type 0 where
  pub line : ℕ
  pub cell : ℕ

pub record Said : Type 0 where
  pub byte : ℕ
  pub spot : Spot

abbrev pub said : Spot → ℕ → Said
said p b = record { byte = b; spot = p }

abbrev pub spot_at : ℕ → ℕ → Spot
spot_at i j = record { line = i; cell = j }

unfoldable pub cells_said : ℕ → ℕ → ℕ → List (List ℕ) → List Said
cells_said b i j [] = []
cells_said b i j (w ∷ ws) = map (said (spot_at i j)) (cell_bytes b w) ++ cells_said b i (suc j) ws

-- `before` is the end of the line before
unfoldable pub line_said : Spot → ℕ → List (List ℕ) → List Said
line_said before i [] = []
line_said before i (w ∷ ws) = said before 255 ∷ said (spot_at i 1) (letter_of w) ∷ cells_said (letter_of w) i 2 ws

abbrev pub end_of : Spot → ℕ → List (List ℕ) → Spot
end_of before i [] = before
end_of before i (w ∷ ws) = spot_at i (length (w ∷ ws) + 1)

unfoldable pub lines_said : ℕ → Spot → ℕ → List (List ℕ) → List Said
lines_said s before i [] = said before 255 ∷ said (spot_at (suc before.line) 1) 69 ∷ []
lines_said s before i (l ∷ ls) = line_said before i (cells_in s l) ++ lines_said s (end_of before i (cells_in s l)) (suc i) ls

unfoldable pub text_said : List ℕ → List Said
text_said t = lines_said (separator_in t) (spot_at 0 1) 1 (cut_at 10 (without_mark t))

unfoldable pub bytes_said : List ℕ → List ℕ
bytes_said t = map (λ (x : Said). x.byte) (text_said t)

abbrev pub IsDesign : List ℕ → Case → Type 0
IsDesign t c = IsCase (bytes_said t) c

-- the first thing that is wrong
pub data Expected : Type 0 where
  word_field : Expected
  prime : Expected
  size : Expected
  entry_below : ℕ → Expected
  allowance : Expected
  line_end : Expected
  allowance_or_row : Expected
  word_row : Expected
  candidate_or_end : Expected
  text_end : Expected

-- a cell says an allowance where its first byte is a high half
unfoldable pub fits : Expected → ℕ → Bool
fits word_field b = eqb b 70
fits prime b = is_prime b
fits size b = leb 1 b && leb b widest
fits (entry_below p) b = ltb b p
fits allowance b = ltb b radix
fits line_end b = eqb b 255
fits allowance_or_row b = eqb b 65 || eqb b 82
fits word_row b = eqb b 82
fits candidate_or_end b = eqb b 67 || eqb b 69
fits text_end b = eqb b 69

-- entries are below a prime
abbrev pub Proper : Expected → Type 0
Proper word_field = Unit {0}
Proper prime = Unit {0}
Proper size = Unit {0}
Proper (entry_below p) = is_prime p ≡ true
Proper allowance = Unit {0}
Proper line_end = Unit {0}
Proper allowance_or_row = Unit {0}
Proper word_row = Unit {0}
Proper candidate_or_end = Unit {0}
Proper text_end = Unit {0}

pub record FirstWrong (t : List ℕ) (p : Spot) (e : Expected) : Type 0 where
  pub offset : ℕ
  pub place : Place (bytes_said t) offset
  pub within : offset < length (text_said t)
  pub there : (get_or (text_said t) offset (said (spot_at 0 0) no_byte)).spot ≡ p
  pub proper : Proper e
  pub might : (b : ℕ) → Begins (take offset (bytes_said t) ++ b ∷ []) → fits e b ≡ true
  pub may : (b : ℕ) → fits e b ≡ true → Begins (take offset (bytes_said t) ++ b ∷ [])
