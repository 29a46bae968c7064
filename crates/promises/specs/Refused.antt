-- What a refusal says (02, #102): a number alone, or a number with the row and column of the first bad entry in reading order.
--   BeforeEntries k    k is the number of a test that is made before any entry is looked at: these have no place
--   Explained p n m most rs f q   what the refusal q says of a call with the matrix m, the rows rs and the coefficients f. Candidates are rows, at most
--                      `most` of them; one vector is one row; a scalar is like the one coefficient of a list. What a call does not take is empty
--   WithoutPlace k     k is none of the three numbers that have a place
--   InShape p n m      tests 1, 2 and 3 pass: p is a prime from 2 to 251, n is 1 to 64, and m has n·n entries, good or bad
--   EntriesTold p n m rs f x   and the other way round: the answer x tells the first bad entry where all that is looked at before it is good
-- Assumes nothing.
use Rattle.std.specs.Prelude.{◌≡◌, true, List, ℕ, ◌*◌, ◌≤◌, length}
use Rattle.meaning.specs.Bytes.{Small}
use Rattle.meaning.specs.Bounds.{widest}
use Rattle.meaning.specs.Entry.{Cell, FirstBad}
use Rattle.meaning.specs.Refusal.{Refusal, alone, at, is_prime}
use Rattle.meaning.specs.Calls.{Answer, refused}

pub data BeforeEntries : ℕ → Type 0 where
  no_prime_test : BeforeEntries 1
  no_size_test : BeforeEntries 2
  no_matrix_test : BeforeEntries 3
  no_rows_test : BeforeEntries 4
  no_polynomial_test : BeforeEntries 7

-- "5 for a matrix entry, then 10 for a candidate or vector entry, then 11 for a coefficient or scalar": where one of them is told, all that is looked
-- at before it is good. 9, an allowance that is too large (#101), is told where all entries are good, and 6, a short buffer, where all else is
pub data Explained (p n : ℕ) (m : List ℕ) (most : ℕ) (rs f : List ℕ) : Refusal → Type 0 where
  before_entries : {k : ℕ} → BeforeEntries k → Explained p n m most rs f (alone k)
  matrix_entry : (c : Cell) → FirstBad 1 p n m c → c.row ≤ n → Explained p n m most rs f (at 5 c.row c.column)
  row_entry : (c : Cell) → Small p m → FirstBad 1 p n rs c → c.row ≤ most → Explained p n m most rs f (at 10 c.row c.column)
  coefficient_entry : (c : Cell) → Small p m → Small p rs → FirstBad 0 p (length f) f c → c.row ≡ 0 → Explained p n m most rs f (at 11 c.row c.column)
  over_allowance : Small p m → Small p rs → Explained p n m most rs f (alone 9)
  short_buffer : Small p m → Small p rs → Small p f → Explained p n m most rs f (alone 6)

abbrev pub WithoutPlace : ℕ → Type 0
WithoutPlace k = (¬ (k ≡ 5)) × (¬ (k ≡ 10)) × (¬ (k ≡ 11))

pub record InShape (p n : ℕ) (m : List ℕ) : Type 0 where
  pub prime : is_prime p ≡ true
  pub some_size : 1 ≤ n
  pub size : n ≤ widest
  pub matrix : length m ≡ n * n

pub record EntriesTold {A : Type 0} (p n : ℕ) (m rs f : List ℕ) (x : Answer A) : Type 0 where
  pub matrix_told : (c : Cell) → FirstBad 1 p n m c → x ≡ refused (at 5 c.row c.column)
  pub row_told : (c : Cell) → Small p m → FirstBad 1 p n rs c → x ≡ refused (at 10 c.row c.column)
  pub coefficient_told : (c : Cell) → Small p m → Small p rs → FirstBad 0 p (length f) f c → x ≡ refused (at 11 c.row c.column)
