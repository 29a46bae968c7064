-- The refusal table (01, "Refusal numbers"; 02, #101 and #102): for each call the refusal of the first test that applies, in the table's order, or none.
--   Refusal            a number alone, or, where an entry is bad, a number with the entry's row and column
--   refuse k b         the refusal with the number k where the test b applies
--   refuse_at k o       the refusal with the number k and the cell in o, where there is one
--   all_below k t       the test t passes at every number below k
--   is_prime p          p is a prime from 2 to 251
--   no_prime p          test 1
--   no_size n           test 2: n is not 1 to 64
--   no_matrix n m       test 3: the matrix has not n·n bytes
--   no_rows n cs        test 4: the list is not a whole number of rows, or has over 128
--   no_vector n v       test 4 of a call that takes one vector: its length is not n
--   no_polynomial f     test 7: no coefficient or more than 65
--   bad_entry p n l     tests 5 and 10: the first bad entry of a matrix, of candidates or of one vector; rows are counted from 1
--   bad_coefficient p f   test 11: the first bad coefficient, in row 0; the lowest is in column 1
--   bad_scalar p a      test 11 of a scalar: it is like the one coefficient of a list
--   no_allowance a      test 9: the allowance is over 16,383
--   too_short k out     test 6: a result buffer is shorter than k
--   first ts           what the first test that applies gives, or none
--   inverse_refusal, order_refusal, image_refusal, stand_refusal, chain_refusal, period_refusal   the refusal of each call; that of the writer is in
--                      `Writing`
-- Assumes nothing.
use Rattle.std.specs.Prelude.{Bool, true, false, not, ◌&&◌, ◌||◌, List, [], ◌∷◌, ℕ, zero, suc, ◌+◌, ◌*◌, ◌/◌, ◌%◌, length, leb, ltb, eqb}
use Rattle.std.specs.Prelude.{Option, None, Some, option_map}
use Rattle.meaning.specs.Bounds.{largest_prime, widest, coefficients, most_candidates, most_allowance}
use Rattle.meaning.specs.Chain.{stage_room}
use Rattle.meaning.specs.Entry.{Cell, bad_cell}

pub data Refusal : Type 0 where
  alone : (number : ℕ) → Refusal
  at : (number row column : ℕ) → Refusal

unfoldable pub refuse : ℕ → Bool → Option Refusal
refuse k true = Some (alone k)
refuse k false = None

unfoldable pub refuse_at : ℕ → Option Cell → Option Refusal
refuse_at k o = option_map (λ c. at k c.row c.column) o

unfoldable pub all_below : ℕ → (ℕ → Bool) → Bool
all_below zero t = true
all_below (suc k) t = t k && all_below k t

unfoldable pub is_prime : ℕ → Bool
is_prime p = leb 2 p && (leb p largest_prime && all_below p (λ a. leb a 1 || not (eqb (p % a) 0)))

unfoldable pub no_prime : ℕ → Bool
no_prime p = not (is_prime p)

unfoldable pub no_size : ℕ → Bool
no_size n = not (leb 1 n && leb n widest)

unfoldable pub no_matrix : ℕ → List ℕ → Bool
no_matrix n m = not (eqb (length m) (n * n))

unfoldable pub no_rows : ℕ → List ℕ → Bool
no_rows n cs = not (eqb (length cs % n) 0 && leb (length cs / n) most_candidates)

unfoldable pub no_vector : ℕ → List ℕ → Bool
no_vector n v = not (eqb (length v) n)

unfoldable pub no_polynomial : List ℕ → Bool
no_polynomial f = not (leb 1 (length f) && leb (length f) coefficients)

unfoldable pub bad_entry : (p n : ℕ) → List ℕ → Option Cell
bad_entry p n l = bad_cell 1 p n l

unfoldable pub bad_coefficient : ℕ → List ℕ → Option Cell
bad_coefficient p f = bad_cell 0 p (length f) f

unfoldable pub bad_scalar : ℕ → ℕ → Option Cell
bad_scalar p a = bad_coefficient p (a ∷ [])

unfoldable pub no_allowance : ℕ → Bool
no_allowance a = ltb most_allowance a

unfoldable pub too_short : ℕ → List ℕ → Bool
too_short k out = ltb (length out) k

unfoldable pub first : List (Option Refusal) → Option Refusal
first [] = None
first (Some q ∷ ts) = Some q
first (None ∷ ts) = first ts

unfoldable pub inverse_refusal : ℕ → ℕ → Option Refusal
inverse_refusal p a = first (refuse 1 (no_prime p) ∷ refuse_at 11 (bad_scalar p a) ∷ [])

unfoldable pub order_refusal : ℕ → ℕ → List ℕ → List ℕ → List ℕ → Option Refusal
order_refusal p n m v out =
    first (refuse 1 (no_prime p) ∷ refuse 2 (no_size n) ∷ refuse 3 (no_matrix n m) ∷ refuse 4 (no_vector n v)
    ∷ refuse_at 5 (bad_entry p n m) ∷ refuse_at 10 (bad_entry p n v) ∷ refuse 6 (too_short (n + 1) out) ∷ [])

unfoldable pub image_refusal : ℕ → ℕ → List ℕ → List ℕ → List ℕ → List ℕ → Option Refusal
image_refusal p n m v f out =
    first (refuse 1 (no_prime p) ∷ refuse 2 (no_size n) ∷ refuse 3 (no_matrix n m) ∷ refuse 4 (no_vector n v) ∷ refuse 7 (no_polynomial f)
    ∷ refuse_at 5 (bad_entry p n m) ∷ refuse_at 10 (bad_entry p n v) ∷ refuse_at 11 (bad_coefficient p f) ∷ refuse 6 (too_short n out) ∷ [])

unfoldable pub stand_refusal : ℕ → ℕ → List ℕ → List ℕ → List ℕ → List ℕ → Option Refusal
stand_refusal p n m cs poly image =
    first (refuse 1 (no_prime p) ∷ refuse 2 (no_size n) ∷ refuse 3 (no_matrix n m) ∷ refuse 4 (no_rows n cs)
    ∷ refuse_at 5 (bad_entry p n m) ∷ refuse_at 10 (bad_entry p n cs) ∷ refuse 6 (too_short (n + 1) poly || too_short n image) ∷ [])

unfoldable pub chain_refusal : ℕ → ℕ → List ℕ → List ℕ → List ℕ → List ℕ → Option Refusal
chain_refusal p n m cs product stages =
    first (refuse 1 (no_prime p) ∷ refuse 2 (no_size n) ∷ refuse 3 (no_matrix n m) ∷ refuse 4 (no_rows n cs)
    ∷ refuse_at 5 (bad_entry p n m) ∷ refuse_at 10 (bad_entry p n cs) ∷ refuse 6 (too_short (n + 1) product || too_short (stage_room n) stages) ∷ [])

unfoldable pub period_refusal : ℕ → ℕ → List ℕ → Option Refusal
period_refusal p n m =
    first (refuse 1 (no_prime p) ∷ refuse 2 (no_size n) ∷ refuse 3 (no_matrix n m) ∷ refuse_at 5 (bad_entry p n m) ∷ [])
