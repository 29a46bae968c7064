-- Bytes laid down in a buffer, one stretch behind another.
--   laid_down d at s   the buffer d with the bytes s from `at` on
--   LaidAt d at s r d'   d' is that buffer, and r the place behind s
--   marked b xs       rows as records, one behind another: the mark, the letter b, the entries
--   WholeRows n s     s is a whole number of rows of n
-- Assumes nothing.
use Rattle.std.specs.Prelude.{◌≡◌, List, [], ◌∷◌, ◌++◌, ℕ, ◌+◌, ◌*◌, ◌/◌, ◌<◌, length, take, drop}

abbrev pub laid_down : List ℕ → ℕ → List ℕ → List ℕ
laid_down d at s = take at d ++ (s ++ drop (at + length s) d)

pub record LaidAt (d : List ℕ) (at : ℕ) (s : List ℕ) (r : ℕ) (d' : List ℕ) : Type 0 where
  pub place : r ≡ at + length s
  pub buffer : d' ≡ laid_down d at s

unfoldable pub marked : ℕ → List (List ℕ) → List ℕ
marked b [] = []
marked b (x ∷ xs) = (255 ∷ b ∷ x) ++ marked b xs

pub record WholeRows (n : ℕ) (s : List ℕ) : Type 0 where
  pub some_size : 0 < n
  pub whole : length s ≡ length s / n * n
