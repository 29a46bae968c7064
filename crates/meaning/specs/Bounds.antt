-- The numbers that bound the work (01, under that heading), and inputs within them. `src/lib.rt` has the same numbers for the code.
--   largest_prime      251
--   widest            64: n is at most this, so no row has more entries
--   coefficients      65: no polynomial of a machine has more, and the image call takes no more
--   most_candidates    128: the candidate list has no more rows
--   matrix_room, candidate_room   bytes enough for every matrix, and for every list
--   full_allowance     8,192: so many products pay for every list
--   most_allowance     16,383: the two halves of an A record hold no more
--   Sound p n m       p is a prime from 2 to 251, n is 1 to 64, and m is an n×n matrix of numbers below p
--   SoundRows p n cs  cs is a list of 0 to 128 rows of n numbers below p
-- Assumes nothing.
use Rattle.std.specs.Prelude.{◌≡◌, List, ℕ, ◌+◌, ◌*◌, ◌/◌, ◌≤◌, length}
use Rattle.algebra.specs.Field.{Prime}
use Rattle.meaning.specs.Bytes.{Small}

abbrev pub largest_prime : ℕ
largest_prime = 251

abbrev pub widest : ℕ
widest = 64

abbrev pub coefficients : ℕ
coefficients = widest + 1

abbrev pub most_candidates : ℕ
most_candidates = 128

abbrev pub matrix_room : ℕ
matrix_room = widest * widest

abbrev pub candidate_room : ℕ
candidate_room = most_candidates * widest

abbrev pub full_allowance : ℕ
full_allowance = most_candidates * widest

abbrev pub most_allowance : ℕ
most_allowance = 16383

pub record Sound (p n : ℕ) (m : List ℕ) : Type 0 where
  pub prime : Prime p
  pub most : p ≤ largest_prime
  pub some_size : 1 ≤ n
  pub size : n ≤ widest
  pub matrix : length m ≡ n * n
  pub entries : Small p m

pub record SoundRows (p n : ℕ) (cs : List ℕ) : Type 0 where
  pub whole : length cs ≡ length cs / n * n
  pub few : length cs / n ≤ most_candidates
  pub entries : Small p cs
