-- There is room for the words of a message.
--   spaced_one   a number behind a space takes 21 bytes at most
-- Assumes nothing.
use Rattle.std.proofs.Common.{ℕ, ◌^◌, ◌<◌, ◌≤◌, [], ◌∷◌, length, length-append, arith}
use Rattle.meaning.specs.Line.{decimal, spaced}
use Rattle.meaning.proofs.Line.{decimal_length}

pub spaced_one : (x : ℕ) → x < 10 ^ 20 → length (spaced (x ∷ [])) ≤ 21
unfolding spaced
spaced_one x h = omega (arith, length-append (decimal x) [], decimal_length 20 x h (omega arith))
