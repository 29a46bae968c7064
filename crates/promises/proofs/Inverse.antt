-- What 02 promises of the inverse (#104), for every prime from 2 to 251 and every scalar below it: none of them is refused.
--   inverse_zero      0 is answered with none
--   inverse_nonzero   every other scalar with a number that inverts it
-- Assumes nothing.
use mathlib.Core.Path.{◌≡◌, refl}
use mathlib.Core.Bool.{true}
use Rattle.std.specs.Prelude.{Option, None, Some}
use Prim.Native.Nat.{ℕ, ◌<◌}
use native.Mathlib.Omega.{arith}
use Rattle.meaning.specs.Inverse.{Inverts, IsInverse}
use Rattle.meaning.specs.Refusal.{is_prime}
use Rattle.meaning.specs.Calls.{Answer, given, InverseCall}
use Rattle.meaning.proofs.Refusal.{prime_positive, sound_inverse}
use Rattle.meaning.proofs.Called.{given_by}
use Rattle.promises.proofs.Calls.{inverse_unique}

pub inverse_zero : {p : ℕ} {x : Answer (Option ℕ)} → is_prime p ≡ true → InverseCall p 0 x → x ≡ given None
inverse_zero {p} P C = inverse_unique C (given_by (sound_inverse p 0 P (prime_positive p P)) refl)

pub inverse_nonzero : {p a : ℕ} {x : Answer (Option ℕ)} → is_prime p ≡ true → 0 < a → a < p → InverseCall p a x
    → (r : ℕ) × (x ≡ given (Some r)) × Inverts p a r
inverse_nonzero {p} {a} {x} P g h C = let (r, e, I) = C.result (sound_inverse p a P h) in go r e I
  where
    go : (r : Option ℕ) → x ≡ given r → IsInverse p a r → (r : ℕ) × (x ≡ given (Some r)) × Inverts p a r
    go None e I = absurd (omega (arith, I))
    go (Some r) e I = (r, e, I.1)
