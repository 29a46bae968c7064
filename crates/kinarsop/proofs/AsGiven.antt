-- An answer of the face is read as it was given.
--   read_on        another result may stand in an answer where it may be given
--   inverse_read_lem   an inverse is read as it was given, since none is `no_inverse`
--   inverse_told   and so is what an answer says of an inverse or of none
-- Assumes nothing.
use mathlib.Core.Bool.{Bool, true, false}
use Rattle.std.specs.Prelude.{Option, None, Some, cond, eqb}
use Rattle.std.specs.Option.{unwrap_or}
use Prim.Native.Nat.{ℕ}
use native.Mathlib.Omega.{arith}
use borrow.Author.Tests.{ne_eqb}
use Rattle.meaning.specs.Calls.{Answer, refused, given, InverseCall}
use Rattle.meaning.proofs.Refusal.{inverse_sound}
use Rattle.meaning.proofs.Called.{called_given}
use Rattle.reasons.specs.declared.Numbers.{Numbers}
use Rattle.kinarsop.specs.Face.{refusal_in, read_as, no_inverse, inverse_in}

read_on : {A : Type 0} (x : Numbers) (r s : A) (P : Answer A → Type 0) → P (read_as x r) → (P (given r) → P (given s)) → P (read_as x s)
read_on x r s P h f = go (eqb x.number 0) h
  where
    go : (b : Bool) → P (cond b (given r) (refused (refusal_in x))) → P (cond b (given s) (refused (refusal_in x)))
    go true h = f h
    go false h = h

pub inverse_read_lem : (p a r : ℕ) → InverseCall p a (given (Some r)) → InverseCall p a (given (inverse_in r))
inverse_read_lem p a r C =
    let (q, I) = called_given C in
    rw (ne_eqb r no_inverse (λ e. omega (arith, (inverse_sound p a q).1, I.1.below))) C

inverse_given : (p a : ℕ) (o : Option ℕ) → InverseCall p a (given o) → InverseCall p a (given (inverse_in (unwrap_or o no_inverse)))
inverse_given p a None C = C
inverse_given p a (Some r) C = inverse_read_lem p a r C

pub inverse_told : (p a : ℕ) (x : Numbers) (o : Option ℕ) → InverseCall p a (read_as x o) → InverseCall p a (read_as x (inverse_in (unwrap_or o no_inverse)))
inverse_told p a x o C = read_on x o _ (InverseCall p a) C (inverse_given p a o)
