-- What 02 promises of the inverse (#104), of the code's own answers and of what a C or a Rust program gets, for every prime from 2 to 251 and every
-- scalar below it.
--   inverted_zero, inverted_nonzero   `calls::inverse` answers none for 0, and a number that inverts any other scalar
--   face_zero, face_nonzero           `kinarsop_inverse` has `no_inverse` for 0, and a number that inverts any other scalar; both are answered
-- Assumes nothing.
use mathlib.Core.Path.{◌≡◌, sym, subst}
use mathlib.Core.Bool.{true}
use Rattle.std.specs.Prelude.{Option, None, Some, Result, Ok}
use Prim.Native.Nat.{ℕ, ◌<◌}
use Rattle.meaning.specs.Inverse.{Inverts}
use Rattle.meaning.specs.Refusal.{is_prime}
use Rattle.meaning.specs.Calls.{InverseCall}
use Rattle.promises.proofs.Inverse.{inverse_zero, inverse_nonzero}
use Rattle.reasons.specs.Reasons.{answer_of}
use Rattle.reasons.specs.declared.Reason.{Reason}
use Rattle.kinarsop.specs.Face.{no_inverse, inverse_in, inverse_read}
use Rattle.kinarsop.specs.declared.InverseAnswer.{InverseAnswer}
use Rattle.answers.proofs.Unique.{answer_only}
use Rattle.answers.proofs.Face.{read_answered, inverse_in-only, inverse_in_some}

pub inverted_zero : (r : Result (Option ℕ) Reason) {p : ℕ} → is_prime p ≡ true → InverseCall p 0 (answer_of r) → r ≡ Ok None
inverted_zero r P C = answer_only r (Ok None) (inverse_zero P C)

pub inverted_nonzero : (r : Result (Option ℕ) Reason) {p a : ℕ} → is_prime p ≡ true → 0 < a → a < p → InverseCall p a (answer_of r)
    → (b : ℕ) × (r ≡ Ok (Some b)) × Inverts p a b
inverted_nonzero r P g h C =
    let (b, e, I) = inverse_nonzero P g h C in
    (b, answer_only r (Ok (Some b)) e, I)

pub face_zero : (r : InverseAnswer) {p : ℕ} → is_prime p ≡ true → InverseCall p 0 (inverse_read r) → (r.refusal.number ≡ 0) × (r.inverse ≡ no_inverse)
face_zero r P C =
    let (z, h) = read_answered r.refusal _ (inverse_in no_inverse) (inverse_zero P C) in
    (z, inverse_in-only r.inverse no_inverse h)

pub face_nonzero : (r : InverseAnswer) {p a : ℕ} → is_prime p ≡ true → 0 < a → a < p → InverseCall p a (inverse_read r)
    → (r.refusal.number ≡ 0) × Inverts p a r.inverse
face_nonzero r {p} {a} P g h C =
    let (b, e, I) = inverse_nonzero P g h C in
    let (z, k) = read_answered r.refusal _ (Some b) e in
    (z, subst (Inverts p a) (sym (inverse_in_some r.inverse b k)) I)
