-- One result for every input, of the code's own answers: an answer is known by what 01 calls it, so any two that a call's contract permits are the
-- same, and so are the bytes that it leaves in the lent buffers.
--   reason_in q     the reason that a refusal of the calls has
--   reason_only    so a reason is known by its refusal
--   refused_only, given_only   a refused answer is known by its reason's refusal, a result by what is given
--   counts_path, given_counts   what a stand counts is known by its fields, also where it is given with a standing and a witness
--   proved_short   the two standings differ
--   answer_only    answers with the same number or result are the same
--   outcome_only, stood_only   and so are a stand's
--   inverse_once, order_once, image_once, stand_once, chain_once, period_once, write_once
--                  any two permitted answers and buffer contents are the same
-- Assumes nothing.
use mathlib.Core.Path.{◌≡◌, refl, sym, ap, ap₂, ◌∙◌}
use mathlib.Core.Bool.{cond}
use mathlib.Core.List.{List}
use Rattle.std.specs.Prelude.{Option, Result, Ok, Err}
use Prim.Native.Nat.{ℕ}
use native.Mathlib.Omega.{arith}
use lib.Dec.{eqb}
use Rattle.meaning.specs.Refusal.{Refusal, alone, at}
use Rattle.meaning.specs.Stand.{Standing, proved, short, Outcome}
use Rattle.meaning.specs.Calls.{Answer, refused, given, InverseCall, OrderCall, ImageCall, StandCall, ChainCall, PeriodCall}
use Rattle.meaning.specs.Writing.{WriteCall}
use Rattle.meaning.proofs.Called.{refused_given}
use Rattle.promises.proofs.Calls.{inverse_unique, order_unique, image_unique, stand_unique, chain_unique, period_unique, write_unique}
use Rattle.reasons.specs.Reasons.{as_refusal, answer_of}
use Rattle.reasons.specs.declared.Reason.{Reason}
use Rattle.reasons.specs.declared.Reason.TheVariants as reason
use Rattle.calls.specs.Answers.{counted_as, outcome_of, stood_of}
use Rattle.calls.specs.declared.Counts.{Counts}
use Rattle.calls.specs.declared.Stood.{Stood}
use Rattle.calls.specs.declared.Stood.TheVariants as stood

-- a number that is no reason's is read as some reason: only refusals that the code makes are read back
reason_in : Refusal → Reason
reason_in (alone k) =
    cond (eqb k 1) reason.NoPrime (cond (eqb k 2) reason.NoSize (cond (eqb k 3) reason.NoMatrix
    (cond (eqb k 4) reason.NoRows (cond (eqb k 7) reason.NoPolynomial (cond (eqb k 9) reason.NoAllowance reason.NoRoom)))))
reason_in (at k r c) = cond (eqb k 5) (reason.MatrixEntry (record { row = r; column = c }))
    (cond (eqb k 10) (reason.RowEntry (record { row = r; column = c })) (reason.Coefficient c))

reason_read : (x : Reason) → reason_in (as_refusal x) ≡ x
unfolding reason_in
reason_read reason.NoPrime = refl
reason_read reason.NoSize = refl
reason_read reason.NoMatrix = refl
reason_read reason.NoRows = refl
reason_read reason.NoPolynomial = refl
reason_read (reason.MatrixEntry c) = refl
reason_read (reason.RowEntry c) = refl
reason_read (reason.Coefficient c) = refl
reason_read reason.NoAllowance = refl
reason_read reason.NoRoom = refl

reason_only : (x y : Reason) → as_refusal x ≡ as_refusal y → x ≡ y
reason_only x y e = sym (reason_read x) ∙ ap reason_in e ∙ reason_read y

refusal_only : (A : Type 0) (k j : Refusal) → ◌≡◌ {A = Answer A} (refused k) (refused j) → k ≡ j
refusal_only A k j e = cc

pub refused_only : (A : Type 0) (x y : Reason) → ◌≡◌ {A = Answer A} (refused (as_refusal x)) (refused (as_refusal y)) → x ≡ y
refused_only A x y e = reason_only x y (refusal_only A (as_refusal x) (as_refusal y) e)

pub given_only : {A : Type 0} (r s : A) → given r ≡ given s → r ≡ s
given_only r s e = cc

pub answer_only : {A : Type 0} (r s : Result A Reason) → answer_of r ≡ answer_of s → r ≡ s
answer_only (Ok a) (Ok b) e = ap Ok (given_only a b e)
answer_only (Ok a) (Err k) e = absurd (refused_given (as_refusal k) a (sym e))
answer_only (Err k) (Ok b) e = absurd (refused_given (as_refusal k) b e)
answer_only {A} (Err k) (Err j) e = ap Err (refused_only A k j e)

counts_path : (c d : Counts) → c.degree ≡ d.degree → c.taken ≡ d.taken → c.spent ≡ d.spent → c ≡ d
counts_path c d a b q = λ i. record { degree = a i; taken = b i; spent = q i }

-- the same counts, where they are given with any standing and witness
given_counts : (s t : Standing) (c d : Counts) (w u : ℕ) → counted_as s c w ≡ counted_as t d u → c ≡ d
given_counts s t c d w u z = counts_path c d (ap (λ o. o.degree) z) (ap (λ o. o.taken) z) (ap (λ o. o.spent) z)

pub proved_short : ¬ (proved ≡ short)
proved_short e = let z : ◌≡◌ {A = ℕ} 0 1 = cc in omega arith

outcome_only : (r s : Stood) → outcome_of r ≡ outcome_of s → r ≡ s
outcome_only (stood.Proved c) (stood.Proved d) e = ap stood.Proved (given_counts proved proved c d 0 0 e)
outcome_only (stood.Proved c) (stood.Short d w) e = absurd (proved_short (ap (λ o. o.standing) e))
outcome_only (stood.Short c w) (stood.Proved d) e = absurd (proved_short (sym (ap (λ o. o.standing) e)))
outcome_only (stood.Short c w) (stood.Short d u) e = ap₂ stood.Short (given_counts short short c d w u e) (ap (λ o. o.witness) e)

pub stood_only : (r s : Result Stood Reason) → stood_of r ≡ stood_of s → r ≡ s
stood_only (Ok r) (Ok s) e = ap Ok (outcome_only r s (given_only _ _ e))
stood_only (Ok r) (Err k) e = absurd (refused_given (as_refusal k) _ (sym e))
stood_only (Err k) (Ok s) e = absurd (refused_given (as_refusal k) _ e)
stood_only (Err k) (Err j) e = ap Err (refused_only Outcome k j e)

-- the calls
pub inverse_once : (r s : Result (Option ℕ) Reason) {p a : ℕ} → InverseCall p a (answer_of r) → InverseCall p a (answer_of s) → r ≡ s
inverse_once r s A B = answer_only r s (inverse_unique A B)

pub order_once : (r s : Result ℕ Reason) {p n : ℕ} {m v old x y : List ℕ} → OrderCall p n m v old (answer_of r) x → OrderCall p n m v old (answer_of s) y
    → (r ≡ s) × (x ≡ y)
order_once r s A B = let (e, f) = order_unique A B in (answer_only r s e, f)

pub image_once : (r s : Result (Unit {0}) Reason) (p n : ℕ) (m v f : List ℕ) {old x y : List ℕ} → ImageCall p n m v f old (answer_of r) x
    → ImageCall p n m v f old (answer_of s) y → (r ≡ s) × (x ≡ y)
image_once r s p n m v f A B = let (e, d) = image_unique p n m v f A B in (answer_only r s e, d)

pub stand_once : (r s : Result Stood Reason) {p n : ℕ} {m cs : List ℕ} {a : ℕ} {old x y : List ℕ × List ℕ} → StandCall p n m cs a old (stood_of r) x
    → StandCall p n m cs a old (stood_of s) y → (r ≡ s) × (x ≡ y)
stand_once r s A B = let (e, f) = stand_unique A B in (stood_only r s e, f)

pub chain_once : (r s : Result ℕ Reason) {p n : ℕ} {m cs : List ℕ} {old x y : List ℕ × List ℕ} → ChainCall p n m cs old (answer_of r) x
    → ChainCall p n m cs old (answer_of s) y → (r ≡ s) × (x ≡ y)
chain_once r s A B = let (e, f) = chain_unique A B in (answer_only r s e, f)

pub period_once : (r s : Result (Option ℕ) Reason) (p n : ℕ) (m : List ℕ) → PeriodCall p n m (answer_of r) → PeriodCall p n m (answer_of s) → r ≡ s
period_once r s p n m A B = answer_only r s (period_unique p n m A B)

pub write_once : (r s : Result ℕ Reason) (p n : ℕ) (m cs : List ℕ) (a : ℕ) {old x y : List ℕ} → WriteCall p n m cs a old (answer_of r) x
    → WriteCall p n m cs a old (answer_of s) y → (r ≡ s) × (x ≡ y)
write_once r s p n m cs a A B = let (e, f) = write_unique p n m cs a A B in (answer_only r s e, f)
