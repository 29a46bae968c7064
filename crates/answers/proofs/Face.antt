-- One result for every input, of what the face returns: read alike, and nothing beside a refusal, two answers are the same in every field.
--   numbers_in, numbers_path, numbers_read   the numbers of a refusal are known by how it is read
--   answered_read, read_answered   with the number 0 an answer is read as its result, and only with that
--   read_only          two answers that are read alike have the same refusal, and the same result where there is none
--   alone_path         a number that is 0 beside a refusal is known by the result
--   inverse_in-only, inverse_in_some   an inverse is known by how it is read
--   period_only, standing_only, marked_false   and so are a period, a standing and a mark
--   field_path         so a struct of a refusal and one number more is known by how it is read
--   stand_fields       and so is the stand's
--   face_inverse_once, face_order_once, face_image_once, face_stand_once, face_chain_once, face_period_once, face_sheet_once,
--   face_write_once
--                      any two permitted answers and buffer contents are the same
-- Assumes nothing.
use mathlib.Core.Path.{◌≡◌, refl, sym, ap, ap₂, ◌∙◌}
use mathlib.Core.Bool.{Bool, true, false, cond}
use mathlib.Core.List.{List, [], ◌∷◌}
use Rattle.std.specs.Prelude.{Some}
use Rattle.std.proofs.lemmas.Option.{none-some, same_Some}
use Prim.Native.Nat.{ℕ, zero, suc}
use native.Mathlib.Omega.{arith}
use lib.Dec.{eqb}
use borrow.Author.Tests.{eqb-true, eq-eqb}
use Rattle.meaning.specs.Stand.{Outcome}
use Rattle.meaning.specs.Refusal.{alone}
use Rattle.meaning.specs.Calls.{Answer, refused, given, InverseCall, OrderCall, ImageCall, StandCall, ChainCall, PeriodCall}
use Rattle.meaning.specs.Sheet.{SheetCall}
use Rattle.meaning.specs.Writing.{WriteCall}
use Rattle.meaning.proofs.Called.{refused_given}
use Rattle.promises.proofs.Calls.{inverse_unique, order_unique, image_unique, stand_unique, chain_unique, period_unique, write_unique}
use Rattle.reasons.specs.Reasons.{numbers_of}
use Rattle.reasons.specs.declared.Numbers.{Numbers}
use Rattle.kinarsop.specs.Face.{has_place, refusal_in, read_as, Placeless, Alone, standing_in, no_inverse, inverse_in, period_in}
use Rattle.kinarsop.specs.Face.{inverse_read, order_read, image_read, stand_numbers, outcome_in, stand_read, chain_read, period_read, sheet_read, write_read}
use Rattle.kinarsop.specs.declared.InverseAnswer.{InverseAnswer}
use Rattle.kinarsop.specs.declared.OrderAnswer.{OrderAnswer}
use Rattle.kinarsop.specs.declared.StandAnswer.{StandAnswer}
use Rattle.kinarsop.specs.declared.ChainAnswer.{ChainAnswer}
use Rattle.kinarsop.specs.declared.PeriodAnswer.{PeriodAnswer}
use Rattle.kinarsop.specs.declared.SheetAnswer.{SheetAnswer}
use Rattle.kinarsop.specs.declared.WriteAnswer.{WriteAnswer}
use Rattle.answers.proofs.Unique.{given_only, proved_short}
use Rattle.answers.proofs.Sheet.{sheet_call_unique}

-- what the numbers of an answer are, by how it is read
numbers_in : {A : Type 0} → Answer A → Numbers
numbers_in (given r) = numbers_of (alone 0)
numbers_in (refused q) = numbers_of q

numbers_path : (x : Numbers) (k : ℕ) → x.number ≡ k → Placeless x → has_place k ≡ false → x ≡ numbers_of (alone k)
numbers_path x k e h f = let (a, (b, _)) = h (ap has_place e ∙ f) in λ i. record { number = e i; row = a i; column = b i }

numbers_read : {A : Type 0} (x : Numbers) (r : A) → Placeless x → x ≡ numbers_in (read_as x r)
unfolding numbers_in
numbers_read x r h = go (eqb x.number 0) (has_place x.number) refl refl
  where
    go : (s t : Bool) → eqb x.number 0 ≡ s → has_place x.number ≡ t → x ≡ numbers_in (read_as x r)
    go true t a b = rw a (numbers_path x 0 (eqb-true x.number 0 a) h refl)
    go false true a b = rw (a, b)
    go false false a b = rw (a, b) (numbers_path x x.number refl h b)

-- with the number 0 an answer is its result, and only with that
answered_read : {A : Type 0} (x : Numbers) (r : A) → x.number ≡ 0 → read_as x r ≡ given r
answered_read x r z = rw (eq-eqb x.number 0 z)

pub read_answered : {A : Type 0} (x : Numbers) (r s : A) → read_as x r ≡ given s → (x.number ≡ 0) × (r ≡ s)
read_answered x r s e = go (eqb x.number 0) refl
  where
    go : (t : Bool) → eqb x.number 0 ≡ t → (x.number ≡ 0) × (r ≡ s)
    go true a = (eqb-true x.number 0 a, given_only r s (rw a at e))
    go false a = absurd (refused_given (refusal_in x) s (rw a at e))

read_only : {A : Type 0} (x y : Numbers) (r s : A) → Placeless x → Placeless y → read_as x r ≡ read_as y s → (x ≡ y) × (x.number ≡ 0 → r ≡ s)
read_only x y r s h k e =
    let q = numbers_read x r h ∙ ap numbers_in e ∙ sym (numbers_read y s k) in
    (q, λ z. (read_answered x r s (e ∙ answered_read y s (sym (ap (λ n. n.number) q) ∙ z))).1)

alone_path : (x y : Numbers) (a b : ℕ) → x ≡ y → (x.number ≡ 0 → a ≡ b) → Alone x (a ∷ []) → Alone y (b ∷ []) → a ≡ b
alone_path x y a b e h A B = go x.number refl
  where
    go : (k : ℕ) → x.number ≡ k → a ≡ b
    go zero z = h z
    go (suc k) z = (A.1 (λ w. omega (arith, z, w))).0 ∙ sym (B.1 (λ w. omega (arith, z, ap (λ n. n.number) e, w))).0

field_path : {S : Type 0} (make : Numbers → ℕ → S) (x y : Numbers) (a b : ℕ) → (x ≡ y) × (x.number ≡ 0 → a ≡ b) → Alone x (a ∷ []) → Alone y (b ∷ [])
    → make x a ≡ make y b
field_path make x y a b (e, h) A B = ap₂ make e (alone_path x y a b e h A B)

pub inverse_in-only : (x y : ℕ) → inverse_in x ≡ inverse_in y → x ≡ y
inverse_in-only x y e = go (eqb x no_inverse) (eqb y no_inverse) refl refl
  where
    go : (s t : Bool) → eqb x no_inverse ≡ s → eqb y no_inverse ≡ t → x ≡ y
    go true true a b = eqb-true x no_inverse a ∙ sym (eqb-true y no_inverse b)
    go true false a b = absurd (none-some y (rw (a, b) at e))
    go false true a b = absurd (none-some x (sym (rw (a, b) at e)))
    go false false a b = same_Some x y (rw (a, b) at e)

pub inverse_in_some : (x b : ℕ) → inverse_in x ≡ Some b → x ≡ b
inverse_in_some x b e = go (eqb x no_inverse) refl
  where
    go : (s : Bool) → eqb x no_inverse ≡ s → x ≡ b
    go true a = absurd (none-some b (rw a at e))
    go false a = same_Some x b (rw a at e)

period_only : (t u : ℕ) → period_in t ≡ period_in u → t ≡ u
period_only zero zero e = refl
period_only zero (suc u) e = absurd (none-some (suc u) e)
period_only (suc t) zero e = absurd (none-some (suc t) (sym e))
period_only (suc t) (suc u) e = same_Some _ _ e

standing_only : (b d : Bool) → standing_in b ≡ standing_in d → b ≡ d
standing_only true true e = refl
standing_only true false e = absurd (proved_short e)
standing_only false true e = absurd (proved_short (sym e))
standing_only false false e = refl

marked_false : (b : Bool) → ◌≡◌ {A = ℕ} (cond b 1 0) 0 → b ≡ false
marked_false true e = absurd (omega (arith, e))
marked_false false e = refl

stand_fields : (r s : StandAnswer) → stand_read r ≡ stand_read s → Alone r.refusal (stand_numbers r) → Alone s.refusal (stand_numbers s) → r ≡ s
stand_fields r s e A B = go r.refusal.number refl
  where
    told : (r.refusal ≡ s.refusal) × (r.refusal.number ≡ 0 → outcome_in r ≡ outcome_in s)
    told = read_only r.refusal s.refusal (outcome_in r) (outcome_in s) A.0 B.0 e

    go : (k : ℕ) → r.refusal.number ≡ k → r ≡ s
    go zero z =
        let (a, h) = told in
        let o = h z in
        let b = standing_only _ _ (ap (λ (o : Outcome). o.standing) o) in
        λ i. record {
          refusal = a i;
          proved = b i;
          degree = (o i).degree;
          taken = (o i).taken;
          spent = (o i).spent;
          witness = (o i).witness;
        }
    go (suc k) z =
        let a = told.0 in
        let x = A.1 (λ y. omega (arith, z, y)) in
        let y = B.1 (λ w. omega (arith, z, ap (λ n. n.number) a, w)) in
        let b = marked_false _ x.0 ∙ sym (marked_false _ y.0) in
        let d = x.1.0 ∙ sym y.1.0 in
        let t = x.1.1.0 ∙ sym y.1.1.0 in
        let q = x.1.1.1.0 ∙ sym y.1.1.1.0 in
        let w = x.1.1.1.1.0 ∙ sym y.1.1.1.1.0 in
        λ i. record { refusal = a i; proved = b i; degree = d i; taken = t i; spent = q i; witness = w i }

-- the calls
pub face_inverse_once : (r s : InverseAnswer) {p a : ℕ} → InverseCall p a (inverse_read r) → Alone r.refusal (r.inverse ∷ [])
    → InverseCall p a (inverse_read s) → Alone s.refusal (s.inverse ∷ []) → r ≡ s
face_inverse_once r s C A D B =
    let (k, h) = read_only r.refusal s.refusal _ _ A.0 B.0 (inverse_unique C D) in
    field_path (λ k x. record { refusal = k; inverse = x }) _ _ _ _ (k, λ z. inverse_in-only _ _ (h z)) A B

pub face_order_once : (r s : OrderAnswer) {p n : ℕ} {m v old x y : List ℕ} → OrderCall p n m v old (order_read r) x → Alone r.refusal (r.degree ∷ [])
    → OrderCall p n m v old (order_read s) y → Alone s.refusal (s.degree ∷ []) → (r ≡ s) × (x ≡ y)
face_order_once r s C A D B =
    let (e, f) = order_unique C D in
    (field_path (λ k x. record { refusal = k; degree = x }) _ _ _ _ (read_only r.refusal s.refusal _ _ A.0 B.0 e) A B, f)

pub face_image_once : (k j : Numbers) (p n : ℕ) (m v f : List ℕ) {old x y : List ℕ} → ImageCall p n m v f old (image_read k) x → Alone k []
    → ImageCall p n m v f old (image_read j) y → Alone j [] → (k ≡ j) × (x ≡ y)
face_image_once k j p n m v f C A D B = let (e, d) = image_unique p n m v f C D in ((read_only k j tt tt A.0 B.0 e).0, d)

pub face_stand_once : (r s : StandAnswer) {p n : ℕ} {m cs : List ℕ} {a : ℕ} {old x y : List ℕ × List ℕ} → StandCall p n m cs a old (stand_read r) x
    → Alone r.refusal (stand_numbers r) → StandCall p n m cs a old (stand_read s) y → Alone s.refusal (stand_numbers s) → (r ≡ s) × (x ≡ y)
face_stand_once r s C A D B = let (e, f) = stand_unique C D in (stand_fields r s e A B, f)

pub face_chain_once : (r s : ChainAnswer) {p n : ℕ} {m cs : List ℕ} {old x y : List ℕ × List ℕ} → ChainCall p n m cs old (chain_read r) x
    → Alone r.refusal (r.stages ∷ []) → ChainCall p n m cs old (chain_read s) y → Alone s.refusal (s.stages ∷ []) → (r ≡ s) × (x ≡ y)
face_chain_once r s C A D B =
    let (e, f) = chain_unique C D in
    (field_path (λ k x. record { refusal = k; stages = x }) _ _ _ _ (read_only r.refusal s.refusal _ _ A.0 B.0 e) A B, f)

pub face_period_once : (r s : PeriodAnswer) (p n : ℕ) (m : List ℕ) → PeriodCall p n m (period_read r) → Alone r.refusal (r.period ∷ [])
    → PeriodCall p n m (period_read s) → Alone s.refusal (s.period ∷ []) → r ≡ s
face_period_once r s p n m C A D B =
    let (k, h) = read_only r.refusal s.refusal _ _ A.0 B.0 (period_unique p n m C D) in
    field_path (λ k x. record { refusal = k; period = x }) _ _ _ _ (k, λ z. period_only _ _ (h z)) A B

pub face_sheet_once : (r s : SheetAnswer) {file old x y : List ℕ} → SheetCall file old (sheet_read r) x → Alone r.refusal (r.length ∷ [])
    → SheetCall file old (sheet_read s) y → Alone s.refusal (s.length ∷ []) → (r ≡ s) × (x ≡ y)
face_sheet_once r s C A D B =
    let (e, f) = sheet_call_unique C D in
    (field_path (λ k x. record { refusal = k; length = x }) _ _ _ _ (read_only r.refusal s.refusal _ _ A.0 B.0 e) A B, f)

pub face_write_once : (r s : WriteAnswer) (p n : ℕ) (m cs : List ℕ) (a : ℕ) {old x y : List ℕ} → WriteCall p n m cs a old (write_read r) x
    → Alone r.refusal (r.length ∷ []) → WriteCall p n m cs a old (write_read s) y → Alone s.refusal (s.length ∷ []) → (r ≡ s) × (x ≡ y)
face_write_once r s p n m cs a C A D B =
    let (e, f) = write_unique p n m cs a C D in
    (field_path (λ k x. record { refusal = k; length = x }) _ _ _ _ (read_only r.refusal s.refusal _ _ A.0 B.0 e) A B, f)
