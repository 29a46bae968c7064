-- What a refusal says (02, #102), of what a C or a Rust program gets: the numbers of a refused call are those of a refusal that is explained. Of the
-- code's own answers the same is `order_explained` of promises and its like, as they stand: `answer_of (Err r)` is `refused (as_refusal r)`.
--   read_refused   where the number is not 0, an answer is read as its refusal
--   face_inverse_explained, face_order_explained, face_image_explained, face_stand_explained, face_chain_explained, face_period_explained,
--   face_write_explained
-- Assumes nothing.
use mathlib.Core.Path.{◌≡◌, subst}
use mathlib.Core.List.{List, [], ◌∷◌}
use Prim.Native.Nat.{ℕ}
use borrow.Author.Tests.{ne_eqb}
use Rattle.meaning.specs.Bounds.{most_candidates}
use Rattle.meaning.specs.Calls.{refused, InverseCall, OrderCall, ImageCall, StandCall, ChainCall, PeriodCall}
use Rattle.meaning.specs.Writing.{WriteCall}
use Rattle.promises.specs.Refused.{Explained}
use Rattle.promises.proofs.Refused.{inverse_explained, order_explained, image_explained, stand_explained, chain_explained, period_explained, write_explained}
use Rattle.reasons.specs.declared.Numbers.{Numbers}
use Rattle.kinarsop.specs.Face.{refusal_in, read_as, inverse_read, order_read, image_read, stand_read, chain_read, period_read, write_read}
use Rattle.kinarsop.specs.declared.InverseAnswer.{InverseAnswer}
use Rattle.kinarsop.specs.declared.OrderAnswer.{OrderAnswer}
use Rattle.kinarsop.specs.declared.StandAnswer.{StandAnswer}
use Rattle.kinarsop.specs.declared.ChainAnswer.{ChainAnswer}
use Rattle.kinarsop.specs.declared.PeriodAnswer.{PeriodAnswer}
use Rattle.kinarsop.specs.declared.WriteAnswer.{WriteAnswer}

read_refused : {A : Type 0} (x : Numbers) (r : A) → ¬ (x.number ≡ 0) → read_as x r ≡ refused (refusal_in x)
read_refused x r h = rw (ne_eqb x.number 0 h)

pub face_inverse_explained : (r : InverseAnswer) {p a : ℕ} → InverseCall p a (inverse_read r) → ¬ (r.refusal.number ≡ 0)
    → Explained p 0 [] 0 [] (a ∷ []) (refusal_in r.refusal)
face_inverse_explained r {p} {a} C h = inverse_explained (subst (InverseCall p a) (read_refused r.refusal _ h) C)

pub face_order_explained : (r : OrderAnswer) {p n : ℕ} {m v old new : List ℕ} → OrderCall p n m v old (order_read r) new → ¬ (r.refusal.number ≡ 0)
    → Explained p n m 1 v [] (refusal_in r.refusal)
face_order_explained r {p} {n} {m} {v} {old} {new} C h =
    order_explained (subst (λ x. OrderCall p n m v old x new) (read_refused r.refusal _ h) C)

pub face_image_explained : (r : Numbers) (p n : ℕ) (m v f : List ℕ) {old new : List ℕ} → ImageCall p n m v f old (image_read r) new → ¬ (r.number ≡ 0)
    → Explained p n m 1 v f (refusal_in r)
face_image_explained r p n m v f {old} {new} C h =
    image_explained {p = p} {n = n} {m = m} {v = v} {f = f} (subst (λ x. ImageCall p n m v f old x new) (read_refused r tt h) C)

pub face_stand_explained : (r : StandAnswer) {p n a : ℕ} {m cs : List ℕ} {old new : List ℕ × List ℕ} → StandCall p n m cs a old (stand_read r) new
    → ¬ (r.refusal.number ≡ 0) → Explained p n m most_candidates cs [] (refusal_in r.refusal)
face_stand_explained r {p} {n} {a} {m} {cs} {old} {new} C h =
    stand_explained (subst (λ x. StandCall p n m cs a old x new) (read_refused r.refusal _ h) C)

pub face_chain_explained : (r : ChainAnswer) {p n : ℕ} {m cs : List ℕ} {old new : List ℕ × List ℕ} → ChainCall p n m cs old (chain_read r) new
    → ¬ (r.refusal.number ≡ 0) → Explained p n m most_candidates cs [] (refusal_in r.refusal)
face_chain_explained r {p} {n} {m} {cs} {old} {new} C h =
    chain_explained (subst (λ x. ChainCall p n m cs old x new) (read_refused r.refusal _ h) C)

pub face_period_explained : (r : PeriodAnswer) (p n : ℕ) (m : List ℕ) → PeriodCall p n m (period_read r) → ¬ (r.refusal.number ≡ 0)
    → Explained p n m 0 [] [] (refusal_in r.refusal)
face_period_explained r p n m C h = period_explained {p = p} {n = n} {m = m} (subst (PeriodCall p n m) (read_refused r.refusal _ h) C)

pub face_write_explained : (r : WriteAnswer) (p n : ℕ) (m cs : List ℕ) (a : ℕ) {old new : List ℕ} → WriteCall p n m cs a old (write_read r) new
    → ¬ (r.refusal.number ≡ 0) → Explained p n m most_candidates cs [] (refusal_in r.refusal)
face_write_explained r p n m cs a {old} {new} C h =
    write_explained p n m cs a (subst (λ x. WriteCall p n m cs a old x new) (read_refused r.refusal _ h) C)
