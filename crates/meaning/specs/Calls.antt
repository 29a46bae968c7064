-- The calls (01, "The calls"), refused ones included: for each input, what is answered and what the lent buffers hold afterwards.
--   Answer A           a refusal, or a result
--   Called q R old answer new   a call with the refusal q: refused with it, and no lent byte changes; or a result that R permits. `old` and `new`
--                      are what the lent buffers hold before and after
--   InverseCall p a    the inverse of the scalar a, or none
--   OrderResult, OrderCall   the order of one row: degree returned, n + 1 coefficients written
--   ImageCall          v·f(M): n entries written
--   StandResult, StandCall   the stand: polynomial buffer and witness buffer
--   ChainResult, ChainCall   the chain: product buffer and stage buffer
--   PeriodCall         the period
-- Assumes nothing.
use Rattle.std.specs.Prelude.{◌≡◌, List, ℕ, suc, length}
use Rattle.std.specs.Prelude.{Option, None, Some}
use Rattle.algebra.specs.Poly.{Poly, coef}
use Rattle.algebra.specs.Orders.{WithDegree, product}
use Rattle.meaning.specs.Bytes.{row, poly_of, times, bytes, write, padded}
use Rattle.meaning.specs.Polynomial.{image, IsOrder}
use Rattle.meaning.specs.Stand.{Outcome, IsStand, witness_row}
use Rattle.meaning.specs.Chain.{IsChain, stage_bytes, stage_room}
use Rattle.meaning.specs.Inverse.{IsInverse}
use Rattle.meaning.specs.Period.{IsPeriod}
use Rattle.meaning.specs.Refusal.{Refusal, inverse_refusal, order_refusal, image_refusal, stand_refusal, chain_refusal, period_refusal}

pub data Answer (A : Type 0) : Type 0 where
  refused : Refusal → Answer A
  given : A → Answer A

pub record Called {A B : Type 0} (q : Option Refusal) (R : A → B → Type 0) (old : B) (answer : Answer A) (new : B) : Type 0 where
  pub refusal : (k : Refusal) → q ≡ Some k → (answer ≡ refused k) × (new ≡ old)
  pub result : q ≡ None → (r : A) × (answer ≡ given r) × R r new

-- calls that lend no buffer have `Unit` for it
abbrev pub InverseCall : ℕ → ℕ → Answer (Option ℕ) → Type 0
InverseCall p a answer = Called (inverse_refusal p a) (λ r new. IsInverse p a r) tt answer (tt {0})

pub record OrderResult (p n : ℕ) (m v old : List ℕ) (degree : ℕ) (new : List ℕ) : Type 0 where
  pub poly : Poly p
  pub order : IsOrder p n m (row p v) degree poly
  pub buffer : new ≡ write (bytes (suc n) (coef poly)) old

abbrev pub OrderCall : ℕ → ℕ → List ℕ → List ℕ → List ℕ → Answer ℕ → List ℕ → Type 0
OrderCall p n m v old = Called (order_refusal p n m v old) (OrderResult p n m v old) old

abbrev pub ImageCall : ℕ → ℕ → List ℕ → List ℕ → List ℕ → List ℕ → Answer (Unit {0}) → List ℕ → Type 0
ImageCall p n m v f old =
    Called (image_refusal p n m v f old) (λ r new. new ≡ write (bytes n (image p n m (poly_of p f) (row p v))) old) old

pub record StandResult (p n : ℕ) (m cs : List ℕ) (a : ℕ) (old : List ℕ × List ℕ) (r : Outcome) (new : List ℕ × List ℕ) : Type 0 where
  pub poly : Poly p
  pub stand : IsStand p n m cs a r poly
  pub polynomial : new.0 ≡ write (bytes (suc n) (coef poly)) old.0
  pub witness : new.1 ≡ write (bytes n (witness_row (times p n m) poly r.standing r.witness)) old.1

abbrev pub StandCall : ℕ → ℕ → List ℕ → List ℕ → ℕ → List ℕ × List ℕ → Answer Outcome → List ℕ × List ℕ → Type 0
StandCall p n m cs a old = Called (stand_refusal p n m cs old.0 old.1) (StandResult p n m cs a old) old

pub record ChainResult (p n : ℕ) (m cs : List ℕ) (old : List ℕ × List ℕ) (count : ℕ) (new : List ℕ × List ℕ) : Type 0 where
  pub stages : List (WithDegree p)
  pub chain : IsChain p n m cs stages
  pub number : count ≡ length stages
  pub product : new.0 ≡ write (bytes (suc n) (coef (product stages))) old.0
  pub record_content : new.1 ≡ write (padded (stage_room n) (stage_bytes stages)) old.1

abbrev pub ChainCall : ℕ → ℕ → List ℕ → List ℕ → List ℕ × List ℕ → Answer ℕ → List ℕ × List ℕ → Type 0
ChainCall p n m cs old = Called (chain_refusal p n m cs old.0 old.1) (ChainResult p n m cs old) old

abbrev pub PeriodCall : ℕ → ℕ → List ℕ → Answer (Option ℕ) → Type 0
PeriodCall p n m answer = Called (period_refusal p n m) (λ r new. IsPeriod p n m r) tt answer (tt {0})
