-- How a caller reads what the face answers: the number 0 says that the call is answered, any other that it is refused with that number, and 5, 10 and
-- 11 that an entry is bad, with its row and its column.
--   has_place k        a refusal with the number k has a row and a column
--   refusal_in x       the refusal that the numbers x say
--   read_as x r        the result r where the number of x is 0, else the refusal in x
--   AllZero xs        every number of xs is 0
--   Placeless x       row and column are 0 where the number has no place
--   Alone x xs        that, and a refusal stands alone: beside it the other numbers xs of the answer are 0
--   standing_in b      proved where b is true, else short
--   no_inverse         what an answer has in the place of an inverse where there is none
--   inverse_in x       none where x is that, else the inverse x
--   period_in t        none where t is 0, else the period t
--   stand_numbers r    what a stand's answer has beside its refusal, the mark proved as 1
--   outcome_in r       what a stand's answer says where it is not refused
--   inverse_read, order_read, image_read, stand_read, chain_read, period_read, sheet_read, write_read   the answer of each call, read off what its function returns
-- Assumes nothing.
use Rattle.std.specs.Prelude.{◌≡◌, Bool, true, false, ◌||◌, cond, List, [], ◌∷◌, ℕ, zero, suc, eqb}
use Rattle.std.specs.Prelude.{Option, None, Some}
use Rattle.meaning.specs.Stand.{Standing, proved, short, Outcome}
use Rattle.meaning.specs.Refusal.{Refusal, alone, at}
use Rattle.meaning.specs.Calls.{Answer, refused, given}
use Rattle.reasons.specs.declared.Numbers.{Numbers}
use Rattle.kinarsop.specs.declared.InverseAnswer.{InverseAnswer}
use Rattle.kinarsop.specs.declared.OrderAnswer.{OrderAnswer}
use Rattle.kinarsop.specs.declared.StandAnswer.{StandAnswer}
use Rattle.kinarsop.specs.declared.ChainAnswer.{ChainAnswer}
use Rattle.kinarsop.specs.declared.PeriodAnswer.{PeriodAnswer}
use Rattle.kinarsop.specs.declared.SheetAnswer.{SheetAnswer}
use Rattle.kinarsop.specs.declared.WriteAnswer.{WriteAnswer}

abbrev pub has_place : ℕ → Bool
has_place k = eqb k 5 || (eqb k 10 || eqb k 11)

abbrev pub refusal_in : Numbers → Refusal
refusal_in x = cond (has_place x.number) (at x.number x.row x.column) (alone x.number)

abbrev pub read_as : {A : Type 0} → Numbers → A → Answer A
read_as x r = cond (eqb x.number 0) (given r) (refused (refusal_in x))

abbrev pub AllZero : List ℕ → Type 0
AllZero [] = Unit {0}
AllZero (x ∷ xs) = (x ≡ 0) × AllZero xs

abbrev pub Placeless : Numbers → Type 0
Placeless x = has_place x.number ≡ false → AllZero (x.row ∷ x.column ∷ [])

abbrev pub Alone : Numbers → List ℕ → Type 0
Alone x xs = Placeless x × (¬ (x.number ≡ 0) → AllZero xs)

abbrev pub standing_in : Bool → Standing
standing_in true = proved
standing_in false = short

abbrev pub no_inverse : ℕ
no_inverse = 255

abbrev pub inverse_in : ℕ → Option ℕ
inverse_in x = cond (eqb x no_inverse) None (Some x)

abbrev pub period_in : ℕ → Option ℕ
period_in zero = None
period_in (suc t) = Some (suc t)

abbrev pub inverse_read : InverseAnswer → Answer (Option ℕ)
inverse_read r = read_as r.refusal (inverse_in r.inverse)

abbrev pub order_read : OrderAnswer → Answer ℕ
order_read r = read_as r.refusal r.degree

abbrev pub image_read : Numbers → Answer (Unit {0})
image_read x = read_as x tt

abbrev pub stand_numbers : StandAnswer → List ℕ
stand_numbers r = cond r.proved 1 0 ∷ r.degree ∷ r.taken ∷ r.spent ∷ r.witness ∷ []

abbrev pub outcome_in : StandAnswer → Outcome
outcome_in r = record { standing = standing_in r.proved; degree = r.degree; taken = r.taken; spent = r.spent; witness = r.witness }

abbrev pub stand_read : StandAnswer → Answer Outcome
stand_read r = read_as r.refusal (outcome_in r)

abbrev pub chain_read : ChainAnswer → Answer ℕ
chain_read r = read_as r.refusal r.stages

abbrev pub period_read : PeriodAnswer → Answer (Option ℕ)
period_read r = read_as r.refusal (period_in r.period)

abbrev pub sheet_read : SheetAnswer → Answer ℕ
sheet_read r = read_as r.refusal r.length

abbrev pub write_read : WriteAnswer → Answer ℕ
write_read r = read_as r.refusal r.length
