-- What the lines of a sheet promise.
--   LinesOf c xs           xs are the lines of the sheet of the case c
--   Has xs w l             a line of xs has the word w and the numbers l
--   MinimalIn p n m l      l lists the minimal polynomial of the matrix m, whole, up to its leading 1
--   DivisorIn p n m xs l   l lists a monic polynomial up to its leading 1. It divides the minimal polynomial and is another one; and a WITNESS line of xs
--                          has the first unit row that it does not send to zero, and the n entries of that row's image
-- Assumes nothing.
use Rattle.std.specs.Prelude.{◌≡◌, ◌⊎◌, List, [], ◌∷◌, ℕ, suc}
use Prim.Native.String.{String}
use Rattle.algebra.specs.Row.{Monic}
use Rattle.algebra.specs.Poly.{Poly, coef, act, ◌∣◌}
use Rattle.meaning.specs.Bytes.{times, e, bytes}
use Rattle.meaning.specs.Polynomial.{IsMinimal}
use Rattle.meaning.specs.Case.{Case, matrix_bytes, candidate_bytes, allowance_of}
use Rattle.meaning.specs.Line.{Line}
use Rattle.meaning.specs.Sheet.{SheetLines}
use Rattle.meaning.specs.Stand.{FirstUnsent}

abbrev pub LinesOf : Case → List Line → Type 0
LinesOf c = SheetLines c.p c.n (matrix_bytes c) (candidate_bytes c) (allowance_of c)

abbrev pub Has : List Line → String → List ℕ → Type 0
Has [] w l = ⊥
Has (x ∷ xs) w l = ((x.word ≡ w) × (x.numbers ≡ l)) ⊎ Has xs w l

pub record MinimalIn (p n : ℕ) (m l : List ℕ) : Type 0 where
  pub degree : ℕ
  pub poly : Poly p
  pub minimal : IsMinimal p n m degree poly
  pub listed : l ≡ bytes (suc degree) (coef poly)

pub record DivisorIn (p n : ℕ) (m : List ℕ) (xs : List Line) (l : List ℕ) : Type 0 where
  pub degree : ℕ
  pub poly : Poly p
  pub monic : Monic degree (coef poly)
  pub listed : l ≡ bytes (suc degree) (coef poly)
  pub whole_degree : ℕ
  pub whole : Poly p
  pub minimal : IsMinimal p n m whole_degree whole
  pub divides : poly ∣ whole
  pub other : ¬ (coef poly ≡ coef whole)
  pub witness : ℕ
  pub first : FirstUnsent (times p n m) n poly witness
  pub image : Has xs "WITNESS" (witness ∷ bytes n (act (times p n m) poly (e witness)))
