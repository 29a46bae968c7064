-- The sheet of a case file (01, "Case file, house layout": what the program `stand` prints).
--   field_line p n       FIELD with p and n
--   stand_line s r       STAND with the standing s, taken and spent
--   polynomial_line s r f   MINPOLY, or DIVISOR where the standing is short, with the coefficients of f up to its leading 1
--   witness_line n X s r f   WITNESS none, or where the standing is short the index and the n entries of the image
--   stand_lines n X s r f   these three
--   stage_line s         STAGE with the coefficients of a stage, its leading 1 included
--   chain_line n st      CHAIN with the n + 1 coefficients of the product of the stages
--   period_line r        PERIOD with t, or none
--   refused_line k       REFUSED with the place
--   SheetLines p n m cs a xs   xs are the lines of the sheet of a case with these values
--   IsSheet s t         the bytes t are the sheet of the file s, or its REFUSED line
--   sheet_room           a buffer of so many bytes has room for every sheet
--   SheetResult, SheetCall   the call: the sheet at the front of the buffer, its length returned; 6 where the buffer has not that room
-- Assumes nothing.
use Rattle.std.specs.Prelude.{◌≡◌, List, [], ◌∷◌, ◌++◌, map, ℕ, suc, length}
use Rattle.std.specs.Prelude.{Option, None, Some}
use Rattle.algebra.specs.Row.{S}
use Rattle.algebra.specs.Poly.{Poly, coef, act}
use Rattle.algebra.specs.Orders.{WithDegree, product}
use Rattle.meaning.specs.Bytes.{times, e, bytes, write}
use Rattle.meaning.specs.Stand.{Standing, proved, short, Outcome, IsStand}
use Rattle.meaning.specs.Chain.{IsChain}
use Rattle.meaning.specs.Period.{IsPeriod}
use Rattle.meaning.specs.Refusal.{refuse, too_short, first}
use Rattle.meaning.specs.Calls.{Answer, Called}
use Rattle.meaning.specs.Case.{Case, IsCase, Place, matrix_bytes, candidate_bytes, allowance_of}
use Rattle.meaning.specs.Line.{Line, text}

abbrev pub field_line : ℕ → ℕ → Line
field_line p n = record { word = "FIELD"; numbers = p ∷ n ∷ [] }

abbrev pub stand_line : Standing → Outcome → Line
stand_line proved r = record { word = "STAND proved"; numbers = r.taken ∷ r.spent ∷ [] }
stand_line short r = record { word = "STAND short"; numbers = r.taken ∷ r.spent ∷ [] }

abbrev pub polynomial_line : {p : ℕ} → Standing → Outcome → Poly p → Line
polynomial_line proved r f = record { word = "MINPOLY"; numbers = bytes (suc r.degree) (coef f) }
polynomial_line short r f = record { word = "DIVISOR"; numbers = bytes (suc r.degree) (coef f) }

abbrev pub witness_line : {p : ℕ} → ℕ → (S p → S p) → Standing → Outcome → Poly p → Line
witness_line n X proved r f = record { word = "WITNESS none"; numbers = [] }
witness_line n X short r f = record { word = "WITNESS"; numbers = r.witness ∷ bytes n (act X f (e r.witness)) }

abbrev pub stand_lines : {p : ℕ} → ℕ → (S p → S p) → Standing → Outcome → Poly p → List Line
stand_lines n X s r f = stand_line s r ∷ polynomial_line s r f ∷ witness_line n X s r f ∷ []

abbrev pub stage_line : {p : ℕ} → WithDegree p → Line
stage_line s = record { word = "STAGE"; numbers = bytes (suc s.deg) (coef s.poly) }

abbrev pub chain_line : {p : ℕ} → ℕ → List (WithDegree p) → Line
chain_line n st = record { word = "CHAIN"; numbers = bytes (suc n) (coef (product st)) }

abbrev pub period_line : Option ℕ → Line
period_line (Some t) = record { word = "PERIOD"; numbers = t ∷ [] }
period_line None = record { word = "PERIOD none"; numbers = [] }

abbrev pub refused_line : ℕ → Line
refused_line k = record { word = "REFUSED"; numbers = k ∷ [] }

pub record SheetLines (p n : ℕ) (m cs : List ℕ) (a : ℕ) (xs : List Line) : Type 0 where
  pub outcome : Outcome
  pub poly : Poly p
  pub stand : IsStand p n m cs a outcome poly
  pub stages : List (WithDegree p)
  pub chain : IsChain p n m cs stages
  pub period : Option ℕ
  pub returns : IsPeriod p n m period
  pub lines : xs ≡ field_line p n ∷ (stand_lines n (times p n m) outcome.standing outcome poly
      ++ (map stage_line stages ++ (chain_line n stages ∷ period_line period ∷ [])))

pub data IsSheet (s t : List ℕ) : Type 0 where
  sheet : (c : Case) (xs : List Line) → IsCase s c → SheetLines c.p c.n (matrix_bytes c) (candidate_bytes c) (allowance_of c) xs → t ≡ text xs
      → IsSheet s t
  refused : (k : ℕ) → ((c : Case) → ¬ IsCase s c) → Place s k → t ≡ text (refused_line k ∷ []) → IsSheet s t

unfoldable pub sheet_room : ℕ
sheet_room = 2048

pub record SheetResult (s old : List ℕ) (count : ℕ) (new : List ℕ) : Type 0 where
  pub printed : List ℕ
  pub sheet : IsSheet s printed
  pub size : count ≡ length printed
  pub buffer : new ≡ write printed old

abbrev pub SheetCall : List ℕ → List ℕ → Answer ℕ → List ℕ → Type 0
SheetCall s old = Called (first (refuse 6 (too_short sheet_room old) ∷ [])) (SheetResult s old) old
