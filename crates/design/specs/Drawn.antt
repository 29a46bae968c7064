-- What a design's text is taken to: for every text one answer, the values of its case or the first thing that is wrong.
--   drawn_of a       p, n, the allowance and the number of candidates that the answer a gives
--   mistake_of m     the spot and what was expected there, as meaning has them
--   wrong_of a       the spot and what was expected there, where it gives these
--   DesignIs t r    the design r of the text t: the values of the case, its matrix and its candidates row after row with zeros behind them; or the first
--                   thing that is wrong, and zeros
--   unmade_of r      the spot and what was expected there, where nothing was made
--   MadeIs t old r new   the case of the text t is written, as the writer does it for its values; or the first thing that is wrong is told, and the
--                   buffer is as it was
-- Assumes nothing.
use Rattle.std.specs.Prelude.{◌≡◌, List, ℕ, length, replicate}
use Rattle.std.specs.Prelude.{Option, None, Some, Result, Ok, Err}
use Rattle.meaning.specs.Bytes.{padded}
use Rattle.meaning.specs.Bounds.{matrix_room, candidate_room}
use Rattle.meaning.specs.Case.{Case, allowance_of, matrix_bytes, candidate_bytes}
use Rattle.meaning.specs.Writing.{WriteCall}
use Rattle.meaning.specs.Design as meant
use Rattle.meaning.specs.Design.{Spot, IsDesign, FirstWrong}
use Rattle.casefile.specs.declared.Case.{Case as Numbers}
use Rattle.spelling.specs.Trace.{spot_of}
use Rattle.reasons.specs.declared.Reason.{Reason}
use Rattle.reasons.specs.Reasons.{answer_of}
use Rattle.design.specs.declared.Mistake.{Mistake}
use Rattle.design.specs.declared.Design.{Design}
use Rattle.design.specs.Expecting.{expected_as}

abbrev pub drawn_of : Result Numbers Mistake → Option (ℕ × ℕ × ℕ × ℕ)
drawn_of (Ok v) = Some (v.p, v.n, v.allowance, v.count)
drawn_of (Err m) = None

abbrev pub mistake_of : Mistake → Spot × meant.Expected
mistake_of m = (spot_of m.spot, expected_as m.expected)

abbrev pub wrong_of : Result Numbers Mistake → Option (Spot × meant.Expected)
wrong_of (Ok v) = None
wrong_of (Err m) = Some (mistake_of m)

pub data DesignIs (t : List ℕ) (r : Design) : Type 0 where
  drawn_case : (c : Case) → IsDesign t c → drawn_of r.answer ≡ Some (c.p, c.n, allowance_of c, length c.candidates)
      → r.matrix ≡ padded matrix_room (matrix_bytes c) → r.candidates ≡ padded candidate_room (candidate_bytes c) → DesignIs t r
  wrong_spot : (p : Spot) (e : meant.Expected) → ((c : Case) → ¬ IsDesign t c) → FirstWrong t p e → wrong_of r.answer ≡ Some (p, e)
      → r.matrix ≡ replicate matrix_room 0 → r.candidates ≡ replicate candidate_room 0 → DesignIs t r

abbrev pub unmade_of : Result (Result ℕ Reason) Mistake → Option (Spot × meant.Expected)
unmade_of (Ok w) = None
unmade_of (Err m) = Some (mistake_of m)

pub data MadeIs (t old : List ℕ) (r : Result (Result ℕ Reason) Mistake) (new : List ℕ) : Type 0 where
  made_case : (c : Case) (w : Result ℕ Reason) → IsDesign t c → r ≡ Ok w
      → WriteCall c.p c.n (matrix_bytes c) (candidate_bytes c) (allowance_of c) old (answer_of w) new → MadeIs t old r new
  made_none : (p : Spot) (e : meant.Expected) → ((c : Case) → ¬ IsDesign t c) → FirstWrong t p e → unmade_of r ≡ Some (p, e) → new ≡ old
      → MadeIs t old r new
