-- What reading a whole file gives (01, "Case file, house layout").
--   values_of a    p, n, the allowance and the number of candidates that the answer a gives
--   read_refusal a   01's number and the place that the answer a gives
--   ReadIs s r    the contents r of the file s: the values of the case, its matrix and its candidates row after row with zeros behind them; or
--                 number 8 with the place, and zeros
--   HandedOut s r the same, by the steps of a reader of s: they hand out the records of a case and then say that it is over, and r has its values; or they
--                 stop at a place, and r has that place
-- Assumes nothing.
use Rattle.std.specs.Prelude.{◌≡◌, List, ℕ, length, replicate}
use Rattle.std.specs.Prelude.{Option, None, Some, Result, Ok, Err}
use Rattle.meaning.specs.Bytes.{padded}
use Rattle.meaning.specs.Bounds.{matrix_room, candidate_room}
use Rattle.meaning.specs.Case.{Case, records, IsCase, allowance_of, matrix_bytes, candidate_bytes, Place}
use Rattle.reader.specs.declared.Step.TheVariants.{Over}
use Rattle.reader.specs.Step.{Ends, Stops}
use Rattle.casefile.specs.declared.Case.{Case as Values}
use Rattle.casefile.specs.declared.Contents.{Contents}

abbrev pub values_of : Result Values ℕ → Option (ℕ × ℕ × ℕ × ℕ)
values_of (Ok v) = Some (v.p, v.n, v.allowance, v.count)
values_of (Err k) = None

abbrev pub read_refusal : Result Values ℕ → Option (ℕ × ℕ)
read_refusal (Ok v) = None
read_refusal (Err k) = Some (8, k)

pub data ReadIs (s : List ℕ) (r : Contents) : Type 0 where
  reads : (c : Case) → IsCase s c → values_of r.answer ≡ Some (c.p, c.n, allowance_of c, length c.candidates)
      → r.matrix ≡ padded matrix_room (matrix_bytes c) → r.candidates ≡ padded candidate_room (candidate_bytes c) → ReadIs s r
  refuses : (k : ℕ) → ((c : Case) → ¬ IsCase s c) → Place s k → read_refusal r.answer ≡ Some (8, k) → r.matrix ≡ replicate matrix_room 0
      → r.candidates ≡ replicate candidate_room 0 → ReadIs s r

pub data HandedOut (s : List ℕ) (r : Contents) : Type 0 where
  whole : (c : Case) → Ends s (records c) (Ok Over) → values_of r.answer ≡ Some (c.p, c.n, allowance_of c, length c.candidates)
      → r.matrix ≡ padded matrix_room (matrix_bytes c) → r.candidates ≡ padded candidate_room (candidate_bytes c) → HandedOut s r
  stopped : (k : ℕ) → Stops s k → read_refusal r.answer ≡ Some (8, k) → HandedOut s r
