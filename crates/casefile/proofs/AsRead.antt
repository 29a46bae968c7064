-- A file that is a case is read as that case.
--   ReadAs c r    the contents r have the values of the case c
--   read_case     so they do, where the file is that case
-- Assumes nothing.
use mathlib.Core.Path.{◌≡◌, subst}
use mathlib.Core.List.{List}
use Rattle.std.specs.Prelude.{Some}
use Prim.Native.Nat.{ℕ}
use lib.ListN.{length}
use Rattle.meaning.specs.Bytes.{padded}
use Rattle.meaning.specs.Bounds.{matrix_room, candidate_room}
use Rattle.meaning.specs.Case.{Case, IsCase, allowance_of, matrix_bytes, candidate_bytes}
use Rattle.meaning.proofs.CaseBytes.{case_unique}
use Rattle.casefile.specs.Reading.{values_of, ReadIs, reads, refuses}
use Rattle.casefile.specs.declared.Contents.{Contents}

pub record ReadAs (c : Case) (r : Contents) : Type 0 where
  pub values : values_of r.answer ≡ Some (c.p, c.n, allowance_of c, length c.candidates)
  pub matrix : r.matrix ≡ padded matrix_room (matrix_bytes c)
  pub candidates : r.candidates ≡ padded candidate_room (candidate_bytes c)

pub read_case : {s : List ℕ} {c : Case} {r : Contents} → IsCase s c → ReadIs s r → ReadAs c r
read_case {r = r} I (reads d K v m cs) = subst (λ x. ReadAs x r) (case_unique K I) (record { values = v; matrix = m; candidates = cs })
read_case {c = c} I (refuses k none_is at e m cs) = absurd (none_is c I)
