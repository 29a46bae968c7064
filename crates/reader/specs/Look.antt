-- Which record begins at an offset, by the scan's state there and its letter. Nobody need believe it: proofs/ shows that it is the next record.
--   ahead x e      the record that the step x says, with the offset e behind it
--   field_at, body_at, record_at   the record that begins at an offset, from the bytes there, with the offset behind it; or nothing
-- Assumes nothing.
use Rattle.std.specs.Prelude.{List, ℕ, ◌+◌, length, get_or, ltb, eqb, Option, None, Some}
use Rattle.scan.specs.declared.State.{State}
use Rattle.scan.specs.declared.State.TheVariants.{Start, Opening, Modulus, Size, Body, Letter, Entries, Over, Dead}
use Rattle.algebra.specs.Field.{pick}
use Rattle.reader.specs.declared.Step.{Step}
use Rattle.reader.specs.declared.Step.TheVariants as step
use Rattle.reader.specs.declared.Ahead.{Ahead}

abbrev pub ahead : Step → ℕ → Ahead
ahead x e = record { step = x; next = e }

unfoldable pub field_at : ℕ → List ℕ → Option Ahead
field_at at t = pick (ltb (length t) 4) None (Some (ahead (step.Field (get_or t 2 0) (get_or t 3 0)) (at + 4)))

unfoldable pub body_at : ℕ → ℕ → List ℕ → Option Ahead
body_at n at t =
    pick (ltb (length t) 2) None
    (pick (eqb (get_or t 1 0) 69) (Some (ahead step.End (at + 2)))
    (pick (eqb (get_or t 1 0) 65) (pick (ltb (length t) 4) None (Some (ahead (step.Allow (get_or t 2 0) (get_or t 3 0)) (at + 4))))
    (pick (eqb (get_or t 1 0) 82) (Some (ahead step.Row (at + 2 + n))) (Some (ahead step.Candidate (at + 2 + n))))))

unfoldable pub record_at : State → ℕ → List ℕ → Option Ahead
record_at Start at t = field_at at t
record_at Opening at t = None
record_at Modulus at t = None
record_at (Size p) at t = None
record_at (Body h) at t = body_at h.n at t
record_at (Letter h) at t = None
record_at (Entries h bound left) at t = None
record_at (Over h) at t = None
record_at Dead at t = None
