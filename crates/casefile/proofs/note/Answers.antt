-- `casefile::note` meets its contract: an R or a C record goes behind those of its kind (`noted_row`, `noted_candidate`).
-- Assumes nothing.
use mathlib.Core.Path.{◌≡◌, refl, ap, ◌∙◌}
use Rattle.std.specs.Prelude.{Ok}
use Rattle.reader.specs.declared.Step.TheVariants as step
use native.Mathlib.Omega.{arith}
use Rattle.std.proofs.lemmas.Slice.{put_mid-paste}
use Rattle.casefile.proofs.Noting.{noted_row, noted_candidate}
use Rattle.casefile.proofs.note.Goals as goal

pub returns-in-Ok-Row : goal.returns-in-Ok-Row
returns-in-Ok-Row c =
    let f : c.in-Ok-Row.field-0 ≡ step.Row = rw c.in-Ok-Row.is at c.in-Ok-Row.field-0-is in
    noted_row (c.in-Ok-Row.is ∙ ap Ok f) c.entries-row.ensures.bytes (put_mid-paste _ _ _ _ _ _ c.copy_from_slice.ensures.after (omega arith) refl)

pub returns-in-Ok-Candidate : goal.returns-in-Ok-Candidate
returns-in-Ok-Candidate c =
    let f : c.in-Ok-Candidate.field-0 ≡ step.Candidate = rw c.in-Ok-Candidate.is at c.in-Ok-Candidate.field-0-is in
    noted_candidate (c.in-Ok-Candidate.is ∙ ap Ok f) c.entries-row-in-Ok-Candidate.ensures.bytes
    (put_mid-paste _ _ _ _ _ _ c.copy_from_slice-in-Ok-Candidate.ensures.after (omega arith) refl)
