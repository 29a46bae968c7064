-- What 01 calls the answer of a stand.
--   counted_as s c w   what a stand returns: its standing, its counts and its witness
--   outcome_of s       the outcome of a stand
--   stood_of x         what the stand call answers: a refusal, or the outcome
-- Assumes nothing.
use Rattle.std.specs.Prelude.{ℕ, Result, Ok, Err}
use Rattle.meaning.specs.Stand.{Standing, proved, short, Outcome}
use Rattle.meaning.specs.Calls.{Answer}
use Rattle.reasons.specs.Reasons.{answer_of}
use Rattle.reasons.specs.declared.Reason.{Reason}
use Rattle.calls.specs.declared.Counts.{Counts}
use Rattle.calls.specs.declared.Stood.{Stood}
use Rattle.calls.specs.declared.Stood.TheVariants as stood

abbrev pub counted_as : Standing → Counts → ℕ → Outcome
counted_as s c w = record { standing = s; degree = c.degree; taken = c.taken; spent = c.spent; witness = w }

abbrev pub outcome_of : Stood → Outcome
outcome_of (stood.Proved c) = counted_as proved c 0
outcome_of (stood.Short c w) = counted_as short c w

abbrev pub stood_of : Result Stood Reason → Answer Outcome
stood_of (Ok s) = answer_of (Ok (outcome_of s))
stood_of (Err r) = answer_of (Err r)
