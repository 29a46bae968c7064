-- `design::read` meets its contract: a text that was gone through to its end is a design and is read as its case, and any other has a first thing that is
-- wrong. Assumes nothing.
use Rattle.std.proofs.Common.{refl, sym, ap, ◌∙◌, arith}
use Rattle.std.specs.Prelude.{Some}
use Rattle.std.proofs.lemmas.Option.{same_Some}
use lib.Seq.{length-take-le}
use Rattle.casefile.specs.Reading.{values_of}
use Rattle.spelling.specs.Trace.{spot_of}
use Rattle.spelling.proofs.Outcome.{bytes_of, Held}
use lib.ListN.{replicate}
use Rattle.meaning.specs.Case.{longest_case}
use Rattle.meaning.specs.Design.{text_said}
use Rattle.design.specs.Drawn.{drawn_case, wrong_spot}
use Rattle.design.proofs.Designed.{text_comes, calm_held, wrong_lost, held_within, held_read, values_ok, lost_wrong, lost_none}
use Rattle.design.proofs.read.Goals as goal
use Rattle.design.proofs.read.Goals.{In_default}

-- nothing is wrong
held : (c : In_default) → Held (bytes_of (text_said c.args.text.now)) (replicate longest_case 0) (c.spell-trace.result, c.spell-trace.new.out)
held c = calm_held (text_comes _ _ (omega arith) c.spell-trace.ensures) c.in_default.is

pub returns-in-Some : goal.returns-in-Some
returns-in-Some c =
    let L = wrong_lost (text_comes _ _ (omega arith) c.spell-trace.ensures) c.in-Some.is in
    let spot = same_Some _ _ (sym c.in-Some.is ∙ L.told) in
    wrong_spot _ _ (lost_none _ L) (lost_wrong _ L) (λ i. Some (spot_of (spot i), c.due-expected.ensures i)) refl refl

pub slice_bounds-bytes-end : goal.slice_bounds-bytes-end
slice_bounds-bytes-end c = held_within (held c)

pub slice_bounds-read-end : goal.slice_bounds-read-end
slice_bounds-read-end c = sym (length-take-le _ _ (held_within (held (goal.at.slice_bounds-read-end c).In_default)))

pub unwrap-requires : goal.unwrap-requires
unwrap-requires c =
    let (case, I, A) = held_read _ (held (goal.at.unwrap-requires c).In_default) c.read-answer.ensures in
    values_ok _ A.values

pub returns : goal.returns
returns c =
    let (case, I, A) = held_read _ (held (goal.at.returns c).In_default) c.read-answer.ensures in
    drawn_case case I (sym (ap values_of c.unwrap.ensures) ∙ A.values) A.matrix A.candidates
