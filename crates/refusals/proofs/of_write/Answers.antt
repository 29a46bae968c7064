-- `refusals::of_write` meets its contract: what the tests before refuse is refused, and after them test 9, then test 6. Assumes nothing.
use mathlib.Core.Path.{sym, ◌∙◌}
use mathlib.Core.List.{[]}
use borrow.Author.Rules.{rules}
use Rattle.meaning.specs.Bounds.{Sound, SoundRows}
use Rattle.meaning.specs.Writing.{write_refusal}
use Rattle.meaning.proofs.Refusal.{list_sound}
use Rattle.meaning.proofs.Writing.{written_length}
use Rattle.refusals.proofs.Laws.{tests, one, later, list_passed, long_by}
use Rattle.refusals.proofs.of_write.Goals as goal
use Rattle.refusals.proofs.of_write.Goals.{In_ok-list}

-- so matrix and candidates are sound
told : (c : In_ok-list) → let x = c.args in
    Sound x.p x.n x.m.now × SoundRows x.p x.n x.cs.now
told c = list_sound _ _ _ _ [] (sym c.in_ok-list.ensures)

pub returns-in_err-allowance : goal.returns-in_err-allowance
unfolding write_refusal
returns-in_err-allowance c = search (rules, tests)

pub case_length-requires : goal.case_length-requires
case_length-requires c = let (A, B) = told (goal.at.case_length-requires c).In_ok-list in (A.size, B.few)

pub returns : goal.returns
unfolding write_refusal
returns c =
    let (A, B) = told (goal.at.returns c).In_ok-list in
    let size = c.case_length.ensures ∙ sym (written_length _ _ _ _ _ A B) in
    list_passed _ _ _ _ _ _ _ _ c.in_ok-list.ensures (later _ _ _ c.in_ok-allowance.ensures (one (long_by _ size c.room.ensures)))
