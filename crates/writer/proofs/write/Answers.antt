-- `writer::write` meets its contract: where nothing is refused, the parts of the case are laid down one behind another. Assumes nothing.
use mathlib.Core.Path.{refl, sym}
use Prim.Native.Nat.{◌≤◌}
use native.Mathlib.Omega.{arith}
use lib.ListN.{length}
use Rattle.meaning.specs.Bounds.{most_allowance, Sound, SoundRows}
use Rattle.meaning.specs.Writing.{case_written}
use Rattle.meaning.proofs.Called.{refused_by, given_by}
use Rattle.meaning.proofs.Writing.{write_sound}
use Rattle.writer.proofs.Laws.{laid_turn, square_whole, behind_head, behind_rows, behind_list, CaseFits, parts_fit, written_all}
use Rattle.std.proofs.lemmas.Result.{err_from_is_err_and}
use Rattle.writer.proofs.write.Goals as goal
use Rattle.writer.proofs.write.Goals.{In_ok-of_write}

-- the values are sound, and there is room for the case
told : (c : In_ok-of_write) → let x = c.args in
    Sound x.p x.n x.m.now × SoundRows x.p x.n x.cs.now × (x.allowance ≤ most_allowance)
    × (length (case_written x.p x.n x.m.now x.cs.now x.allowance) ≤ length x.out.now)
told c = write_sound _ _ _ _ _ _ (sym c.in_ok-of_write.ensures)

fits : (c : In_ok-of_write) → let x = c.args in
    CaseFits x.n x.m.now x.cs.now (length x.out.now)
fits c = parts_fit _ _ _ _ _ (told c).3

pub returns-in_err-of_write : goal.returns-in_err-of_write
returns-in_err-of_write c =
    let p = err_from_is_err_and c.from_residual.result c.from_residual.ensures.1 in
    rw (p.1, p.2) (refused_by (sym c.in_err-of_write.ensures))

pub overflow_cast-high : goal.overflow_cast-high
overflow_cast-high c = omega (arith, (told (goal.at.overflow_cast-high c).In_ok-of_write).2)

pub overflow_cast-head : goal.overflow_cast-head
overflow_cast-head c = omega (arith, (told (goal.at.overflow_cast-head c).In_ok-of_write).0.most)

pub overflow_cast-head-2 : goal.overflow_cast-head-2
overflow_cast-head-2 c = omega (arith, (told (goal.at.overflow_cast-head-2 c).In_ok-of_write).0.size)

pub lay-behind_head-requires : goal.lay-behind_head-requires
lay-behind_head-requires c = omega (arith, (fits (goal.at.lay-behind_head-requires c).In_ok-of_write).head)

pub lay_rows-behind_rows-requires : goal.lay_rows-behind_rows-requires
lay_rows-behind_rows-requires c =
    let w = (goal.at.lay_rows-behind_rows-requires c).In_ok-of_write in
    record { whole_rows = square_whole (told w).0; s_in_bounds = behind_head refl (fits w) c.lay-behind_head.ensures }

pub lay_rows-behind_candidates-requires : goal.lay_rows-behind_candidates-requires
lay_rows-behind_candidates-requires c =
    let w = (goal.at.lay_rows-behind_candidates-requires c).In_ok-of_write in
    record {
      whole_rows = record { some_size = (told w).0.some_size; whole = (told w).1.whole };
      s_in_bounds = behind_rows refl (fits w) c.lay-behind_head.ensures c.lay_rows-behind_rows.ensures;
    }

pub lay-requires : goal.lay-requires
lay-requires c =
    behind_list refl (fits (goal.at.lay-requires c).In_ok-of_write) c.lay-behind_head.ensures c.lay_rows-behind_rows.ensures
    c.lay_rows-behind_candidates.ensures

pub returns : goal.returns
returns c =
    let front = laid_turn (omega arith) c.lay-behind_head.ensures c.lay_rows-behind_rows.ensures in
    let most = laid_turn (omega arith) front c.lay_rows-behind_candidates.ensures in
    let all = laid_turn (omega arith) most c.lay.ensures in
    given_by (sym c.in_ok-of_write.ensures) (written_all _ _ _ _ _ all)
