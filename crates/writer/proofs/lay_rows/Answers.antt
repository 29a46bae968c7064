-- `writer::lay_rows` meets its contract. Invariant: the records of the rows so far are laid down, `behind` is the place behind them, and the iterator has
-- the rows behind them. Assumes nothing.
use Rattle.std.proofs.Common.{◌+◌, ◌<◌, ◌≤◌, [], ◌∷◌, length, sym, subst, ◌∙◌, arith, length-append, rules}
use Rattle.meaning.specs.Bytes.{byte_rows}
use Rattle.writer.specs.Laying.{LaidAt, marked}
use Rattle.writer.proofs.Laws.{laid_start, marked_all, rows_fit, rows_turn, NextRow, next_row, last_row}
use Rattle.writer.proofs.lay_rows.Goals as goal
use Rattle.writer.proofs.lay_rows.Goals.{In-Some, In-None}

-- the next row
next : (c : In-Some) → NextRow c.args.n (length c.loop-row.yielded) c.args.s.now c.in-Some.row.now c.next.new.self.rest.now
next c =
    let x = c.args in
    next_row x.n (length c.loop-row.yielded) x.s.now c.requires.whole_rows.some_size c.loop-row.invariant.1 c.in-Some.ensures.steps.1.0
    (c.in-Some.ensures.steps.1.1 ∙ c.loop-row.invariant.0)

pub loop-row-init : goal.loop-row-init
unfolding marked
loop-row-init c = (search rules, search rules, laid_start _ _)

pub lay_row-behind-requires : goal.lay_row-behind-requires
lay_row-behind-requires c =
    let x = c.args in
    let N = next (goal.at.lay_row-behind-requires c).In-Some in
    subst (λ r. c.loop-row.behind + length (255 ∷ x.letter ∷ r) ≤ length c.loop-row.out) (sym N.row)
    (rows_fit x.letter x.n x.s.now N.more c.requires.s_in_bounds c.loop-row.invariant.2)

pub loop-row-preserved : goal.loop-row-preserved
loop-row-preserved c =
    let x = c.args in
    let N = next (goal.at.loop-row-preserved c).In-Some in
    rw (length-append c.loop-row.yielded (c.in-Some.row ∷ [])) (
      c.in-Some.ensures.steps.0 ∙ c.loop-row.invariant.0,
      N.behind,
      rows_turn x.letter x.n x.s.now N.more c.requires.s_in_bounds c.loop-row.invariant.2 N.row c.lay_row-behind.ensures,
    )

-- all rows are laid down
done : (c : In-None) → let x = c.args in LaidAt x.out.now x.at (marked x.letter (byte_rows x.n x.s.now)) c.loop-row.behind c.loop-row.out
done c =
    let x = c.args in
    let short : length c.loop-row.row-iterator.rest.now < x.n = omega (arith, c.in-None.ensures.steps.1.0, c.loop-row.invariant.0) in
    let all = last_row x.n (length c.loop-row.yielded) x.s.now c.requires.whole_rows.some_size c.loop-row.invariant.1 short in
    subst (λ l. LaidAt x.out.now x.at l c.loop-row.behind c.loop-row.out) (marked_all x.letter x.n x.s.now all) c.loop-row.invariant.2

pub returns : goal.returns
returns c = done c
