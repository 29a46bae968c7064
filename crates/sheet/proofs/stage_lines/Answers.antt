-- `sheet::stage_lines` meets its contract. Invariant (`Toward`): what is missing are the lines of the stages from place `at` of the record on. Assumes
-- nothing.
use Rattle.std.proofs.Common.{◌+◌, ◌-◌, List, ◌∷◌, get_or, take, drop, refl, subst, arith}
use native.Mathlib.Nat.{sub-zero}
use Rattle.meaning.specs.Line.{Line, text}
use Rattle.sheet.specs.Lines.{stage_lines_in}
use Rattle.sheet.proofs.Laws.{Toward, toward_start, toward_end, line_turn, line_room, StageAt, record_line, stage_at, stages_none}
use Rattle.sheet.proofs.stage_lines.Goals as goal
use Rattle.sheet.proofs.stage_lines.Goals.{In-loop, After-from}

-- a stage is left
some : (c : In-loop) → StageAt (c.args.count - c.loop.counter) (c.args.count - (c.loop.counter + 1)) c.loop.at (get_or c.args.stages.now c.loop.at 0) c.args.stages.now
some c = stage_at _ _ _ _ _ (omega arith) refl c.loop.invariant.0

-- the next stage of the record, its line, and those behind it
here : (c : After-from) → StageAt (c.args.count - c.loop.counter) (c.args.count - (c.loop.counter + 1)) c.loop.at c.from.result c.args.stages.now
here c = stage_at _ _ _ _ _ (omega arith) c.from.ensures c.loop.invariant.0

abbrev line : After-from → Line
line c =
    let from = c.loop.at + 1 in
    record_line (take (from + c.from.result - from) (drop from c.args.stages.now))

abbrev behind : After-from → List Line
behind c = stage_lines_in (c.args.count - (c.loop.counter + 1)) (drop (c.loop.at + 1 + c.from.result) c.args.stages.now)

next : (c : After-from) → let x = c.args in Toward x.t.now (text (stage_lines_in x.count x.stages.now)) c.loop.t (text (line c ∷ behind c))
next c =
    let x = c.args in
    subst (λ l. Toward x.t.now (text (stage_lines_in x.count x.stages.now)) c.loop.t (text l)) (here c).lines c.loop.invariant.1

pub loop-init : goal.loop-init
loop-init c = rw (sub-zero c.args.count) (c.requires.stages_in, toward_start _ _)

pub overflow_add-from : goal.overflow_add-from
overflow_add-from c = omega (arith, (some c).inside)

pub bounds-stages-at : goal.bounds-stages-at
bounds-stages-at c = (some (goal.at.bounds-stages-at c).In-loop).inside

pub overflow_add-at : goal.overflow_add-at
overflow_add-at c = omega (arith, (here (goal.at.overflow_add-at c).After-from).whole)

pub slice_bounds-stage_line-end : goal.slice_bounds-stage_line-end
slice_bounds-stage_line-end c = omega (arith, (here (goal.at.slice_bounds-stage_line-end c).After-from).whole)

pub stage_line-requires : goal.stage_line-requires
stage_line-requires c =
    let C = (goal.at.stage_line-requires c).After-from in
    line_room (line C) (behind C) c.requires.has_room (next C)

pub loop-preserved : goal.loop-preserved
loop-preserved c =
    let C = (goal.at.loop-preserved c).After-from in
    ((here C).rest, line_turn (line C) (behind C) (next C) c.stage_line.ensures)

pub returns : goal.returns
unfolding text
returns c =
    let x = c.args in
    toward_end (subst (λ l. Toward x.t.now (text (stage_lines_in x.count x.stages.now)) c.loop.t (text l)) (stages_none _ _ (omega arith)) c.loop.invariant.1)
