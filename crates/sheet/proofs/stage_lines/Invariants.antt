-- `sheet::stage_lines` meets its contract. Invariant (`Toward`): what is missing are the lines of the stages from place `at` of the record on. Assumes nothing.
use Rattle.std.proofs.Common.{◌-◌, drop}
use Rattle.meaning.specs.Line.{text}
use Rattle.sheet.specs.Lines.{StagesIn, stage_lines_in}
use Rattle.sheet.proofs.Laws.{Toward}
use Rattle.sheet.proofs.stage_lines.Given as goal

abbrev pub invariant-loop : goal.invariant-loop
invariant-loop l =
    StagesIn (l.count - l.counter) (drop l.at l.stages)
    × Toward l.initial.t (text (stage_lines_in l.count l.stages)) l.t (text (stage_lines_in (l.count - l.counter) (drop l.at l.stages)))
