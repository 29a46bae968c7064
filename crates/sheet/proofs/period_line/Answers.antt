-- `sheet::period_line` meets its contract in each case of the answer. Assumes nothing.
use Rattle.std.proofs.Common.{sym, subst, [], ◌≡◌, ◌++◌}
use Rattle.std.specs.Prelude.{Some}
use Rattle.meaning.specs.Line.{spaced, line_bytes, text}
use Rattle.meaning.specs.Sheet.{period_line}
use Rattle.text.specs.Text.{HasRoom}
use Rattle.sheet.specs.Lines.{perioded_lines}
use Rattle.sheet.proofs.Laws.{toward_start, toward_end, line_turn, line_room}
use Rattle.sheet.proofs.period_line.Goals as goal

pub line-requires : goal.line-requires
line-requires c =
    line_room (period_line (Some c.in-Some.k)) [] (subst (λ r. HasRoom c.args.t.now (text (perioded_lines r))) c.in-Some.is c.requires) (toward_start _ _)

pub word-requires : goal.word-requires
unfolding text line_bytes spaced
word-requires c = subst (λ r. HasRoom c.args.t.now (text (perioded_lines r))) c.in-None.is c.requires

pub returns-in-Some : goal.returns-in-Some
unfolding text
returns-in-Some c =
    subst (λ r. c.line.new.self ≡ c.args.t.now ++ text (perioded_lines r)) (sym c.in-Some.is)
    (toward_end (line_turn (period_line (Some c.in-Some.k)) [] (toward_start _ _) c.line.ensures))

pub returns-in-None : goal.returns-in-None
unfolding text line_bytes spaced
returns-in-None c = subst (λ r. c.word.new.self ≡ c.args.t.now ++ text (perioded_lines r)) (sym c.in-None.is) c.word.ensures
