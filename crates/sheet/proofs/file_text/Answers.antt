-- `sheet::file_text` meets its contract: the values of a case are sound (`read_sound`), and their sheet is the file's; a file that is no case has
-- its REFUSED line. Assumes nothing.
use Rattle.std.proofs.Common.{[], ◌∷◌, ◌++◌, length, ap, ◌∙◌, arith}
use Rattle.meaning.specs.Line.{text}
use Rattle.meaning.specs.Sheet.{refused_line}
use Rattle.meaning.proofs.SheetRoom.{refused_room}
use Rattle.text.specs.Text.{HasRoom}
use Rattle.casefile.proofs.Results.{read_refused}
use Rattle.sheet.proofs.Laws.{toward_start, toward_end, line_turn, line_room}
use Rattle.sheet.proofs.File.{read_case, read_sound, case_file, refused_file}
use Rattle.sheet.proofs.file_text.Goals as goal

pub case_text-requires-clause-sound : goal.case_text-requires-clause-sound
case_text-requires-clause-sound c = (read_sound (read_case c.read-answer.ensures c.in-Ok.is)).0

pub case_text-requires-clause-sound_rows : goal.case_text-requires-clause-sound_rows
case_text-requires-clause-sound_rows c = (read_sound (read_case c.read-answer.ensures c.in-Ok.is)).1

pub line-requires : goal.line-requires
line-requires c =
    let N = read_refused c.read-answer.ensures c.in-Err.is in
    let roomy : HasRoom c.new-t.result (text (refused_line c.in-Err.place ∷ []))
    = omega (arith, ap length c.new-t.ensures, refused_room c.in-Err.place (omega (arith, N.1.within))) in
    line_room (refused_line c.in-Err.place) [] roomy (toward_start _ _)

pub returns-in-Ok : goal.returns-in-Ok
returns-in-Ok c = case_file (read_case c.read-answer.ensures c.in-Ok.is) c.case_text.ensures

pub returns-in-Err : goal.returns-in-Err
unfolding text
returns-in-Err c =
    let N = read_refused c.read-answer.ensures c.in-Err.is in
    let line = refused_line c.in-Err.place in
    let is = toward_end (line_turn line [] (toward_start _ _) c.line.ensures) ∙ ap (λ t. t ++ text (line ∷ [])) c.new-t.ensures in
    refused_file N is (omega (arith, N.1.within))
