-- `sheet::case_text` meets its contract: no call refuses sound values; what they answer is the sheet (`case_lines_lem`), and its lines are laid down
-- one after another. Assumes nothing.
use Rattle.std.proofs.Common.{◌≡◌, ℕ, List, [], ◌∷◌, ◌++◌, length, ap, subst, ◌∙◌, arith}
use Rattle.meaning.specs.Calls.{PeriodCall}
use Rattle.meaning.specs.Line.{Line, text}
use Rattle.meaning.specs.Sheet.{field_line}
use Rattle.reasons.specs.Reasons.{answer_of}
use Rattle.meaning.specs.Ascii.{ascii}
use Rattle.text.specs.Text.{HasRoom, line_of}
use Rattle.sheet.specs.Lines.{stood_lines, chained_lines, perioded_lines}
use Rattle.sheet.proofs.Laws.{Toward, toward_start, toward_last, line_turn, line_room, lines_turn, lines_room, last_room}
use Rattle.sheet.proofs.Answers.{CaseAnswers, CaseLines, StandDone, ChainDone, stand_ok, chain_ok, period_ok, case_lines_lem}
use Rattle.sheet.proofs.case_text.Goals as goal
use Rattle.sheet.proofs.case_text.Goals.{After-new-t}

-- no call refuses sound values
pub unwrap-stood-requires : goal.unwrap-stood-requires
unwrap-stood-requires c = stand_ok _ c.requires.sound c.requires.sound_rows c.stand.ensures

pub unwrap-count-requires : goal.unwrap-count-requires
unwrap-count-requires c = chain_ok _ c.requires.sound c.requires.sound_rows c.chain.ensures

pub unwrap-period-requires : goal.unwrap-period-requires
unwrap-period-requires c = period_ok _ c.requires.sound c.period.ensures

abbrev answers : After-new-t → CaseAnswers
answers c =
    record {
      stood = c.unwrap-stood.result;
      poly = c.stand.new.poly;
      image = c.stand.new.image;
      count = c.unwrap-count.result;
      product = c.chain.new.product;
      stages = c.chain.new.stages;
      period = c.unwrap-period.result;
    }

-- the lines: the field's, the stand's, the chain's, the period's
abbrev stood_part : ℕ → CaseAnswers → List Line
stood_part n A = stood_lines n A.stood A.poly A.image

abbrev chained_part : ℕ → CaseAnswers → List Line
chained_part n A = chained_lines n A.count A.product A.stages

abbrev behind_stood : ℕ → CaseAnswers → List Line
behind_stood n A = chained_part n A ++ perioded_lines A.period

abbrev all_parts : ℕ → ℕ → CaseAnswers → List Line
all_parts p n A = field_line p n ∷ (stood_part n A ++ behind_stood n A)

-- they are the sheet's
known : (c : After-new-t) → let x = c.args in CaseLines x.p x.n x.m.now x.cs.now x.allowance (answers c)
known c =
    let x = c.args in
    case_lines_lem c.requires.sound c.requires.sound_rows (omega (arith, c.ranges.allowance))
    (subst (λ r. StandDone x.p x.n x.m.now x.cs.now x.allowance r c.stand.new.poly c.stand.new.image) c.unwrap-stood.ensures c.stand.ensures)
    (subst (λ r. ChainDone x.p x.n x.m.now x.cs.now r c.chain.new.product c.chain.new.stages) c.unwrap-count.ensures c.chain.ensures)
    (subst (λ r. PeriodCall x.p x.n x.m.now (answer_of r)) c.unwrap-period.ensures c.period.ensures)

-- there is room for them
roomy : (c : After-new-t) → let x = c.args in HasRoom c.new-t.result (text (all_parts x.p x.n (answers c)))
roomy c = omega (arith, ap length c.new-t.ensures, (known c).room)

-- the lines before the period's are laid down
linked : {t o u v : List ℕ} (p n : ℕ) (A : CaseAnswers) → o ≡ t ++ line_of (ascii "FIELD") (p ∷ n ∷ []) → u ≡ o ++ text (stood_part n A)
    → v ≡ u ++ text (chained_part n A) → Toward t (text (all_parts p n A)) v (text (perioded_lines A.period))
linked p n A e f g =
    let headed = line_turn (field_line p n) (stood_part n A ++ behind_stood n A) (toward_start _ _) e in
    lines_turn (chained_part n A) (perioded_lines A.period) (lines_turn (stood_part n A) (behind_stood n A) headed f) g

pub line-requires : goal.line-requires
line-requires c =
    let x = c.args in
    let C = (goal.at.line-requires c).After-new-t in
    line_room (field_line x.p x.n) (stood_part x.n (answers C) ++ behind_stood x.n (answers C)) (roomy C) (toward_start _ _)

pub stand_lines-requires : goal.stand_lines-requires
stand_lines-requires c =
    let x = c.args in
    let C = (goal.at.stand_lines-requires c).After-new-t in
    let A = answers C in
    let headed = line_turn (field_line x.p x.n) (stood_part x.n A ++ behind_stood x.n A) (toward_start _ _) c.line.ensures in
    record { stood_fits = (known C).stood_fits; has_room = lines_room (stood_part x.n A) (behind_stood x.n A) (roomy C) headed }

pub chain_lines-requires : goal.chain_lines-requires
chain_lines-requires c =
    let x = c.args in
    let C = (goal.at.chain_lines-requires c).After-new-t in
    let A = answers C in
    let headed = line_turn (field_line x.p x.n) (stood_part x.n A ++ behind_stood x.n A) (toward_start _ _) c.line.ensures in
    let told = lines_turn (stood_part x.n A) (behind_stood x.n A) headed c.stand_lines.ensures in
    record {
      size_in_bounds = (known C).size_in_bounds;
      stages_in = (known C).stages_in;
      has_room = lines_room (chained_part x.n A) (perioded_lines A.period) (roomy C) told;
    }

pub period_line-requires : goal.period_line-requires
period_line-requires c =
    let C = (goal.at.period_line-requires c).After-new-t in
    last_room (roomy C) (linked c.args.p c.args.n (answers C) c.line.ensures c.stand_lines.ensures c.chain_lines.ensures)

pub returns : goal.returns
returns c =
    let x = c.args in
    let C = (goal.at.returns c).After-new-t in
    let A = answers C in
    let end = linked x.p x.n A c.line.ensures c.stand_lines.ensures c.chain_lines.ensures in
    let is = toward_last end c.period_line.ensures ∙ ap (λ t. t ++ text (all_parts x.p x.n A)) c.new-t.ensures in
    record { lines = all_parts x.p x.n A; sheet = (known C).lines; is = is; room = omega (arith, ap length is, (known C).room) }
