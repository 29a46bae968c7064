-- The lines of a sheet, from what the calls answered.
--   Toward t s out rest   out lies between t and t with s behind it: rest is what is missing
--   toward_start, toward_turn, toward_end   nothing is laid down yet, a part more, everything
--   toward_room     there is room for what is missing, where there is room for all
--   toward_last, last_room   all that is missing
--   line_turn, line_room, lines_turn, lines_room   the same of lines, one after another, and of lists of lines
--   StageAt k j at d l   what the stage record l has at a place from which k stages are left: one of degree d, and j behind it
--   record_line l     the line of a stage
--   stage_at, stages_none   a stage stands where one is left; where none is, there is no line
-- Assumes nothing.
use Rattle.std.proofs.Common.{◌≡◌, ℕ, zero, suc, ◌+◌, ◌-◌, ◌<◌, ◌≤◌, List, [], ◌∷◌, ◌++◌, length, get_or, take, drop, refl, sym, ap, subst, ◌∙◌, append-nil, append_assoc, length-append, length-drop, add-one, drop-cons, arith}
use lib.Seq.{drop-drop}
use Rattle.meaning.specs.Ascii.{ascii}
use Rattle.meaning.specs.Line.{Line, line_bytes, text}
use Rattle.meaning.proofs.Line.{text_append}
use Rattle.text.specs.Text.{HasRoom, line_of}
use Rattle.sheet.specs.Lines.{StagesIn, stage_lines_in}

pub record Toward (t s out rest : List ℕ) : Type 0 where
  pub whole : out ++ rest ≡ t ++ s

pub toward_start : (t s : List ℕ) → Toward t s t s
toward_start t s = record { whole = refl }

pub toward_turn : {t out r s l rest : List ℕ} (a : List ℕ) → Toward t s out l → l ≡ a ++ rest → r ≡ out ++ a → Toward t s r rest
toward_turn {out = out} {rest = rest} a T e q = record {
  whole = ap (λ x. x ++ rest) q ∙ append_assoc out a rest ∙ ap (λ x. out ++ x) (sym e) ∙ T.whole;
}

pub toward_end : {t out s : List ℕ} → Toward t s out [] → out ≡ t ++ s
toward_end {out = out} T = sym (append-nil out) ∙ T.whole

pub toward_last : {t out r s l : List ℕ} → Toward t s out l → r ≡ out ++ l → r ≡ t ++ s
toward_last T q = q ∙ T.whole

pub toward_room : {t out s l : List ℕ} (a : List ℕ) → HasRoom t s → Toward t s out l → (rest : List ℕ) → l ≡ a ++ rest → HasRoom out a
toward_room a h T rest e = omega (arith, h, ap length T.whole, ap length e, length-append {A = ℕ})

pub last_room : {t out s l : List ℕ} → HasRoom t s → Toward t s out l → HasRoom out l
last_room h T = omega (arith, h, ap length T.whole, length-append {A = ℕ})

pub line_turn : {t out r s : List ℕ} (x : Line) (xs : List Line) → Toward t s out (text (x ∷ xs)) → r ≡ out ++ line_of (ascii x.word) x.numbers
    → Toward t s r (text xs)
unfolding text line_bytes
line_turn x xs T q = toward_turn _ T refl q

pub line_room : {t out s : List ℕ} (x : Line) (xs : List Line) → HasRoom t s → Toward t s out (text (x ∷ xs))
    → HasRoom out (line_of (ascii x.word) x.numbers)
unfolding text line_bytes
line_room x xs h T = toward_room _ h T (text xs) refl

pub lines_turn : {t out r s : List ℕ} (xs ys : List Line) → Toward t s out (text (xs ++ ys)) → r ≡ out ++ text xs → Toward t s r (text ys)
lines_turn xs ys T q = toward_turn _ T (text_append xs ys) q

pub lines_room : {t out s : List ℕ} (xs ys : List Line) → HasRoom t s → Toward t s out (text (xs ++ ys)) → HasRoom out (text xs)
lines_room xs ys h T = toward_room _ h T (text ys) (text_append xs ys)

-- the line of a stage whose coefficients but the leading 1 are l
abbrev pub record_line : List ℕ → Line
record_line l = record { word = "STAGE"; numbers = l ++ (1 ∷ []) }

pub record StageAt (k j at d : ℕ) (l : List ℕ) : Type 0 where
  pub inside : at < length l
  pub whole : at + 1 + d ≤ length l
  pub rest : StagesIn j (drop (at + 1 + d) l)
  pub lines : stage_lines_in k (drop at l) ≡ record_line (take (at + 1 + d - (at + 1)) (drop (at + 1) l)) ∷ stage_lines_in j (drop (at + 1 + d) l)

-- the first of the stages that are left
stage_some : (j : ℕ) (l : List ℕ) → StagesIn (suc j) l → 0 < length l
unfolding StagesIn
stage_some j [] s = absurd s
stage_some j (x ∷ l) s = omega arith

stage_here : (j at : ℕ) (l : List ℕ) → StagesIn (suc j) (drop at l) → StageAt (suc j) j at (get_or l at 0) l
unfolding StagesIn stage_lines_in
stage_here j at l s =
    let i : at < length l = omega (arith, length-drop at l, stage_some j (drop at l) s) in
    let d = get_or l at 0 in
    let e : drop at l ≡ d ∷ drop (at + 1) l = drop-cons l at 0 i ∙ ap (λ k. d ∷ drop k l) (sym (add-one at)) in
    let S = subst (StagesIn (suc j)) e s in
    let f : drop d (drop (at + 1) l) ≡ drop (at + 1 + d) l = drop-drop d (at + 1) l in
    let g : d ≡ at + 1 + d - (at + 1) = omega arith in
    record {
      inside = i;
      whole = omega (arith, S.0, length-drop (at + 1) l);
      rest = subst (StagesIn j) f S.1;
      lines = ap (stage_lines_in (suc j)) e
          ∙ ap (λ i. record_line (take i (drop (at + 1) l)) ∷ stage_lines_in j (drop d (drop (at + 1) l))) g
          ∙ ap (λ r. record_line (take (at + 1 + d - (at + 1)) (drop (at + 1) l)) ∷ stage_lines_in j r) f;
    }

pub stage_at : (k j at d : ℕ) (l : List ℕ) → k ≡ suc j → d ≡ get_or l at 0 → StagesIn k (drop at l) → StageAt k j at d l
stage_at k j at d l e q s =
    subst (λ d. StageAt k j at d l) (sym q) (subst (λ k. StagesIn k (drop at l) → StageAt k j at (get_or l at 0) l) (sym e) (stage_here j at l) s)

pub stages_none : (k : ℕ) (l : List ℕ) → k ≤ 0 → stage_lines_in k l ≡ []
unfolding stage_lines_in
stages_none zero l h = refl
stages_none (suc k) l h = absurd (omega arith)
