-- The sheet of a file, from what reading it gave.
--   CaseRead s v m cs   the numbers read, with the matrix and the candidates, are those of the case that the file is
--   read_case                     what an answer that is a case says
--   read_sound                    no call refuses the values read
--   case_file, refused_file       the text is the file's sheet
-- Assumes nothing.
use mathlib.Core.Path.{◌≡◌, sym, ap, ap₂, ◌∙◌, subst}
use mathlib.Core.List.{List, [], ◌∷◌}
use Rattle.std.proofs.lemmas.Option.{none-some, same_Some}
use Prim.Native.Nat.{ℕ, ◌*◌, ◌^◌, ◌<◌, ◌≤◌}
use lib.ListN.{length, take}
use Rattle.meaning.specs.Bounds.{Sound, SoundRows, matrix_room, candidate_room}
use Rattle.meaning.specs.Case.{Case, IsCase, allowance_of, matrix_bytes, candidate_bytes, Place}
use Rattle.meaning.specs.Line.{text}
use Rattle.meaning.specs.Sheet.{refused_line, SheetLines, sheet, refused}
use Rattle.meaning.proofs.Case.{flatten_length, case_sound, case_sound_rows}
use Rattle.meaning.proofs.SheetRoom.{refused_room}
use Rattle.meaning.proofs.Written.{padded_take}
use native.Mathlib.Omega.{arith}
use Rattle.std.specs.Prelude.{Ok}
use Rattle.casefile.specs.declared.Case.{Case as Numbers}
use Rattle.casefile.specs.declared.Contents.{Contents}
use Rattle.casefile.specs.Reading.{values_of, read_refusal, ReadIs, reads, refuses}
use Rattle.casefile.proofs.Results.{read_sizes}
use Rattle.sheet.specs.Lines.{CaseText, FileText}

pub record CaseRead (s : List ℕ) (v : Numbers) (m cs : List ℕ) : Type 0 where
  pub case : Case
  pub is : IsCase s case
  pub prime : case.p ≡ v.p
  pub size : case.n ≡ v.n
  pub allowance : allowance_of case ≡ v.allowance
  pub matrix : matrix_bytes case ≡ take (v.n * v.n) m
  pub candidates : candidate_bytes case ≡ take (v.count * v.n) cs
  pub entries : v.n * v.n ≤ matrix_room
  pub rows : v.count * v.n ≤ candidate_room

pub read_case : {s : List ℕ} {r : Contents} {v : Numbers} → ReadIs s r → r.answer ≡ Ok v → CaseRead s v r.matrix r.candidates
read_case {s} {r} {v = x} (reads c i v f g) q =
    let w = i.well_formed in
    let n = x.n in
    let count = x.count in
    let e = same_Some (x.p, n, x.allowance, count) (c.p, c.n, allowance_of c, length c.candidates) (sym (ap values_of q) ∙ v) in
    let size : c.n ≡ n = sym (ap (λ x. x.1) e) in
    let number : length c.candidates ≡ count = sym (ap (λ x. x.3) e) in
    let sizes = read_sizes (reads c i v f g) q in
    record {
      case = c;
      is = i;
      prime = sym (ap (λ x. x.0) e);
      size = size;
      allowance = sym (ap (λ x. x.2) e);
      matrix = padded_take (n * n) _ (matrix_bytes c) ((case_sound c w).matrix ∙ ap (λ k. k * k) size) ∙ ap (take (n * n)) (sym f);
      candidates = padded_take (count * n) _ (candidate_bytes c) (flatten_length c.p c.n c.candidates w.listed ∙ ap₂ ◌*◌ number size) ∙ ap (take (count * n)) (sym g);
      entries = sizes.0;
      rows = sizes.1;
    }
read_case (refuses k none_is at v f g) q = absurd (none-some _ (sym (ap read_refusal q) ∙ v))

-- what holds of the case's values holds of those read
carried : (P : ℕ → ℕ → List ℕ → List ℕ → ℕ → Type 0) {s : List ℕ} {v : Numbers} {m cs : List ℕ} (R : CaseRead s v m cs)
    → P R.case.p R.case.n (matrix_bytes R.case) (candidate_bytes R.case) (allowance_of R.case) → P v.p v.n (take (v.n * v.n) m) (take (v.count * v.n) cs) v.allowance
carried P R h =
    subst (λ (x : ℕ × ℕ × List ℕ × List ℕ × ℕ). P x.0 x.1 x.2 x.3 x.4) (λ i. (R.prime i, R.size i, R.matrix i, R.candidates i, R.allowance i)) h

pub read_sound : {s : List ℕ} {v : Numbers} {m cs : List ℕ} → CaseRead s v m cs
    → Sound v.p v.n (take (v.n * v.n) m) × SoundRows v.p v.n (take (v.count * v.n) cs)
read_sound R = let w = R.is.well_formed in carried (λ p n m cs a. Sound p n m × SoundRows p n cs) R (case_sound R.case w, case_sound_rows R.case w)

pub case_file : {s : List ℕ} {v : Numbers} {m cs t : List ℕ} → CaseRead s v m cs
    → CaseText v.p v.n (take (v.n * v.n) m) (take (v.count * v.n) cs) v.allowance t → FileText s t
case_file R T =
    let c = R.case in
    let xs = T.lines in
    let whole = carried (λ p n m cs a. SheetLines p n m cs a xs → SheetLines c.p c.n (matrix_bytes c) (candidate_bytes c) (allowance_of c) xs) R (λ L. L) T.sheet in
    record { sheet = sheet c xs R.is whole T.is; room = T.room }

pub refused_file : {s t : List ℕ} {k : ℕ} → ((c : Case) → ¬ IsCase s c) × Place s k → t ≡ text (refused_line k ∷ []) → k < 10 ^ 20 → FileText s t
refused_file {k = k} N T h = record { sheet = refused k N.0 N.1 T; room = omega (arith, ap length T, refused_room k h) }
