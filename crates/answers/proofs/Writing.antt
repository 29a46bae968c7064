-- The writer and the reader, of the code's own answers (02, #101): what one gives goes through the other and comes back. Of each no more is known than
-- what its contract says.
--   written_read     "Reading it back gives the same values"
--   read_written     "any case that carries an `A` record is rewritten to itself byte for byte"
-- Assumes nothing.
use mathlib.Core.Path.{◌≡◌, sym, ap, ap₂, ◌∙◌, subst}
use mathlib.Core.List.{List}
use Rattle.std.specs.Prelude.{Some, Result, Ok}
use Rattle.std.proofs.lemmas.Option.{same_Some}
use Prim.Native.Nat.{ℕ, ◌*◌, ◌/◌, ◌≤◌}
use native.Mathlib.Nat.{div-eq_of_eq-mul_left}
use lib.ListN.{length, take}
use Rattle.meaning.specs.Bytes.{write, padded}
use Rattle.meaning.specs.Bounds.{matrix_room, candidate_room}
use Rattle.meaning.specs.Case.{Case, IsCase, matrix_bytes, candidate_bytes}
use Rattle.meaning.specs.Writing.{WriteCall}
use Rattle.meaning.proofs.Case.{flatten_length, case_sound}
use Rattle.meaning.proofs.Written.{padded_take}
use Rattle.promises.proofs.Writing.{written_values, case_rewritten}
use Rattle.casefile.specs.Reading.{values_of, ReadIs}
use Rattle.casefile.proofs.AsRead.{read_case}
use Rattle.casefile.specs.declared.Contents.{Contents}
use Rattle.reasons.specs.Reasons.{answer_of}
use Rattle.reasons.specs.declared.Reason.{Reason}
use Rattle.answers.proofs.Unique.{answer_only}

-- what was written, read: the contents have the values that were given
pub written_read : (p n : ℕ) (m cs : List ℕ) (a k : ℕ) {old new : List ℕ} {r : Contents} → WriteCall p n m cs a old (answer_of (Ok k)) new
    → ReadIs (take k new) r
    → (values_of r.answer ≡ Some (p, n, a, length cs / n)) × (r.matrix ≡ padded matrix_room m) × (r.candidates ≡ padded candidate_room cs)
written_read p n m cs a k {r = r} C R =
    let (c, I, H) = written_values p n m cs a C in
    let A = read_case I R in
    let w = I.well_formed in
    let rows : length c.candidates ≡ length cs / n =
    sym (div-eq_of_eq-mul_left w.least (flatten_length c.p c.n c.candidates w.listed))
    ∙ (λ j. length (H.candidates j) / H.size j) in (
      A.values ∙ (λ j. Some (H.prime j, H.size j, H.allowance j, rows j)),
      A.matrix ∙ ap (padded matrix_room) H.matrix,
      A.candidates ∙ ap (padded candidate_room) H.candidates,
    )

-- a case with an A record, read, and what was read written: the same bytes. The reader hands out n·n bytes of the matrix and n bytes for each candidate
pub read_written : {s old new : List ℕ} {c : Case} {h : ℕ × ℕ} {r : Contents} (w : Result ℕ Reason) (p n a k : ℕ) → IsCase s c → c.allowance ≡ Some h
    → ReadIs s r → r.answer ≡ Ok (record { p = p; n = n; allowance = a; count = k }) → length s ≤ length old
    → WriteCall p n (take (n * n) r.matrix) (take (k * n) r.candidates) a old (answer_of w) new
    → (w ≡ Ok (length s)) × (new ≡ write s old)
read_written {s} {old} {new} {c} {r = r} w p n a k I e R q l C =
    let A = read_case I R in
    let W = I.well_formed in
    let v = same_Some _ _ (sym (ap values_of q) ∙ A.values) in
    let size : n ≡ c.n = ap (λ t. t.1) v in
    let matrix : take (n * n) r.matrix ≡ matrix_bytes c =
    ap₂ (λ j t. take (j * j) t) size A.matrix ∙ sym (padded_take (c.n * c.n) matrix_room (matrix_bytes c) (case_sound c W).matrix) in
    let list : take (k * n) r.candidates ≡ candidate_bytes c =
    (λ j. take ((v j).3 * size j) (A.candidates j))
    ∙ sym (padded_take (length c.candidates * c.n) candidate_room (candidate_bytes c) (flatten_length c.p c.n c.candidates W.listed)) in
    let same = subst (λ (t : ℕ × ℕ × List ℕ × List ℕ × ℕ). WriteCall t.0 t.1 t.2 t.3 t.4 old (answer_of w) new) (λ j. ((v j).0, size j, matrix j, list j, (v j).2)) C in
    let (x, b) = case_rewritten I e l same in
    (answer_only w (Ok (length s)) x, b)
