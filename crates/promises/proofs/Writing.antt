-- What 02 promises of the writer (#101), of its contract alone.
--   write_given        sound values and a buffer that is long enough: the case is written
--   write_over         an allowance over 16,383 says 9, whatever the buffer
--   write_short        a buffer that is shorter than the case says 6
--   write_length       how long the case is
--   written_values     "Reading it back gives the same values": what was written is a case, and it has the values that were given
--   case_rewritten     "any case that carries an `A` record is rewritten to itself byte for byte"
--   written-kept       "bytes after it keep their content"
--   written_differs    two inputs that are not refused and give the same bytes are the same
-- Assumes nothing.
use mathlib.Core.Path.{◌≡◌, refl, sym, ap, ◌∙◌}
use mathlib.Core.List.{List}
use Rattle.std.specs.Prelude.{Some}
use Prim.Native.Nat.{ℕ, ◌+◌, ◌*◌, ◌/◌, ◌<◌, ◌≤◌}
use native.Mathlib.Omega.{arith}
use lib.ListN.{length, take, drop}
use lib.Seq.{take_at, drop_at}
use Rattle.meaning.specs.Bytes.{write}
use Rattle.meaning.specs.Bounds.{most_allowance, Sound, SoundRows}
use Rattle.meaning.specs.Refusal.{alone}
use Rattle.meaning.specs.Case.{Case, IsCase, case_bytes, allowance_of, matrix_bytes, candidate_bytes}
use Rattle.meaning.specs.Calls.{Answer, refused, given}
use Rattle.meaning.specs.Writing.{case_of, case_written, WriteCall}
use Rattle.promises.specs.Writing.{HasValues}
use Rattle.meaning.proofs.Called.{called_given}
use Rattle.meaning.proofs.Case.{case_sound, case_sound_rows}
use Rattle.meaning.proofs.Writing.{write_sound, sound_write, over_write, short_write, written_case, written_length, written-only, case_of_again}
use Rattle.meaning.proofs.Writing.{case_of_matrix, case_of_candidates, case_of_allowance, case_allowance}

pub write_given : (p n : ℕ) (m cs : List ℕ) (a : ℕ) {old new : List ℕ} {x : Answer ℕ} → Sound p n m → SoundRows p n cs → a ≤ most_allowance
    → length (case_written p n m cs a) ≤ length old → WriteCall p n m cs a old x new
    → (x ≡ given (length (case_written p n m cs a))) × (new ≡ write (case_written p n m cs a) old)
write_given p n m cs a {old} A B h l C =
    let (k, e, (s, b)) = C.result (sound_write p n m cs a old A B h l) in
    (e ∙ ap given s, b)

pub write_over : (p n : ℕ) (m cs : List ℕ) (a : ℕ) {old new : List ℕ} {x : Answer ℕ} → Sound p n m → SoundRows p n cs → most_allowance < a
    → WriteCall p n m cs a old x new → x ≡ refused (alone 9)
write_over p n m cs a {old} A B h C = (C.refusal (alone 9) (over_write p n m cs a old A B h)).0

pub write_short : (p n : ℕ) (m cs : List ℕ) (a : ℕ) {old new : List ℕ} {x : Answer ℕ} → Sound p n m → SoundRows p n cs → a ≤ most_allowance
    → length old < length (case_written p n m cs a) → WriteCall p n m cs a old x new → x ≡ refused (alone 6)
write_short p n m cs a {old} A B h l C = (C.refusal (alone 6) (short_write p n m cs a old A B h l)).0

-- where something is written: what is known of the values, and where the bytes lie
record Wrote (p n : ℕ) (m cs : List ℕ) (a : ℕ) (old : List ℕ) (k : ℕ) (new : List ℕ) : Type 0 where
  matrix : Sound p n m
  list : SoundRows p n cs
  within : a ≤ most_allowance
  front : take k new ≡ case_written p n m cs a
  back : drop k new ≡ drop k old

wrote : (p n : ℕ) (m cs : List ℕ) (a : ℕ) {old new : List ℕ} {k : ℕ} → WriteCall p n m cs a old (given k) new → Wrote p n m cs a old k new
unfolding write
wrote p n m cs a {old} {new} {k} C =
    let (q, (s, b)) = called_given C in
    let S = write_sound p n m cs a old q in
    let bytes : List ℕ = case_written p n m cs a in
    record {
      matrix = S.0;
      list = S.1;
      within = S.2;
      front = ap (take k) b ∙ take_at bytes _ k (sym s);
      back = ap (drop k) b ∙ drop_at bytes _ k (sym s) ∙ ap (λ j. drop j old) (sym s);
    }

pub write_length : (p n : ℕ) (m cs : List ℕ) (a : ℕ) {old new : List ℕ} {k : ℕ} → WriteCall p n m cs a old (given k) new
    → k ≡ 10 + (n + length cs / n) * (n + 2)
write_length p n m cs a C =
    let W = wrote p n m cs a C in
    (called_given C).1.0 ∙ written_length p n m cs a W.matrix W.list

pub written_values : (p n : ℕ) (m cs : List ℕ) (a : ℕ) {old new : List ℕ} {k : ℕ} → WriteCall p n m cs a old (given k) new
    → (c : Case) × IsCase (take k new) c × HasValues c p n m cs a
unfolding case_of
written_values p n m cs a C =
    let W = wrote p n m cs a C in
    let I = written_case p n m cs a W.matrix W.list W.within in (
      case_of p n m cs a,
      record { well_formed = I.well_formed; whole = W.front ∙ I.whole },
      record {
        prime = refl;
        size = refl;
        matrix = case_of_matrix p n m cs a W.matrix;
        candidates = case_of_candidates p n m cs a W.matrix.some_size W.list;
        allowance = case_of_allowance p n m cs a;
        with_record = refl;
      },
    )

pub case_rewritten : {s old new : List ℕ} {c : Case} {h : ℕ × ℕ} {x : Answer ℕ} → IsCase s c → c.allowance ≡ Some h → length s ≤ length old
    → WriteCall c.p c.n (matrix_bytes c) (candidate_bytes c) (allowance_of c) old x new → (x ≡ given (length s)) × (new ≡ write s old)
unfolding case_written
case_rewritten {s} {old} {c = c} I e l C =
    let w = I.well_formed in
    let same : case_written c.p c.n (matrix_bytes c) (candidate_bytes c) (allowance_of c) ≡ s = ap case_bytes (case_of_again c w e) ∙ sym I.whole in
    let (x, b) = write_given c.p c.n (matrix_bytes c) (candidate_bytes c) (allowance_of c) (case_sound c w) (case_sound_rows c w)
    (case_allowance c w e) (omega (arith, ap length same)) C in
    (x ∙ ap (λ t. given (length t)) same, b ∙ ap (λ t. write t old) same)

pub written-kept : (p n : ℕ) (m cs : List ℕ) (a : ℕ) {old new : List ℕ} {k : ℕ} → WriteCall p n m cs a old (given k) new → drop k new ≡ drop k old
written-kept p n m cs a C = (wrote p n m cs a C).back

pub written_differs : (p q n i : ℕ) (m l cs ds : List ℕ) (a b : ℕ) {old new old' new' : List ℕ} {j k : ℕ} → WriteCall p n m cs a old (given j) new
    → WriteCall q i l ds b old' (given k) new' → take j new ≡ take k new' → (p ≡ q) × (n ≡ i) × (m ≡ l) × (cs ≡ ds) × (a ≡ b)
written_differs p q n i m l cs ds a b C D e =
    let W = wrote p n m cs a C in
    let X = wrote q i l ds b D in
    written-only p q n i m l cs ds a b W.matrix W.list W.within X.matrix X.list X.within (sym W.front ∙ e ∙ X.front)
