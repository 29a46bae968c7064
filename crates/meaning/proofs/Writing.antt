-- Writing a case: what is written is a well-formed case with the values that were given, and a case with an A record is written as it was.
--   rows_again        rows, one after another, cut into rows again
--   bytes_cut         bytes are rows, one after another, where their number is a multiple of n
--   halves_below      both halves of an allowance of at most 16,383 are below 128
--   halves_again      an allowance from its halves
--   write_sound, sound_write   what is known of an input that is not refused, and the other way round
--   over_write, short_write   an input that is sound but for its allowance, or for its buffer
--   case_of_well, case_of_matrix, case_of_candidates, case_of_allowance   the case of sound values is well-formed, and has them
--   case_allowance    the allowance of a case with an A record is at most 16,383
--   case_of_again      a well-formed case with an A record is that of its values
--   written_case      what is written is a case
--   written_length    its length
--   written-only      other values give other bytes
-- Assumes nothing.
use mathlib.Core.Path.{◌≡◌, refl, sym, ap, ap₂, subst, ◌∙◌}
use mathlib.Core.List.{List, [], ◌∷◌, ◌++◌, flatten}
use Rattle.std.specs.Prelude.{Option, None, Some}
use Rattle.std.proofs.lemmas.Option.{none-some}
use Prim.Native.Nat.{ℕ, zero, suc, ◌+◌, ◌*◌, ◌/◌, ◌%◌, ◌<◌, ◌≤◌}
use native.Mathlib.Nat.{zero-mul, suc-mul, one-mul, add-mul, zero-div}
use native.Mathlib.Omega.{arith}
use lib.ListN.{length, take, drop, length-drop, take-append-drop}
use lib.Seq.{length-take-le}
use Rattle.meaning.specs.Bytes.{byte_rows, tab, Small}
use Rattle.meaning.specs.Bounds.{most_allowance, Sound, SoundRows}
use Rattle.meaning.specs.Refusal.{alone}
use Rattle.meaning.specs.Case.{record_bytes, flat, Case, records, case_bytes, RowsOf, WellFormed, IsCase, Halves, radix, allowance_in, allowance_of, matrix_bytes, candidate_bytes}
use Rattle.meaning.specs.Writing.{halves_of, case_of, case_written, write_refusal}
use Rattle.meaning.proofs.Bytes.{byte_rows_append, byte_rows_one, small_take}
use Rattle.meaning.proofs.Refusal.{prime_is_prime, refuse_here, refuse_none, none_refuse, first_here, first_next, first_clear, list_sound, sound_list, list_past, no_allowance_false, allowance_no_allowance}
use Rattle.meaning.proofs.Refusal.{no_allowance_true, too_short_false, too_short_true, long-too_short}
use Rattle.meaning.proofs.CaseBytes.{parts_length, case_unique}

byte_rows_none : (n : ℕ) → byte_rows n [] ≡ []
unfolding byte_rows tab
byte_rows_none n = rw (zero-div n)

pub rows_again : (p n : ℕ) → 0 < n → (xs : List (List ℕ)) → RowsOf p n xs → byte_rows n (flatten xs) ≡ xs
unfolding flatten
rows_again p n h [] r = byte_rows_none n
rows_again p n h (x ∷ xs) r =
    byte_rows_append n h 1 x (flatten xs) (r.0.0 ∙ sym (one-mul n)) ∙ ap₂ ◌++◌ (byte_rows_one n h x r.0.0) (rows_again p n h xs r.1)

small_drop : (p k : ℕ) (l : List ℕ) → Small p l → Small p (drop k l)
small_drop p zero l h = h
small_drop p (suc k) [] h = tt
small_drop p (suc k) (x ∷ l) h = small_drop p k l h.1

-- bytes in whole rows
record Cut (p n k : ℕ) (l : List ℕ) : Type 0 where
  rows : List (List ℕ)
  count : length rows ≡ k
  shape : RowsOf p n rows
  bytes : flatten rows ≡ l

cut : (p n k : ℕ) (l : List ℕ) → length l ≡ k * n → Small p l → Cut p n k l
unfolding flatten
cut p n zero [] q s = record { rows = []; count = refl; shape = tt; bytes = refl }
cut p n zero (x ∷ l) q s = absurd (omega (arith, zero-mul n))
cut p n (suc k) l q s =
    let C = cut p n k (drop n l) (length-drop n l ∙ (omega (arith, suc-mul k n))) (small_drop p n l s) in
    record {
      rows = take n l ∷ C.rows;
      count = ap suc C.count;
      shape = ((length-take-le n l (omega (arith, suc-mul k n)), small_take p n l s), C.shape);
      bytes = ap (λ t. take n l ++ t) C.bytes ∙ take-append-drop n l;
    }

pub bytes_cut : (p n k : ℕ) (l : List ℕ) → 0 < n → length l ≡ k * n → Small p l
    → (length (byte_rows n l) ≡ k) × RowsOf p n (byte_rows n l) × (flatten (byte_rows n l) ≡ l)
bytes_cut p n k l h q s =
    let C = cut p n k l q s in
    let e : C.rows ≡ byte_rows n l = sym (rows_again p n h C.rows C.shape) ∙ ap (byte_rows n) C.bytes in
    subst (λ xs. (length xs ≡ k) × RowsOf p n xs × (flatten xs ≡ l)) e (C.count, C.shape, C.bytes)

-- the halves of an allowance
pub halves_below : (a : ℕ) → a ≤ most_allowance → Halves (Some (halves_of a))
halves_below a h = (omega arith, omega arith)

halves_value : (a : ℕ) → radix * (a / radix) + a % radix ≡ a
halves_value a = omega arith

halves_again : (o : Option (ℕ × ℕ)) → Halves o → {h : ℕ × ℕ} → o ≡ Some h → Some (halves_of (allowance_in o)) ≡ o
halves_again None w {h} e = absurd (none-some h e)
halves_again (Some (high, low)) w e =
    let d : (radix * high + low) / radix ≡ high = omega arith in
    let r : (radix * high + low) % radix ≡ low = omega arith in
    ap₂ (λ x y. Some (x, y)) d r

-- what is known of an input that is not refused, and the other way round
pub write_sound : (p n : ℕ) (m cs : List ℕ) (a : ℕ) (out : List ℕ) → write_refusal p n m cs a out ≡ None
    → Sound p n m × SoundRows p n cs × (a ≤ most_allowance) × (length (case_written p n m cs a) ≤ length out)
unfolding write_refusal
write_sound p n m cs a out q =
    let c = first_clear _ q in
    let (A, B) = list_sound p n m cs _ q in
    (A, B, no_allowance_false a (none_refuse 9 _ (c 6)), too_short_false _ out (none_refuse 6 _ (c 7)))

pub sound_write : (p n : ℕ) (m cs : List ℕ) (a : ℕ) (out : List ℕ) → Sound p n m → SoundRows p n cs → a ≤ most_allowance
    → length (case_written p n m cs a) ≤ length out → write_refusal p n m cs a out ≡ None
unfolding write_refusal
sound_write p n m cs a out A B h k =
    sound_list p n m cs _ A B (refuse_none 9 (allowance_no_allowance a h), (refuse_none 6 (long-too_short _ out k), tt))

-- what an input that is sound but for its allowance, or its buffer, is refused with
pub over_write : (p n : ℕ) (m cs : List ℕ) (a : ℕ) (out : List ℕ) → Sound p n m → SoundRows p n cs → most_allowance < a
    → write_refusal p n m cs a out ≡ Some (alone 9)
unfolding write_refusal
over_write p n m cs a out A B h = list_past p n m cs _ A B ∙ first_here _ _ (refuse_here (no_allowance_true a h))

pub short_write : (p n : ℕ) (m cs : List ℕ) (a : ℕ) (out : List ℕ) → Sound p n m → SoundRows p n cs → a ≤ most_allowance
    → length out < length (case_written p n m cs a) → write_refusal p n m cs a out ≡ Some (alone 6)
unfolding write_refusal
short_write p n m cs a out A B h l =
    list_past p n m cs _ A B ∙ first_next _ _ (refuse_none 9 (allowance_no_allowance a h)) ∙ first_here _ _ (refuse_here (too_short_true _ out l))

-- the case of sound values
pub case_of_well : (p n : ℕ) (m cs : List ℕ) (a : ℕ) → Sound p n m → SoundRows p n cs → a ≤ most_allowance → WellFormed (case_of p n m cs a)
unfolding case_of
case_of_well p n m cs a A B h =
    let M = bytes_cut p n n m A.some_size A.matrix A.entries in
    let C = bytes_cut p n _ cs A.some_size B.whole B.entries in
    record {
      prime = prime_is_prime p A.prime A.most;
      least = A.some_size;
      most = A.size;
      halves = halves_below a h;
      square = M.0;
      rows = M.1;
      few = omega (arith, C.0, B.few);
      listed = C.1;
    }

pub case_of_matrix : (p n : ℕ) (m cs : List ℕ) (a : ℕ) → Sound p n m → matrix_bytes (case_of p n m cs a) ≡ m
unfolding case_of
case_of_matrix p n m cs a A = (bytes_cut p n n m A.some_size A.matrix A.entries).2

pub case_of_candidates : (p n : ℕ) (m cs : List ℕ) (a : ℕ) → 0 < n → SoundRows p n cs → candidate_bytes (case_of p n m cs a) ≡ cs
unfolding case_of
case_of_candidates p n m cs a h B = (bytes_cut p n _ cs h B.whole B.entries).2

pub case_of_allowance : (p n : ℕ) (m cs : List ℕ) (a : ℕ) → allowance_of (case_of p n m cs a) ≡ a
unfolding case_of
case_of_allowance p n m cs a = halves_value a

-- the allowance of a case with an A record is not too large
pub case_allowance : (c : Case) → WellFormed c → {h : ℕ × ℕ} → c.allowance ≡ Some h → allowance_of c ≤ most_allowance
case_allowance c w e = within c.allowance w.halves e
  where
    within : (o : Option (ℕ × ℕ)) → Halves o → {h : ℕ × ℕ} → o ≡ Some h → allowance_in o ≤ most_allowance
    within None w {h} e = absurd (none-some h e)
    within (Some (high, low)) w e = omega arith

pub case_of_again : (c : Case) → WellFormed c → {h : ℕ × ℕ} → c.allowance ≡ Some h
    → case_of c.p c.n (matrix_bytes c) (candidate_bytes c) (allowance_of c) ≡ c
unfolding case_of
case_of_again c w e =
    let a = halves_again c.allowance w.halves e in
    let M = rows_again c.p c.n w.least c.matrix w.rows in
    let C = rows_again c.p c.n w.least c.candidates w.listed in
    λ k. record { p = c.p; n = c.n; allowance = a k; matrix = M k; candidates = C k }

-- what is written
pub written_case : (p n : ℕ) (m cs : List ℕ) (a : ℕ) → Sound p n m → SoundRows p n cs → a ≤ most_allowance
    → IsCase (case_written p n m cs a) (case_of p n m cs a)
unfolding case_written
written_case p n m cs a A B h = record { well_formed = case_of_well p n m cs a A B h; whole = refl }

pub written_length : (p n : ℕ) (m cs : List ℕ) (a : ℕ) → Sound p n m → SoundRows p n cs
    → length (case_written p n m cs a) ≡ 10 + (n + length cs / n) * (n + 2)
unfolding case_written case_bytes records case_of flat record_bytes
written_length p n m cs a A B =
    let M = bytes_cut p n n m A.some_size A.matrix A.entries in
    let C = bytes_cut p n _ cs A.some_size B.whole B.entries in
    parts_length p n (Some (halves_of a)) (byte_rows n m) (byte_rows n cs) M.1 C.1
    ∙ ap₂ (λ j k. 4 + (4 + (j * (n + 2) + (k * (n + 2) + 2)))) M.0 C.0 ∙ (omega (arith, add-mul n (length cs / n) (n + 2)))

-- other values give other bytes
pub written-only : (p q n k : ℕ) (m l cs ds : List ℕ) (a b : ℕ) → Sound p n m → SoundRows p n cs → a ≤ most_allowance
    → Sound q k l → SoundRows q k ds → b ≤ most_allowance → case_written p n m cs a ≡ case_written q k l ds b
    → (p ≡ q) × (n ≡ k) × (m ≡ l) × (cs ≡ ds) × (a ≡ b)
unfolding case_of
written-only p q n k m l cs ds a b A B h C D i e =
    let one = written_case p n m cs a A B h in
    let other = written_case q k l ds b C D i in
    let same : case_of p n m cs a ≡ case_of q k l ds b =
    case_unique one (record { well_formed = other.well_formed; whole = e ∙ other.whole }) in (
      ap (λ c. c.p) same,
      ap (λ c. c.n) same,
      sym (case_of_matrix p n m cs a A) ∙ ap matrix_bytes same ∙ case_of_matrix q k l ds b C,
      sym (case_of_candidates p n m cs a A.some_size B) ∙ ap candidate_bytes same ∙ case_of_candidates q k l ds b C.some_size D,
      sym (case_of_allowance p n m cs a) ∙ ap allowance_of same ∙ case_of_allowance q k l ds b,
    )
