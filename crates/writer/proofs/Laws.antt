-- Bytes laid down behind one another are laid down at once.
--   laid_start        nothing is laid down yet
--   laid_turn         bytes behind others
--   laid_length       the buffer is as long as before
--   laid_room         there is room for more behind them
--   laid_front        bytes at the front of a buffer
--   marked_next       rows and one more
--   marked_room       there is room for that one
--   marked_all        all rows
--   rows_fit, rows_turn   one record more, behind those of the first rows
--   NextRow, next_row   the next row of a cut into rows, and what is behind it
--   last_row          where less than a row is left, all rows came
--   square_whole      a matrix is a whole number of rows
--   head_of p n a      the first two records of a case
--   written_parts     a case is these, its rows, its candidates and its end
--   CaseFits, parts_fit   where there is room for the case, there is room for each part behind those before it
--   behind_head, behind_rows, behind_list   so of the rows, of the candidates, of the end
--   written_all       where they are laid down, the case is written, and its length told
-- Assumes nothing.
use mathlib.Core.Path.{◌≡◌, refl, sym, ap, ap₂, subst, ◌∙◌}
use mathlib.Core.List.{List, [], ◌∷◌, ◌++◌, map, append_assoc, append-nil}
use Prim.Native.Nat.{ℕ, suc, ◌+◌, ◌*◌, ◌/◌, ◌%◌, ◌<◌, ◌≤◌}
use native.Mathlib.Nat.{add-zero, div-eq_of_eq-mul_left}
use native.Mathlib.Numerals.{add-one}
use native.Mathlib.Omega.{arith}
use lib.ListN.{length, take, drop, length-append, length-drop, take-append-drop}
use lib.Seq.{take_at, drop_at, length-take-le, drop-append-add, drop-drop, take_all}
use Rattle.std.proofs.lemmas.Nat.{le-div, div_below}
use Rattle.meaning.specs.Bytes.{byte_rows, row_at, write}
use Rattle.meaning.specs.Bounds.{Sound}
use Rattle.meaning.specs.Case.{Record, record_bytes, flat, records, case_bytes, radix}
use Rattle.meaning.specs.Case.Record.{row, candidate, end}
use Rattle.meaning.specs.Writing.{case_of, case_written}
use Rattle.meaning.proofs.Bytes.{byte_rows_count, byte_rows-next}
use Rattle.writer.specs.Laying.{laid_down, LaidAt, marked, WholeRows}

front_length : (d : List ℕ) (at : ℕ) (s : List ℕ) → at ≤ length d → length (take at d ++ s) ≡ at + length s
front_length d at s h = length-append (take at d) s ∙ ap (λ k. k + length s) (length-take-le at d h)

laid_split : (d : List ℕ) (at : ℕ) (s : List ℕ) → laid_down d at s ≡ (take at d ++ s) ++ drop (at + length s) d
laid_split d at s = sym (append_assoc (take at d) s _)

laid_twice : (d : List ℕ) (at : ℕ) (s t : List ℕ) → at ≤ length d → laid_down (laid_down d at s) (at + length s) t ≡ laid_down d at (s ++ t)
laid_twice d at s t h =
    let k = front_length d at s h in
    let front = ap (take (at + length s)) (laid_split d at s) ∙ take_at (take at d ++ s) _ (at + length s) k in
    let sum : at + length s + length t ≡ at + length (s ++ t) = omega (arith, length-append s t) in
    let back = ap (drop (at + length s + length t)) (laid_split d at s)
    ∙ ap (λ j. drop (j + length t) ((take at d ++ s) ++ drop (at + length s) d)) (sym k)
    ∙ drop-append-add (take at d ++ s) _ (length t) ∙ drop-drop (length t) (at + length s) d ∙ ap (λ j. drop j d) sum in
    ap₂ (λ a b. a ++ (t ++ b)) front back ∙ append_assoc (take at d) s _ ∙ ap (λ l. take at d ++ l) (sym (append_assoc s t _))

pub laid_start : (d : List ℕ) (at : ℕ) → LaidAt d at [] at d
laid_start d at = record {
  place = sym (add-zero at);
  buffer = sym (ap (λ k. take at d ++ drop k d) (add-zero at) ∙ take-append-drop at d);
}

pub laid_turn : {d e f s t : List ℕ} {at r q : ℕ} → at ≤ length d → LaidAt d at s r e → LaidAt e r t q f → LaidAt d at (s ++ t) q f
laid_turn {d} {s = s} {t = t} {at = at} h A B = record {
  place = omega (arith, A.place, B.place, length-append s t);
  buffer = B.buffer ∙ ap₂ (λ l k. laid_down l k t) A.buffer A.place ∙ laid_twice d at s t h;
}

pub laid_length : {d e s : List ℕ} {at r : ℕ} → at + length s ≤ length d → LaidAt d at s r e → length e ≡ length d
laid_length {d} {e} {s} {at} h A =
    ap length (A.buffer ∙ laid_split d at s) ∙ length-append (take at d ++ s) _
    ∙ (omega (arith, front_length d at s (omega arith), length-drop (at + length s) d))

-- there is room behind them for more
pub laid_room : {d e s : List ℕ} {at r : ℕ} (t : List ℕ) → at + (length s + length t) ≤ length d → LaidAt d at s r e → r + length t ≤ length e
laid_room t h A = omega (arith, A.place, laid_length (omega arith) A)

laid_front : {d e s : List ℕ} {r : ℕ} → LaidAt d 0 s r e → (r ≡ length s) × (e ≡ write s d)
unfolding write
laid_front {d} {s = s} A =
    let k : 0 + length s ≡ length s = omega arith in
    (A.place ∙ k, A.buffer ∙ ap (λ j. s ++ drop j d) k)

-- rows as records
marked_append : (b : ℕ) (xs ys : List (List ℕ)) → marked b (xs ++ ys) ≡ marked b xs ++ marked b ys
unfolding marked
marked_append b [] ys = refl
marked_append b (x ∷ xs) ys = ap (λ t. (255 ∷ b ∷ x) ++ t) (marked_append b xs ys) ∙ sym (append_assoc (255 ∷ b ∷ x) (marked b xs) (marked b ys))

pub marked_next : {t : ℕ} (b n : ℕ) (s : List ℕ) → t < length s / n
    → marked b (take (suc t) (byte_rows n s)) ≡ marked b (take t (byte_rows n s)) ++ (255 ∷ b ∷ row_at n s t)
unfolding marked
marked_next {t} b n s h =
    ap (marked b) (byte_rows-next n s h) ∙ marked_append b (take t (byte_rows n s)) (row_at n s t ∷ [])
    ∙ ap (λ l. marked b (take t (byte_rows n s)) ++ l) (append-nil (255 ∷ b ∷ row_at n s t))

-- one of them behind the first ones takes no more than all of them
pub marked_room : {t : ℕ} (b n : ℕ) (s : List ℕ) → t < length s / n
    → length (marked b (take t (byte_rows n s))) + length (255 ∷ b ∷ row_at n s t) ≤ length (marked b (byte_rows n s))
marked_room {t} b n s h =
    let xs : List (List ℕ) = byte_rows n s in
    let all = ap (λ l. length (marked b l)) (sym (take-append-drop (suc t) xs)) ∙ ap length (marked_append b (take (suc t) xs) (drop (suc t) xs))
    ∙ length-append (marked b (take (suc t) xs)) (marked b (drop (suc t) xs)) in
    let one = ap length (marked_next b n s h) ∙ length-append (marked b (take t xs)) (255 ∷ b ∷ row_at n s t) in
    omega (arith, all, one)

pub marked_all : {t : ℕ} (b n : ℕ) (s : List ℕ) → length s / n ≤ t → marked b (take t (byte_rows n s)) ≡ marked b (byte_rows n s)
marked_all {t} b n s h = ap (marked b) (take_all t (byte_rows n s) (omega (arith, byte_rows_count n s)))

-- one record more, behind those of the first rows
pub rows_fit : {d e : List ℕ} {at r t : ℕ} (b n : ℕ) (s : List ℕ) → t < length s / n → at + length (marked b (byte_rows n s)) ≤ length d
    → LaidAt d at (marked b (take t (byte_rows n s))) r e → r + length (255 ∷ b ∷ row_at n s t) ≤ length e
rows_fit b n s h k A = laid_room (255 ∷ b ∷ row_at n s _) (omega (arith, marked_room b n s h)) A

pub rows_turn : {d e f x : List ℕ} {at r q t : ℕ} (b n : ℕ) (s : List ℕ) → t < length s / n → at + length (marked b (byte_rows n s)) ≤ length d
    → LaidAt d at (marked b (take t (byte_rows n s))) r e → x ≡ row_at n s t → LaidAt e r (255 ∷ b ∷ x) q f
    → LaidAt d at (marked b (take (t + 1) (byte_rows n s))) q f
rows_turn {d} {e} {f} {at = at} {r} {q} {t} b n s h k A g B =
    let all = laid_turn (omega arith) A (subst (λ l. LaidAt e r (255 ∷ b ∷ l) q f) g B) in
    subst (λ l. LaidAt d at l q f) (sym (marked_next b n s h) ∙ ap (λ j. marked b (take j (byte_rows n s))) (sym (add-one t))) all

-- the row of number t, where the t before it came, and what is behind it
pub record NextRow (n t : ℕ) (s x rest : List ℕ) : Type 0 where
  pub more : t < length s / n
  pub row : x ≡ row_at n s t
  pub behind : rest ≡ drop ((t + 1) * n) s

pub next_row : {l x rest : List ℕ} (n t : ℕ) (s : List ℕ) → 0 < n → l ≡ drop (t * n) s → l ≡ x ++ rest → length x ≡ n → NextRow n t s x rest
unfolding row_at
next_row {l} {x} {rest} n t s h e q k =
    let d : drop (t * n) s ≡ x ++ rest = sym e ∙ q in
    let room : (t + 1) * n ≤ length s = omega (arith, ap length d, length-append x rest, length-drop (t * n) s, k, h) in
    record {
      more = omega (arith, le-div (t + 1) (length s) n h room);
      row = sym (ap (take n) d ∙ take_at x rest n k);
      behind = sym (drop_at x rest n k) ∙ sym (ap (drop n) d) ∙ drop-drop n (t * n) s ∙ ap (λ j. drop j s) (omega arith);
    }

pub last_row : {l : List ℕ} (n t : ℕ) (s : List ℕ) → 0 < n → l ≡ drop (t * n) s → length l < n → length s / n ≤ t
last_row n t s h e k = omega (arith, div_below (length s) n (t + 1) h (omega (arith, ap length e, length-drop (t * n) s)))

-- a matrix is a whole number of rows
pub square_whole : {p n : ℕ} {m : List ℕ} → Sound p n m → WholeRows n m
square_whole {n = n} A = record {
  some_size = A.some_size;
  whole = A.matrix ∙ ap (λ k. k * n) (sym (div-eq_of_eq-mul_left A.some_size A.matrix));
}

-- a case, part by part
flat-marked : (f : List ℕ → Record) (b : ℕ) → ((l : List ℕ) → record_bytes (f l) ≡ 255 ∷ b ∷ l) → (xs : List (List ℕ)) (ys : List Record)
    → flat (map f xs ++ ys) ≡ marked b xs ++ flat ys
unfolding flat marked
flat-marked f b e [] ys = refl
flat-marked f b e (x ∷ xs) ys = ap₂ ◌++◌ (e x) (flat-marked f b e xs ys) ∙ sym (append_assoc (255 ∷ b ∷ x) (marked b xs) (flat ys))

-- its first two records
abbrev pub head_of : ℕ → ℕ → ℕ → List ℕ
head_of p n a = 255 ∷ 70 ∷ p ∷ n ∷ 255 ∷ 65 ∷ a / radix ∷ a % radix ∷ []

written_parts : (p n : ℕ) (m cs : List ℕ) (a : ℕ)
    → ((head_of p n a ++ marked 82 (byte_rows n m)) ++ marked 67 (byte_rows n cs)) ++ (255 ∷ 69 ∷ []) ≡ case_written p n m cs a
unfolding case_written case_of case_bytes records flat record_bytes
written_parts p n m cs a =
    let head : List ℕ = head_of p n a in
    let ms : List ℕ = marked 82 (byte_rows n m) in
    append_assoc (head ++ ms) (marked 67 (byte_rows n cs)) _ ∙ append_assoc head ms _
    ∙ ap (λ l. head ++ l)
    (ap (λ l. ms ++ l) (sym (flat-marked candidate 67 (λ l. refl) (byte_rows n cs) (end ∷ [])))
    ∙ sym (flat-marked row 82 (λ l. refl) (byte_rows n m) (map candidate (byte_rows n cs) ++ (end ∷ []))))

-- where there is room for the case, there is room for each part behind those before it, whatever the eight bytes at the front are
pub record CaseFits (n : ℕ) (m cs : List ℕ) (k : ℕ) : Type 0 where
  pub head : 8 ≤ k
  pub rows : 8 + length (marked 82 (byte_rows n m)) ≤ k
  pub list : 8 + length (marked 82 (byte_rows n m)) + length (marked 67 (byte_rows n cs)) ≤ k
  pub ends : 8 + length (marked 82 (byte_rows n m)) + length (marked 67 (byte_rows n cs)) + 2 ≤ k

pub parts_fit : (p n : ℕ) (m cs : List ℕ) (a : ℕ) {k : ℕ} → length (case_written p n m cs a) ≤ k → CaseFits n m cs k
parts_fit p n m cs a h =
    let front : List ℕ = head_of p n a ++ marked 82 (byte_rows n m) in
    let whole = length-append (front ++ marked 67 (byte_rows n cs)) (255 ∷ 69 ∷ []) in
    let most = length-append front (marked 67 (byte_rows n cs)) in
    let some = length-append (head_of p n a) (marked 82 (byte_rows n m)) in
    let all = ap length (written_parts p n m cs a) in
    record {
      head = omega (arith, all, whole, most, some);
      rows = omega (arith, all, whole, most, some);
      list = omega (arith, all, whole, most, some);
      ends = omega (arith, all, whole, most, some);
    }

pub behind_head : {n r : ℕ} {h m cs d e : List ℕ} → length h ≡ 8 → CaseFits n m cs (length d) → LaidAt d 0 h r e
    → r + length (marked 82 (byte_rows n m)) ≤ length e
behind_head {n} {m = m} l F A = laid_room (marked 82 (byte_rows n m)) (omega (arith, l, F.rows)) A

pub behind_rows : {n r q : ℕ} {h m cs d e f : List ℕ} → length h ≡ 8 → CaseFits n m cs (length d) → LaidAt d 0 h r e
    → LaidAt e r (marked 82 (byte_rows n m)) q f → q + length (marked 67 (byte_rows n cs)) ≤ length f
behind_rows {n} {cs = cs} l F A B =
    let same = laid_length (omega (arith, l, F.head)) A in
    laid_room (marked 67 (byte_rows n cs)) (omega (arith, l, F.list, A.place, same)) B

pub behind_list : {n r q t : ℕ} {h m cs d e f g : List ℕ} → length h ≡ 8 → CaseFits n m cs (length d) → LaidAt d 0 h r e
    → LaidAt e r (marked 82 (byte_rows n m)) q f → LaidAt f q (marked 67 (byte_rows n cs)) t g → t + 2 ≤ length g
behind_list l F A B C =
    let same = laid_length (omega (arith, l, F.head)) A in
    let so = laid_length (behind_head l F A) B in
    laid_room (255 ∷ 69 ∷ []) (omega (arith, l, F.ends, A.place, B.place, same, so)) C

-- so the case is written, and its length told
pub written_all : {d e : List ℕ} {r : ℕ} (p n : ℕ) (m cs : List ℕ) (a : ℕ)
    → LaidAt d 0 (((head_of p n a ++ marked 82 (byte_rows n m)) ++ marked 67 (byte_rows n cs)) ++ (255 ∷ 69 ∷ [])) r e
    → (r ≡ length (case_written p n m cs a)) × (e ≡ write (case_written p n m cs a) d)
written_all {d} {e} {r} p n m cs a A = laid_front (subst (λ l. LaidAt d 0 l r e) (written_parts p n m cs a) A)
