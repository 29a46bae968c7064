-- A design's text, byte by byte.
--   separator_found, separator_turn, separator_end   the separator of what is left: its first byte, none yet, and there is no more
--   same_equal         std's test of equal bytes
--   mark_stripped, return_stripped   a text without the mark at its front, a line without the carriage return at its end, as std strips them
--   trimmed s l        the line l without the separators s at its end
--   trimmed_none, trimmed_turn, trimmed_found   nothing is left, the last byte is a separator, it is another
--   word_tested        a word, as std tests it
--   letter_told        the letter, by which word it is
--   letter_byte        the letter in the definition of a design is this one, or no byte of a case
--   number_none, number_start, number_turn, number_other, number_end   an empty cell, all digits, one more, a byte that is none, no more
--   small_is, small_none   a number that is small, and one that is not
--   small_over         one that is too large before its last digit is none
-- Assumes nothing.
use mathlib.Core.Path.{◌≡◌, refl, sym, ap, ap₂, subst, ◌∙◌}
use mathlib.Core.Bool.{Bool, true, false, ◌&&◌, cond, and-true}
use mathlib.Core.List.{List, [], ◌∷◌, ◌++◌}
use Rattle.std.specs.Prelude.{Option, None, Some, MatchOption}
use Rattle.std.specs.Option.{unwrap_or}
use Rattle.std.specs.Cmp.Lexicographic.{pointwise}
use Prim.Native.Nat.{ℕ, zero, suc, ◌+◌, ◌*◌, ◌-◌, ◌<◌, ◌≤◌}
use native.Mathlib.Numerals.{add-one}
use native.Mathlib.Omega.{arith}
use lib.ListN.{length, get_or, take, drop, length-append, get_or-append, drop_of_length-le}
use lib.Seq.{drop-cons, take-length, get_or-append_seam}
use lib.Dec.{leb, eqb}
use denote.Ref.{Bor}
use borrow.Author.Tests.{leb-true, leb-false, le-leb, lt-leb, eq-eqb, ne_eqb}
use Rattle.std.proofs.lemmas.List.{take-append-le}
use Rattle.std.proofs.lemmas.Option.{none-some, same_Some}
use Rattle.meaning.specs.Ascii.{ascii}
use Rattle.meaning.specs.Bounds.{most_allowance}
use Rattle.meaning.specs.Design.{is_separator, separator_in, without_mark, without_return, used, is_digit, number_from, number_in, no_byte, same, letter_of}
use Rattle.cells.specs.Cells.{letter_in, small}

-- what is left from a place on is the byte there and what is left behind it
left_at : (s : List ℕ) (i : ℕ) → i < length s → drop i s ≡ get_or s i 0 ∷ drop (i + 1) s
left_at s i h = drop-cons s i 0 h ∙ ap (λ j. get_or s i 0 ∷ drop j s) (sym (add-one i))

-- the separator
separator_at : {b : Bool} (t : List ℕ) (i : ℕ) → i < length t → is_separator (get_or t i 0) ≡ b
    → separator_in (drop i t) ≡ cond b (get_or t i 0) (separator_in (drop (i + 1) t))
unfolding separator_in
separator_at t i h e =
    ap separator_in (left_at t i h) ∙ ap (λ x. cond x (get_or t i 0) (separator_in (drop (i + 1) t))) e

pub separator_found : (t : List ℕ) (i : ℕ) → i < length t → is_separator (get_or t i 0) ≡ true → separator_in (drop i t) ≡ get_or t i 0
separator_found t i h e = separator_at t i h e

pub separator_turn : (t : List ℕ) (i : ℕ) → i < length t → is_separator (get_or t i 0) ≡ false → separator_in (drop (i + 1) t) ≡ separator_in (drop i t)
separator_turn t i h e = sym (separator_at t i h e)

pub separator_end : (t : List ℕ) (i : ℕ) → length t ≤ i → separator_in (drop i t) ≡ 44
unfolding separator_in
separator_end t i h = ap separator_in (drop_of_length-le t h)

-- equal bytes
pub same_equal : (a b : List ℕ) → same a b ≡ pointwise eqb a b
unfolding same
same_equal [] [] = refl
same_equal [] (y ∷ b) = refl
same_equal (x ∷ a) [] = refl
same_equal (x ∷ a) (y ∷ b) = ap (λ t. eqb x y && t) (same_equal a b)

-- the byte-order mark
abbrev pub mark_bytes : List ℕ
mark_bytes = 239 ∷ 187 ∷ 191 ∷ []

mark_same : (t : List ℕ) → without_mark t ≡ cond (pointwise eqb (take 3 t) mark_bytes) (drop 3 t) t
unfolding without_mark
mark_same [] = refl
mark_same (x ∷ []) = refl
mark_same (x ∷ y ∷ []) = refl
mark_same (x ∷ y ∷ z ∷ t) =
    ap (λ b. cond (eqb x 239 && (eqb y 187 && b)) t (x ∷ y ∷ z ∷ t)) (sym (and-true (eqb z 191)))

pub mark_stripped : (r : Option (Bor (List ℕ))) (t : Bor (List ℕ))
    → MatchOption r (pointwise eqb (take 3 t.now) mark_bytes ≡ false) (λ x. (pointwise eqb (take 3 t.now) mark_bytes ≡ true) × (x.now ≡ drop 3 t.now) × (length x.now + 3 ≡ length t.now))
    → (unwrap_or r t).now ≡ without_mark t.now
mark_stripped None t h = sym (mark_same t.now ∙ ap (λ b. cond b (drop 3 t.now) t.now) h)
mark_stripped (Some x) t h = h.1 ∙ sym (mark_same t.now ∙ ap (λ b. cond b (drop 3 t.now) t.now) h.0)

-- the carriage return
last_same : (l : List ℕ) → pointwise eqb (drop (length l - 1) l) (13 ∷ []) ≡ eqb (get_or l (length l - 1) 0) 13
last_same [] = refl
last_same (x ∷ l) =
    let k : ℕ = length (x ∷ l) - 1 in
    let more : drop k (x ∷ l) ≡ get_or (x ∷ l) k 0 ∷ drop (k + 1) (x ∷ l) = left_at (x ∷ l) k (omega arith) in
    let none : drop (k + 1) (x ∷ l) ≡ [] = drop_of_length-le (x ∷ l) (omega arith) in
    ap (λ t. pointwise eqb t (13 ∷ [])) (more ∙ ap (λ t. get_or (x ∷ l) k 0 ∷ t) none) ∙ and-true _

return_same : (l : List ℕ) → without_return l ≡ cond (pointwise eqb (drop (length l - 1) l) (13 ∷ [])) (take (length l - 1) l) l
unfolding without_return
return_same l = ap (λ b. cond b (take (length l - 1) l) l) (sym (last_same l))

pub return_stripped : (r : Option (Bor (List ℕ))) (l : Bor (List ℕ))
    → MatchOption r (pointwise eqb (drop (length l.now - 1) l.now) (13 ∷ []) ≡ false)
    (λ x. (pointwise eqb (drop (length l.now - 1) l.now) (13 ∷ []) ≡ true) × (x.now ≡ take (length l.now - 1) l.now)
    × (length x.now + 1 ≡ length l.now))
    → (unwrap_or r l).now ≡ without_return l.now
return_stripped None l h = sym (return_same l.now ∙ ap (λ b. cond b (take (length l.now - 1) l.now) l.now) h)
return_stripped (Some x) l h = h.1 ∙ sym (return_same l.now ∙ ap (λ b. cond b (take (length l.now - 1) l.now) l.now) h.0)

-- separators at the end
abbrev pub trimmed : ℕ → List ℕ → List ℕ
trimmed s l = take (used s l (length l)) l

used_most : (s : ℕ) (l : List ℕ) (k : ℕ) → used s l k ≤ k
unfolding used
used_most s l zero = omega arith
used_most s l (suc k) = go (eqb (get_or l k 0) s) (used_most s l k)
  where
    go : (b : Bool) → used s l k ≤ k → cond b (used s l k) (suc k) ≤ suc k
    go true h = omega arith
    go false h = omega arith

used_front : (s : ℕ) (l t : List ℕ) (k : ℕ) → k ≤ length l → used s (l ++ t) k ≡ used s l k
unfolding used
used_front s l t zero h = refl
used_front s l t (suc k) h =
    ap₂ (λ x u. cond (eqb x s) u (suc k)) (get_or-append l t 0 k (omega arith)) (used_front s l t k (omega arith))

-- how much of a line is used, by its last byte
used_last : {b : Bool} (s x : ℕ) (l : List ℕ) → eqb x s ≡ b → used s (l ++ x ∷ []) (length (l ++ x ∷ [])) ≡ cond b (used s l (length l)) (suc (length l))
unfolding used
used_last s x l e =
    let long : length (l ++ x ∷ []) ≡ suc (length l) = length-append l (x ∷ []) ∙ add-one (length l) in
    ap (used s (l ++ x ∷ [])) long
    ∙ ap₂ (λ y u. cond (eqb y s) u (suc (length l))) (get_or-append_seam l x [] 0) (used_front s l (x ∷ []) (length l) (omega arith))
    ∙ ap (λ c. cond c (used s l (length l)) (suc (length l))) e

pub trimmed_none : (s : ℕ) (l : List ℕ) → length l ≡ 0 → l ≡ trimmed s l
unfolding used
trimmed_none s [] h = refl
trimmed_none s (x ∷ l) h = absurd (omega arith)

pub trimmed_turn : (s x : ℕ) (l w : List ℕ) → w ≡ l ++ x ∷ [] → x ≡ s → trimmed s w ≡ trimmed s l
trimmed_turn s x l w e h =
    ap (trimmed s) e ∙ ap (λ k. take k (l ++ x ∷ [])) (used_last s x l (eq-eqb x s h)) ∙ take-append-le (used s l (length l)) l (x ∷ []) (used_most s l (length l))

pub trimmed_found : (s x : ℕ) (l w : List ℕ) → w ≡ l ++ x ∷ [] → ¬ (x ≡ s) → w ≡ trimmed s w
trimmed_found s x l w e h =
    let long : length (l ++ x ∷ []) ≡ suc (length l) = length-append l (x ∷ []) ∙ add-one (length l) in
    let all : l ++ x ∷ [] ≡ trimmed s (l ++ x ∷ []) =
    sym (ap (λ k. take k (l ++ x ∷ [])) (used_last s x l (ne_eqb x s h) ∙ sym long) ∙ take-length (l ++ x ∷ [])) in
    e ∙ all ∙ ap (trimmed s) (sym e)

-- words
pub word_tested : {b r : Bool} {v u : List ℕ} (w : List ℕ) → r ≡ pointwise eqb w v → v ≡ u → r ≡ b → same w u ≡ b
word_tested {u = u} w e f h = same_equal w u ∙ ap (pointwise eqb w) (sym f) ∙ sym e ∙ h

pub letter_told : {a b c d : Bool} (w : List ℕ) → same w (ascii "field") ≡ a → same w (ascii "allowance") ≡ b → same w (ascii "row") ≡ c
    → same w (ascii "candidate") ≡ d → letter_in w ≡ cond a (Some 70) (cond b (Some 65) (cond c (Some 82) (cond d (Some 67) None)))
unfolding letter_in
letter_told w e f g h = λ i. cond (e i) (Some 70) (cond (f i) (Some 65) (cond (g i) (Some 82) (cond (h i) (Some 67) None)))

pub letter_byte : (w : List ℕ) → letter_of w ≡ unwrap_or (letter_in w) no_byte
unfolding letter_of letter_in
letter_byte w = go (same w (ascii "field")) (same w (ascii "allowance")) (same w (ascii "row")) (same w (ascii "candidate"))
  where
    go : (a b c d : Bool) → cond a 70 (cond b 65 (cond c 82 (cond d 67 no_byte)))
        ≡ unwrap_or (cond a (Some 70) (cond b (Some 65) (cond c (Some 82) (cond d (Some 67) None)))) no_byte
    go true b c d = refl
    go false true c d = refl
    go false false true d = refl
    go false false false true = refl
    go false false false false = refl

-- numbers
number_at : {b : Bool} (s : List ℕ) (i v : ℕ) → i < length s → is_digit (get_or s i 0) ≡ b
    → number_from v (drop i s) ≡ cond b (number_from (10 * v + (get_or s i 0 - 48)) (drop (i + 1) s)) None
unfolding number_from
number_at s i v h e =
    ap (number_from v) (left_at s i h) ∙ ap (λ b. cond b (number_from (10 * v + (get_or s i 0 - 48)) (drop (i + 1) s)) None) e

pub number_none : (s : List ℕ) → length s ≡ 0 → None ≡ small (number_in s)
unfolding number_in small
number_none [] h = refl
number_none (b ∷ s) h = absurd (omega arith)

pub number_start : (s : List ℕ) → ¬ (length s ≡ 0) → number_from 0 s ≡ number_in s
unfolding number_in
number_start [] h = absurd (h refl)
number_start (b ∷ s) h = refl

pub number_turn : (s : List ℕ) (i v : ℕ) → i < length s → is_digit (get_or s i 0) ≡ true
    → number_from (10 * v + (get_or s i 0 - 48)) (drop (i + 1) s) ≡ number_from v (drop i s)
number_turn s i v h e = sym (number_at s i v h e)

pub number_other : (s : List ℕ) (i v : ℕ) → i < length s → is_digit (get_or s i 0) ≡ false → None ≡ small (number_from v (drop i s))
unfolding small
number_other s i v h e = ap small (sym (number_at s i v h e))

pub number_end : (s : List ℕ) (i v : ℕ) → length s ≤ i → v ≤ most_allowance → Some v ≡ small (number_from v (drop i s))
unfolding number_from small
number_end s i v h l = sym (ap (λ w. small (number_from v w)) (drop_of_length-le s h) ∙ ap (λ b. cond b (Some v) None) (le-leb v most_allowance l))

-- a number that is small is the number
pub small_is : {v : ℕ} (o : Option ℕ) → small o ≡ Some v → (o ≡ Some v) × (v ≤ most_allowance)
unfolding small
small_is None e = absurd (none-some _ e)
small_is {v} (Some w) e = go (leb w most_allowance) refl e
  where
    go : (t : Bool) → leb w most_allowance ≡ t → cond t (Some w) None ≡ Some v → (Some w ≡ Some v) × (v ≤ most_allowance)
    go true h e = (e, subst (λ x. x ≤ most_allowance) (same_Some _ _ e) (leb-true w most_allowance h))
    go false h e = absurd (none-some _ e)

pub small_none : (o : Option ℕ) → small o ≡ None → (v : ℕ) → o ≡ Some v → most_allowance < v
unfolding small
small_none None e v h = absurd (none-some _ h)
small_none (Some w) e v h = go (leb w most_allowance) refl e
  where
    go : (t : Bool) → leb w most_allowance ≡ t → cond t (Some w) None ≡ None → most_allowance < v
    go true k e = absurd (none-some _ (sym e))
    go false k e = subst (λ x. most_allowance < x) (same_Some _ _ h) (leb-false w most_allowance k)

-- and so it was where it is too large before its last digit
pub small_over : (v : ℕ) (w : List ℕ) → most_allowance < v → None ≡ small (number_from v w)
unfolding number_from small
small_over v [] h = sym (ap (λ b. cond b (Some v) None) (lt-leb v most_allowance h))
small_over v (b ∷ w) h = go (is_digit b) (small_over (10 * v + (b - 48)) w (omega arith))
  where
    go : (t : Bool) → None ≡ small (number_from (10 * v + (b - 48)) w) → None ≡ small (cond t (number_from (10 * v + (b - 48)) w) None)
    go true e = e
    go false e = refl
