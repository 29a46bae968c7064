-- The decimal digits of a number, and the bytes of lines.
--   digits_one, digits_more       a number below 10 has one digit; any other has those of its tenth, and its last one
--   digits_enough                 more room changes nothing
--   decimal_one, decimal_more     the same of decimals
--   decimal_length, decimal_some  below 10 to the k there are at most k digits, and there is one at least
--   each_append                   what holds of each byte of two lists holds of each of both
--   decimal-digits                every byte is that of a digit
--   spaced_append, spaced-next    lists of numbers joined, and what stands behind them
--   text_append                   the bytes of lines and more lines
-- Assumes nothing.
use mathlib.Core.Path.{◌≡◌, refl, sym, ap, ◌∙◌}
use mathlib.Core.List.{List, [], ◌∷◌, ◌++◌, append_assoc}
use mathlib.Core.Logic.{◌⊎◌, inl, inr}
use Prim.Native.Nat.{ℕ, zero, suc, ◌+◌, ◌-◌, ◌/◌, ◌%◌, ◌^◌, ◌<◌, ◌≤◌}
use native.Mathlib.Nat.{not-suc-le-zero, pow-suc}
use native.Mathlib.Numerals.{add-one}
use native.Mathlib.Decide.{dec_lt}
use native.Mathlib.Omega.{arith}
use lib.ListN.{length, get_or, drop, length-append}
use lib.Seq.{drop-cons}
use borrow.Author.Tests.{lt-ltb, le-ltb}
use Rattle.meaning.specs.Line.{digit, digits, decimal, Line, spaced, line_bytes, text}
use Rattle.meaning.specs.Print.{Each, IsDigit}

one_or_more : (x : ℕ) → (x < 10) ⊎ (10 ≤ x)
one_or_more x = elim (dec_lt x 10) [ yes a ↦ inl a | no b ↦ inr (omega arith) ]

pub digits_one : (k x : ℕ) → x < 10 → digits (suc k) x ≡ digit x ∷ []
unfolding digits
digits_one k x h = rw (lt-ltb x 10 h, digits)

pub digits_more : (k x : ℕ) → 10 ≤ x → digits (suc k) x ≡ digits k (x / 10) ++ (digit (x % 10) ∷ [])
unfolding digits
digits_more k x h = rw (le-ltb x 10 h, digits)

digits_enough : (j k x : ℕ) → x < j → x < k → digits j x ≡ digits k x
digits_enough zero k x h i = absurd (not-suc-le-zero h)
digits_enough (suc j) zero x h i = absurd (not-suc-le-zero i)
digits_enough (suc j) (suc k) x h i = elim (one_or_more x) [
  | inl a ↦ digits_one j x a ∙ sym (digits_one k x a)
  | inr b ↦ digits_more j x b ∙ ap (λ l. l ++ (digit (x % 10) ∷ [])) (digits_enough j k (x / 10) (omega arith) (omega arith)) ∙ sym (digits_more k x b)
]

pub decimal_one : (x : ℕ) → x < 10 → decimal x ≡ digit x ∷ []
unfolding decimal
decimal_one x h = digits_one x x h

pub decimal_more : (x : ℕ) → 10 ≤ x → decimal x ≡ decimal (x / 10) ++ (digit (x % 10) ∷ [])
unfolding decimal
decimal_more x h = digits_more x x h ∙ ap (λ l. l ++ (digit (x % 10) ∷ [])) (digits_enough x (suc (x / 10)) (x / 10) (omega arith) (omega arith))

pub decimal_length : (k x : ℕ) → x < 10 ^ k → 1 ≤ k → length (decimal x) ≤ k
decimal_length zero x h i = absurd (not-suc-le-zero i)
decimal_length (suc zero) x h i = rw (decimal_one x h) (omega arith)
decimal_length (suc (suc k)) x h i = elim (one_or_more x) [
  | inl a ↦ rw (decimal_one x a) (omega arith)
  | inr b ↦ rw (decimal_more x b, length-append) (omega (arith, decimal_length (suc k) (x / 10) (omega (arith, pow-suc 10 (suc k))) (omega arith)))
]

pub decimal_some : (x : ℕ) → 1 ≤ length (decimal x)
decimal_some x = elim (one_or_more x) [
  | inl a ↦ rw (decimal_one x a) (omega arith)
  | inr b ↦ rw (decimal_more x b, length-append) (omega arith)
]

pub each_append : (P : ℕ → Type 0) (s t : List ℕ) → Each P s → Each P t → Each P (s ++ t)
each_append P [] t h k = k
each_append P (b ∷ s) t h k = (h.0, each_append P s t h.1 k)

digit-digit : (d : ℕ) → d < 10 → IsDigit (digit d)
unfolding digit
digit-digit d h = (omega arith, omega arith)

digits-digits : (k x : ℕ) → Each IsDigit (digits k x)
unfolding digits
digits-digits zero x = tt
digits-digits (suc k) x = elim (one_or_more x) [
  | inl a ↦ rw (digits_one k x a) (digit-digit x a, tt)
  | inr b ↦ rw (digits_more k x b) (each_append IsDigit (digits k (x / 10)) (digit (x % 10) ∷ []) (digits-digits k (x / 10)) (digit-digit (x % 10) (omega arith), tt))
]

pub decimal-digits : (x : ℕ) → Each IsDigit (decimal x)
unfolding decimal
decimal-digits x = digits-digits (suc x) x

spaced_append : (a b : List ℕ) → spaced (a ++ b) ≡ spaced a ++ spaced b
unfolding spaced
spaced_append [] b = refl
spaced_append (x ∷ a) b = ap (λ l. 32 ∷ (decimal x ++ l)) (spaced_append a b) ∙ ap (λ l. 32 ∷ l) (sym (append_assoc (decimal x) (spaced a) (spaced b)))

pub spaced-next : (a b s : List ℕ) → spaced (a ++ b) ++ s ≡ spaced a ++ (spaced b ++ s)
spaced-next a b s = ap (λ l. l ++ s) (spaced_append a b) ∙ append_assoc (spaced a) (spaced b) s

spaced_drop : (s : List ℕ) (i : ℕ) → i < length s → spaced (drop i s) ≡ spaced (get_or s i 0 ∷ []) ++ spaced (drop (i + 1) s)
spaced_drop s i h =
    ap spaced (drop-cons s i 0 h) ∙ spaced_append (get_or s i 0 ∷ []) (drop (suc i) s)
    ∙ ap (λ j. spaced (get_or s i 0 ∷ []) ++ spaced (drop j s)) (sym (add-one i))

pub text_append : (xs ys : List Line) → text (xs ++ ys) ≡ text xs ++ text ys
unfolding text
text_append [] ys = refl
text_append (x ∷ xs) ys = ap (λ l. line_bytes x ++ l) (text_append xs ys) ∙ sym (append_assoc (line_bytes x) (text xs) (text ys))
