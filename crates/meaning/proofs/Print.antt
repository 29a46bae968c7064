-- What is printed can be read back: whatever lines with such words have these bytes are these lines.
--   read_number a l      the number whose digits are those of a and then those that l lists
--   decimal_number      the digits of x read back are x
--   decimal_injective   two numbers with the same digits are equal
--   ascii_injective     two texts with the same bytes are equal
--   parted              two lists that are equal, each parted before its first byte with a property, have equal parts
--   spaced_injective    two lists of numbers, each behind a space, up to a newline
--   line_injective      a line and what follows it
--   text_injective      lines whose words have no digit and no newline
-- Assumes nothing.
use mathlib.Core.Path.{◌≡◌, refl, sym, ap, ap₂, ◌∙◌, subst}
use mathlib.Core.List.{List, [], ◌∷◌, ◌++◌, append_assoc, append_cancel_left, append_cancel_right}
use Prim.Native.Nat.{ℕ, zero, suc, ◌+◌, ◌-◌, ◌*◌, ◌/◌, ◌<◌, ◌≤◌}
use Prim.Native.String.{String, [] as empty, ◌∷◌ as join}
use native.Mathlib.Nat.{not-suc-le-zero}
use native.Mathlib.Decide.{dec_lt}
use native.Mathlib.Omega.{arith}
use package.text.Mathlib.TextEquality.{Char-path}
use lib.ListN.{length, length-append}
use Rattle.meaning.specs.Ascii.{ascii}
use Rattle.meaning.specs.Line.{digit, digits, decimal, Line, spaced, line_bytes, text}
use Rattle.meaning.specs.Print.{Each, IsDigit, Plain, Wordy}
use Rattle.meaning.proofs.Line.{digits_one, digits_more, decimal_some, decimal-digits, each_append}

abbrev pub read_number : ℕ → List ℕ → ℕ
read_number a [] = a
read_number a (b ∷ l) = read_number (a * 10 + (b - 48)) l

number_append : (a : ℕ) (s t : List ℕ) → read_number a (s ++ t) ≡ read_number (read_number a s) t
number_append a [] t = refl
number_append a (b ∷ s) t = number_append (a * 10 + (b - 48)) s t

digits_number : (k x : ℕ) → x < k → read_number 0 (digits k x) ≡ x
unfolding digit
digits_number zero x h = absurd (not-suc-le-zero h)
digits_number (suc k) x h = elim (dec_lt x 10) [
  | yes a ↦ rw (digits_one k x a) (omega arith)
  | no b ↦ rw (digits_more k x (omega arith), number_append, digits_number k (x / 10) (omega arith)) (omega arith)
]

decimal_number : (x : ℕ) → read_number 0 (decimal x) ≡ x
unfolding decimal
decimal_number x = digits_number (suc x) x (omega arith)

decimal_injective : (x y : ℕ) → decimal x ≡ decimal y → x ≡ y
decimal_injective x y q = sym (decimal_number x) ∙ ap (read_number 0) q ∙ decimal_number y

ascii_injective : (s t : String) → ascii s ≡ ascii t → s ≡ t
ascii_injective empty empty q = refl
ascii_injective empty (join c t) q = let z : ◌≡◌ {A = ℕ} 0 1 = cc in absurd (omega arith)
ascii_injective (join c s) empty q = let z : ◌≡◌ {A = ℕ} 0 1 = cc in absurd (omega arith)
ascii_injective (join c s) (join d t) q = ap₂ join (Char-path c d (cc)) (ascii_injective s t (cc))

pub parted : (P : ℕ → Type 0) (s t : List ℕ) (b c : ℕ) (u v : List ℕ) → Each P s → Each P t → ¬ P b → ¬ P c → s ++ (b ∷ u) ≡ t ++ (c ∷ v)
    → (s ≡ t) × (b ≡ c) × (u ≡ v)
parted P [] [] b c u v h k i j q = (refl, cc, cc)
parted P [] (y ∷ t) b c u v h k i j q = let e : y ≡ b = cc in absurd (i (subst P e k.0))
parted P (x ∷ s) [] b c u v h k i j q = let e : x ≡ c = cc in absurd (j (subst P e h.0))
parted P (x ∷ s) (y ∷ t) b c u v h k i j q = let (l, m, n) = parted P s t b c u v h.1 k.1 i j (cc) in (cc, m, n)

-- a number begins with a digit, and what stands behind a number does not
first_digit : (l : List ℕ) → 1 ≤ length l → Each IsDigit l → (d : ℕ) × (u : List ℕ) × (l ≡ d ∷ u) × IsDigit d
first_digit [] h k = absurd (not-suc-le-zero h)
first_digit (d ∷ u) h k = (d, u, refl, k.0)

decimal_head : (x : ℕ) → (d : ℕ) × (u : List ℕ) × (decimal x ≡ d ∷ u) × IsDigit d
decimal_head x = first_digit (decimal x) (decimal_some x) (decimal-digits x)

behind : (l r : List ℕ) → (b : ℕ) × (u : List ℕ) × (spaced l ++ (10 ∷ r) ≡ b ∷ u) × ¬ IsDigit b
unfolding spaced
behind [] r = (10, r, refl, λ h. omega arith)
behind (x ∷ l) r = (32, _, refl, λ h. omega arith)

number_injective : (x y : ℕ) (l m r s : List ℕ) → decimal x ++ (spaced l ++ (10 ∷ r)) ≡ decimal y ++ (spaced m ++ (10 ∷ s))
    → (x ≡ y) × (spaced l ++ (10 ∷ r) ≡ spaced m ++ (10 ∷ s))
number_injective x y l m r s q =
    let (b, u, i, j) = behind l r in
    let (c, v, k, n) = behind m s in
    let (d, e, f) = parted IsDigit (decimal x) (decimal y) b c u v (decimal-digits x) (decimal-digits y) j n (rw (i, k) at q) in
    (decimal_injective x y d, i ∙ ap₂ ◌∷◌ e f ∙ sym k)

spaced_injective : (l m r s : List ℕ) → spaced l ++ (10 ∷ r) ≡ spaced m ++ (10 ∷ s) → (l ≡ m) × (r ≡ s)
unfolding spaced
spaced_injective [] [] r s q = (refl, cc)
spaced_injective [] (y ∷ m) r s q = let z : ◌≡◌ {A = ℕ} 10 32 = cc in absurd (omega arith)
spaced_injective (x ∷ l) [] r s q = let z : ◌≡◌ {A = ℕ} 32 10 = cc in absurd (omega arith)
spaced_injective (x ∷ l) (y ∷ m) r s q =
    let (i, j) = number_injective x y l m r s (sym (append_assoc (decimal x) (spaced l) (10 ∷ r)) ∙ (cc) ∙ append_assoc (decimal y) (spaced m) (10 ∷ s)) in
    let (k, n) = spaced_injective l m r s j in
    (ap₂ ◌∷◌ i k, n)

-- a word ends before the newline, or before the space in front of the first digit
space_plain : Plain 32
space_plain = (λ h. omega arith, λ h. omega arith)

newline_not : ¬ Plain 10
newline_not h = h.1 refl

digit_not : (d : ℕ) → IsDigit d → ¬ Plain d
digit_not d i h = h.0 i

with_space : (w : List ℕ) → Each Plain w → Each Plain (w ++ (32 ∷ []))
with_space w h = each_append Plain w (32 ∷ []) h (space_plain, tt)

word_number : (w l r : List ℕ) (x : ℕ) → (d : ℕ) × (u : List ℕ) × (w ++ (spaced (x ∷ l) ++ (10 ∷ r)) ≡ (w ++ (32 ∷ [])) ++ (d ∷ u)) × IsDigit d
unfolding spaced
word_number w l r x =
    let (d, u, q, i) = decimal_head x in
    (d, u ++ (spaced l ++ (10 ∷ r)), ap (λ t. w ++ (32 ∷ t)) (append_assoc (decimal x) (spaced l) (10 ∷ r) ∙ ap (λ t. t ++ (spaced l ++ (10 ∷ r))) q) ∙ sym (append_assoc w (32 ∷ []) _), i)

word_clash : (w v m r s : List ℕ) (y : ℕ) → Each Plain w → Each Plain v → w ++ (10 ∷ r) ≡ v ++ (spaced (y ∷ m) ++ (10 ∷ s)) → ⊥
word_clash w v m r s y h k q =
    let (d, u, e, i) = word_number v m s y in
    let (a, b, c) = parted Plain w (v ++ (32 ∷ [])) 10 d r u h (with_space v k) newline_not (digit_not d i) (q ∙ e) in
    omega arith

word_injective : (w v l m r s : List ℕ) → Each Plain w → Each Plain v → w ++ (spaced l ++ (10 ∷ r)) ≡ v ++ (spaced m ++ (10 ∷ s)) → w ≡ v
unfolding spaced
word_injective w v [] [] r s h k q = (parted Plain w v 10 10 r s h k newline_not newline_not q).0
word_injective w v [] (y ∷ m) r s h k q = absurd (word_clash w v m r s y h k q)
word_injective w v (x ∷ l) [] r s h k q = absurd (word_clash v w l s r x k h (sym q))
word_injective w v (x ∷ l) (y ∷ m) r s h k q =
    let (d, u, e, i) = word_number w l r x in
    let (c, t, f, j) = word_number v m s y in
    append_cancel_right w v (32 ∷ []) (parted Plain (w ++ (32 ∷ [])) (v ++ (32 ∷ [])) d c u t (with_space w h) (with_space v k) (digit_not d i) (digit_not c j) (sym e ∙ q ∙ f)).0

line_injective : (w v l m r s : List ℕ) → Each Plain w → Each Plain v → w ++ (spaced l ++ (10 ∷ r)) ≡ v ++ (spaced m ++ (10 ∷ s))
    → (w ≡ v) × (l ≡ m) × (r ≡ s)
line_injective w v l m r s h k q =
    let same = word_injective w v l m r s h k q in
    let (i, j) = spaced_injective l m r s (append_cancel_left w _ _ (q ∙ ap (λ t. t ++ (spaced m ++ (10 ∷ s))) (sym same))) in
    (same, i, j)

text-line : (x : Line) (xs : List Line) → text (x ∷ xs) ≡ ascii x.word ++ (spaced x.numbers ++ (10 ∷ text xs))
unfolding text line_bytes
text-line x xs = simp append_assoc

text_some : (x : Line) (xs : List Line) → ¬ (text (x ∷ xs) ≡ text [])
unfolding text
text_some x xs q = omega (arith, simp length-append at (ap length (sym (text-line x xs) ∙ q)))

pub text_injective : (xs ys : List Line) → Wordy xs → Wordy ys → text xs ≡ text ys → xs ≡ ys
text_injective [] [] h k q = refl
text_injective [] (y ∷ ys) h k q = absurd (text_some y ys (sym q))
text_injective (x ∷ xs) [] h k q = absurd (text_some x xs q)
text_injective (x ∷ xs) (y ∷ ys) h k q =
    let (i, j, l) = line_injective (ascii x.word) (ascii y.word) x.numbers y.numbers (text xs) (text ys) h.0 k.0
    (sym (text-line x xs) ∙ q ∙ text-line y ys) in
    ap₂ ◌∷◌ (λ a. record { word = ascii_injective x.word y.word i a; numbers = j a }) (text_injective xs ys h.1 k.1 l)
