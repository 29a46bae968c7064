-- What is printed grows.
--   byte_laid    a byte more, put behind what is printed
--   decimal_low, decimal_high   a number below 10 is its last digit; any other is its tenth, and its last digit
--   spaced_next  the next of the numbers that are left, and what is left behind it
-- Assumes nothing.
use Rattle.std.proofs.Common.{◌≡◌, ℕ, ◌+◌, ◌/◌, ◌%◌, ◌<◌, ◌≤◌, List, [], ◌∷◌, ◌++◌, length, get_or, take, drop, set, add-one, drop-cons, append-nil, map, suc, ◌∙◌, sym, ap, arith}
use lib.Seq.{take-suc-set}
use Rattle.meaning.specs.Line.{digit, decimal, spaced}
use Rattle.meaning.proofs.Line.{decimal_one, decimal_more}

pub byte_laid : (bytes : List ℕ) (len b : ℕ) → len < length bytes → take (len + 1) (set bytes len b) ≡ take len bytes ++ (b ∷ [])
byte_laid bytes len b h = rw add-one (take-suc-set bytes len b h)

pub decimal_low : (x : ℕ) → x < 10 → decimal x ≡ (48 + x % 10) ∷ []
unfolding digit
decimal_low x h = decimal_one x h ∙ ap (λ d. (48 + d) ∷ []) (omega arith)

pub decimal_high : (x : ℕ) → 10 ≤ x → decimal x ≡ decimal (x / 10) ++ ((48 + x % 10) ∷ [])
unfolding digit
decimal_high x h = decimal_more x h

spaced_cons : (x : ℕ) (l : List ℕ) → spaced (x ∷ l) ≡ spaced (x ∷ []) ++ spaced l
unfolding spaced
spaced_cons x l = ap (λ d. 32 ∷ (d ++ spaced l)) (sym (append-nil (decimal x)))

pub spaced_next : {X : Type 0} (f : X → ℕ) (s : List X) (i : ℕ) (x : X) (n : ℕ) → i < length s → x ≡ get_or s i x → n ≡ f x
    → spaced (map f (drop i s)) ≡ spaced (n ∷ []) ++ spaced (map f (drop (i + 1) s))
spaced_next f s i x n h e q = rw (q, add-one, drop-cons s i x h, ← e) (spaced_cons (f x) (map f (drop (suc i) s)))
