-- What is refused, from the tests that were run.
--   exit             what a `?` returns is refused as its test was
--   here, later, one   the first test of a list refuses; it passes, and the others decide; there is one test alone
--   shape_refused, shape_passed   so where `shape` refuses and where it passes
--   list_refused, list_passed     and where `list` does
--   some_size, size, size_clear   n is 1 to 64 where tests 1 and 2 pass
--   two_buffers      test 6 of one buffer and then of another
--   long_by          test 6 of a buffer, for what it is to hold
--   tests            the laws by which a list of tests is followed
-- Assumes nothing.
use mathlib.Core.Path.{◌≡◌, refl, sym, ap, ◌∙◌}
use mathlib.Core.Bool.{Bool, true, false, ◌||◌}
use mathlib.Core.List.{List, [], ◌∷◌}
use Prim.Native.Nat.{ℕ, ◌≤◌}
use Rattle.std.specs.Prelude.{Option, None, Some, Result}
use Rattle.std.specs.Result.{IsErrAnd}
use Rattle.std.proofs.lemmas.Result.{err_from_is_err_and}
use Rattle.meaning.specs.Bounds.{widest}
use Rattle.meaning.specs.Refusal.{Refusal, refuse, too_short, first, no_prime, no_size}
use Rattle.meaning.proofs.Refusal.{first_front, first_past, first_here, first_next, size_told, no_size_false, none_refuse}
use Rattle.reasons.specs.Reasons.{as_refusal, checked_of}
use Rattle.reasons.specs.declared.Reason.{Reason}

pub exit : (r : Reason) {t : Option Refusal} (x : Result (Unit {0}) Reason) → IsErrAnd x (λ e. e ≡ r) → Some (as_refusal r) ≡ t → checked_of x ≡ t
exit r x h e = let p = err_from_is_err_and x h in rw (p.1, p.2) e

-- a list of tests, one after the other
pub here : {q : Refusal} (t : Option Refusal) (ts : List (Option Refusal)) → Some q ≡ t → Some q ≡ first (t ∷ ts)
here t ts e = sym (first_here t ts (sym e))

pub later : (x t : Option Refusal) (ts : List (Option Refusal)) → None ≡ t → x ≡ first ts → x ≡ first (t ∷ ts)
later x t ts e f = f ∙ sym (first_next t ts (sym e))

first_one : (t : Option Refusal) → t ≡ first (t ∷ [])
unfolding first
first_one (Some q) = refl
first_one None = refl

pub one : {x t : Option Refusal} → x ≡ t → x ≡ first (t ∷ [])
one {t = t} e = e ∙ first_one t

-- the three tests of `shape`, and the six of `list`, before those of a call
pub shape_refused : {q : Refusal} (a b c : Option Refusal) (ts : List (Option Refusal)) → Some q ≡ first (a ∷ b ∷ c ∷ []) → Some q ≡ first (a ∷ b ∷ c ∷ ts)
shape_refused a b c ts h = sym (first_front (_ ∷ _ ∷ _ ∷ []) ts (sym h))

pub shape_passed : (x a b c : Option Refusal) (ts : List (Option Refusal)) → None ≡ first (a ∷ b ∷ c ∷ []) → x ≡ first ts → x ≡ first (a ∷ b ∷ c ∷ ts)
shape_passed x a b c ts h g = g ∙ sym (first_past (_ ∷ _ ∷ _ ∷ []) ts (sym h))

pub list_refused : {q : Refusal} (a b c d e f : Option Refusal) (ts : List (Option Refusal))
    → Some q ≡ first (a ∷ b ∷ c ∷ d ∷ e ∷ f ∷ []) → Some q ≡ first (a ∷ b ∷ c ∷ d ∷ e ∷ f ∷ ts)
list_refused a b c d e f ts h = sym (first_front (_ ∷ _ ∷ _ ∷ _ ∷ _ ∷ _ ∷ []) ts (sym h))

pub list_passed : (x a b c d e f : Option Refusal) (ts : List (Option Refusal))
    → None ≡ first (a ∷ b ∷ c ∷ d ∷ e ∷ f ∷ []) → x ≡ first ts → x ≡ first (a ∷ b ∷ c ∷ d ∷ e ∷ f ∷ ts)
list_passed x a b c d e f ts h g = g ∙ sym (first_past (_ ∷ _ ∷ _ ∷ _ ∷ _ ∷ _ ∷ []) ts (sym h))

-- what tests 1 and 2 say of the size
pub some_size : (p n : ℕ) (ts : List (Option Refusal)) → None ≡ first (refuse 1 (no_prime p) ∷ refuse 2 (no_size n) ∷ ts) → 1 ≤ n
some_size p n ts e = (size_told p n ts (sym e)).0

pub size : (p n : ℕ) (ts : List (Option Refusal)) → None ≡ first (refuse 1 (no_prime p) ∷ refuse 2 (no_size n) ∷ ts) → n ≤ widest
size p n ts e = (size_told p n ts (sym e)).1

pub size_clear : (n : ℕ) → None ≡ refuse 2 (no_size n) → n ≤ widest
size_clear n e = (no_size_false n (none_refuse 2 _ (sym e))).1

-- test 6 of two buffers, and of a buffer for what it is to hold
refuse_or : (a b : Bool) → first (refuse 6 a ∷ refuse 6 b ∷ []) ≡ first (refuse 6 (a || b) ∷ [])
unfolding first refuse
refuse_or true b = refl
refuse_or false b = refl

pub two_buffers : (x : Option Refusal) (a b : Bool) → x ≡ first (refuse 6 a ∷ refuse 6 b ∷ []) → x ≡ first (refuse 6 (a || b) ∷ [])
two_buffers x a b e = e ∙ refuse_or a b

pub long_by : {x : Option Refusal} {j k : ℕ} (out : List ℕ) → j ≡ k → x ≡ refuse 6 (too_short j out) → x ≡ refuse 6 (too_short k out)
long_by out e f = f ∙ ap (λ i. refuse 6 (too_short i out)) e

pub ruleset tests = (exit, here, later, one, shape_refused, shape_passed, list_refused, list_passed, some_size, size, size_clear, two_buffers)
