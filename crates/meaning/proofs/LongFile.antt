-- A file that is longer than any case is judged by its front.
--   begins_short  what begins a case is no longer than the longest
--   file_front    the sheet of a file's first bytes is the file's, where there are more of them than any case has: the program need not read on
-- Assumes nothing.
use mathlib.Core.Path.{◌≡◌, sym, subst}
use mathlib.Core.List.{List}
use Prim.Native.Nat.{ℕ, suc, ◌<◌, ◌≤◌}
use native.Mathlib.Decide.{dec_le}
use native.Mathlib.Omega.{arith}
use lib.ListN.{length, take, length-append}
use lib.Seq.{take_all, take-take, length-take-le}
use Rattle.meaning.specs.Case.{Case, IsCase, longest_case, Begins, Place}
use Rattle.meaning.specs.Sheet.{IsSheet}
use Rattle.meaning.specs.Sheet.IsSheet.{sheet, refused}
use Rattle.meaning.proofs.CaseBytes.{case_longest}

pub begins_short : (s : List ℕ) → Begins s → length s ≤ longest_case
begins_short s b = omega (arith, case_longest b.is, length-append s b.rest)

module _ (j : ℕ) (h : longest_case < j) (s : List ℕ) (l : j < length s) where
  front_size : length (take j s) ≡ j
  front_size = length-take-le j s (omega arith)

  no_case : (c : Case) → ¬ IsCase s c
  no_case c i = omega (arith, case_longest i)

  place_front : (i : ℕ) → Place (take j s) i → Place s i
  place_front i P =
      let in-front : i ≤ j = omega (arith, P.within, front_size) in
      let before : Begins (take i s) = subst Begins (take-take i j s in-front) P.before in
      let short : i ≤ longest_case = rw (length-take-le i s (omega arith)) at (begins_short (take i s) before) in
      record {
        within = omega arith;
        before = before;
        at_it = λ _ b. P.at_it (omega (arith, front_size)) (subst Begins (sym (take-take (suc i) j s (omega arith))) b);
      }

  front_sheet : (t : List ℕ) → IsSheet (take j s) t → IsSheet s t
  front_sheet t (sheet c xs i L e) = absurd (omega (arith, case_longest i, front_size))
  front_sheet t (refused i n P e) = refused i no_case (place_front i P) e

pub file_front : (j : ℕ) → longest_case < j → (s t : List ℕ) → IsSheet (take j s) t → IsSheet s t
file_front j h s t S = elim (dec_le (length s) j) [
  | yes l ↦ subst (λ u. IsSheet u t) (take_all j s l) S
  | no l ↦ front_sheet j h s (omega arith) t S
]
