-- What begins a case, and the place of refusal 8.
--   begins_front     what is in front of a beginning is one
--   place_past       no beginning lies behind the place
--   case_past        the place of a case is its length
--   place_unique     there is one place
-- Assumes nothing.
use mathlib.Core.Path.{◌≡◌, sym, subst}
use mathlib.Core.List.{List, [], ◌++◌, append_assoc, append-nil}
use Prim.Native.Nat.{ℕ, suc, ◌≤◌}
use native.Mathlib.Decide.{dec_le}
use native.Mathlib.Nat.{le_refl}
use native.Mathlib.Omega.{arith}
use lib.ListN.{length, take, drop, take-append-drop}
use lib.Seq.{take-length, take-take}
use Rattle.meaning.specs.Case.{Case, IsCase, Begins, Place}

begins_append : (s t : List ℕ) → Begins (s ++ t) → Begins s
begins_append s t b = record { rest = t ++ b.rest; case = b.case; is = subst (λ u. IsCase u b.case) (append_assoc s t b.rest) b.is }

begins_front : (k : ℕ) (s : List ℕ) → Begins s → Begins (take k s)
begins_front k s b = begins_append (take k s) (drop k s) (subst Begins (sym (take-append-drop k s)) b)

pub place_past : (s : List ℕ) (k j : ℕ) → Place s k → j ≤ length s → Begins (take j s) → j ≤ k
place_past s k j P h b =
    elim (dec_le j k) [
      | yes l ↦ l
      | no l ↦ absurd (P.at_it (omega arith) (subst Begins (take-take (suc k) j s (omega arith)) (begins_front (suc k) (take j s) b)))
    ]

case_begins : {s : List ℕ} {c : Case} → IsCase s c → Begins s
case_begins {s} {c} i = record { rest = []; case = c; is = subst (λ u. IsCase u c) (sym (append-nil s)) i }

pub case_past : {s : List ℕ} {c : Case} {k : ℕ} → IsCase s c → Place s k → length s ≤ k
case_past {s} {k = k} i P = place_past s k (length s) P (le_refl _) (subst Begins (sym (take-length s)) (case_begins i))

pub place_unique : (s : List ℕ) (j k : ℕ) → Place s j → Place s k → j ≡ k
place_unique s j k P Q = omega (arith, place_past s k j Q P.within P.before, place_past s j k P Q.within Q.before)
