-- The bytes of records, one after another.
--   record_long      a record has at least two bytes
--   flat_append, flat_length   those of two lists of records, and their number
--   flat_one         those of records and one more
--   front_whole      records that begin others and fill as many bytes are all of them
--   front_shorter    what begins with records begins with the first of them
--   case_front       a case begins with its first records
-- Assumes nothing.
use mathlib.Core.Path.{◌≡◌, refl, sym, ap, ◌∙◌}
use mathlib.Core.List.{List, [], ◌∷◌, ◌++◌, append_assoc, append-nil}
use Prim.Native.Nat.{ℕ, ◌+◌, ◌≤◌}
use native.Mathlib.Omega.{arith}
use lib.ListN.{length, take, length-append}
use lib.Seq.{take-take, take_at}
use Rattle.meaning.specs.Case.{Record, record_bytes, flat, BeginsWith, Case, records, case_bytes, IsCase}
use Rattle.meaning.specs.Case.Record.{field, allow, row, candidate, end}

pub record_long : (x : Record) → 2 ≤ length (record_bytes x)
unfolding record_bytes
record_long (field p n) = omega arith
record_long (allow high low) = omega arith
record_long (row l) = omega arith
record_long (candidate l) = omega arith
record_long end = omega arith

flat_append : (xs ys : List Record) → flat (xs ++ ys) ≡ flat xs ++ flat ys
unfolding flat
flat_append [] ys = refl
flat_append (x ∷ xs) ys = ap (λ t. record_bytes x ++ t) (flat_append xs ys) ∙ sym (append_assoc (record_bytes x) (flat xs) (flat ys))

pub flat_length : (xs ys : List Record) → length (flat (xs ++ ys)) ≡ length (flat xs) + length (flat ys)
flat_length xs ys = ap length (flat_append xs ys) ∙ length-append (flat xs) (flat ys)

pub flat_one : (xs : List Record) (x : Record) → flat (xs ++ (x ∷ [])) ≡ flat xs ++ record_bytes x
unfolding flat
flat_one xs x = flat_append xs (x ∷ []) ∙ ap (λ t. flat xs ++ t) (append-nil (record_bytes x))

-- records that fill no bytes are none
flat_none : (xs : List Record) → length (flat xs) ≡ 0 → xs ≡ []
unfolding flat
flat_none [] e = refl
flat_none (x ∷ xs) e = absurd (omega (arith, record_long x, length-append (record_bytes x) (flat xs)))

pub front_whole : {us : List Record} (xs ws : List Record) → us ≡ xs ++ ws → length (flat us) ≡ length (flat xs) → us ≡ xs
front_whole xs ws e k =
    let none_left : ws ≡ [] = flat_none ws (omega (arith, ap (λ l. length (flat l)) e, flat_length xs ws)) in
    e ∙ ap (λ l. xs ++ l) none_left ∙ append-nil xs

pub front_shorter : (s : List ℕ) (xs ws : List Record) → BeginsWith s (xs ++ ws) → BeginsWith s xs
front_shorter s xs ws h =
    let k : ℕ = length (flat xs) in
    let size : length (flat (xs ++ ws)) ≡ k + length (flat ws) = flat_length xs ws in
    sym (take-take k (length (flat (xs ++ ws))) s (omega arith)) ∙ ap (take k) (h ∙ flat_append xs ws) ∙ take_at (flat xs) (flat ws) k refl

pub case_front : {s : List ℕ} {c : Case} → IsCase s c → (xs ys : List Record) → records c ≡ xs ++ ys → BeginsWith s xs
unfolding case_bytes
case_front {s} i xs ys e =
    ap (take (length (flat xs))) (i.whole ∙ ap flat e ∙ flat_append xs ys) ∙ take_at (flat xs) (flat ys) (length (flat xs)) refl
