-- Bytes written to the front of a buffer, with zeros behind them, or one after another.
--   write_covers    a buffer that was written to is as long as what was written, at least
--   write_size      and as long as before, where there was room
--   front_write     a buffer whose first n bytes are new
--   written_front   the front of a row that was written
--   coefficient_bytes   the front of bytes below p, as the bytes of their polynomial's coefficients
--   zeros_padded    zeros alone
--   padded_take     what is in front of the zeros
--   padded_front    fewer zeros
--   padded_paste    bytes put behind others, where there were zeros
-- Assumes nothing.
use mathlib.Core.Path.{◌≡◌, sym, ap, ap₂, ◌∙◌}
use mathlib.Core.List.{List, [], ◌∷◌, ◌++◌, append_assoc}
use Prim.Native.Nat.{ℕ, zero, suc, ◌+◌, ◌<◌, ◌≤◌}
use native.Mathlib.Nat.{sub-zero, suc-sub-suc}
use native.Mathlib.Numerals.{add-one}
use native.Mathlib.Omega.{arith}
use lib.ListN.{length, get_or, set, take, drop, replicate, length-append, length-drop}
use lib.Seq.{take-append-le, take_at, take-length, paste, paste-suc}
use Rattle.algebra.specs.Row.{S}
use Rattle.algebra.specs.Poly.{coef}
use Rattle.meaning.specs.Bytes.{Small, poly_of, bytes, write, padded}
use Rattle.meaning.proofs.Bytes.{bytes_length, bytes_take, poly_of-coef, front_bytes, padded_turn, take_zeros}

pub write_covers : (new old : List ℕ) → length new ≤ length (write new old)
unfolding write
write_covers new old = omega (arith, length-append new (drop (length new) old))

pub write_size : (new old : List ℕ) → length new ≤ length old → length (write new old) ≡ length old
unfolding write
write_size new old h = length-append new (drop (length new) old) ∙ (omega (arith, length-drop (length new) old))

pub front_write : {n : ℕ} {part new : List ℕ} (old : List ℕ) → part ≡ new → length new ≡ n → part ++ drop n old ≡ write new old
unfolding write
front_write old e q = ap₂ (λ l k. l ++ drop k old) e (sym q)

pub written_front : {p : ℕ} {new : List ℕ} (k n : ℕ) (s : S p) (old : List ℕ) → k ≤ n → new ≡ write (bytes n s) old → (take k new ≡ bytes k s) × (k ≤ length new)
unfolding write
written_front k n s old h q = (
  ap (take k) q ∙ take-append-le k (bytes n s) _ (omega (arith, bytes_length n s)) ∙ bytes_take k n s h,
  omega (arith, ap length q, write_covers (bytes n s) old, bytes_length n s),
)

pub coefficient_bytes : (p n : ℕ) (c : List ℕ) → Small p c → n + 1 ≤ length c → take (n + 1) c ≡ bytes (suc n) (coef (poly_of p c))
coefficient_bytes p n c s h = front_bytes p (n + 1) c s h ∙ ap₂ bytes (add-one n) (sym (poly_of-coef p c))

pub zeros_padded : (k : ℕ) → replicate k 0 ≡ padded k []
unfolding padded
zeros_padded k = ap (λ j. replicate j 0) (sym (sub-zero k))

pub padded_take : (k j : ℕ) (l : List ℕ) → length l ≡ k → l ≡ take k (padded j l)
unfolding padded
padded_take k j l q = sym (take_at l _ k q)

pub padded_front : (k j : ℕ) (l : List ℕ) → length l ≤ k → k ≤ j → take k (padded j l) ≡ padded k l
unfolding padded
padded_front k j [] a b = simp sub-zero (take_zeros k j b)
padded_front zero j (x ∷ l) a b = absurd (omega arith)
padded_front (suc k) zero (x ∷ l) a b = absurd (omega arith)
padded_front (suc k) (suc j) (x ∷ l) a b = simp suc-sub-suc (ap (λ t. x ∷ t) (padded_front k j l (omega arith) (omega arith)))

pub padded_paste : (k : ℕ) (a l : List ℕ) → length a + length l ≤ k → paste (padded k a) (length a) l (length l) ≡ padded k (a ++ l)
padded_paste k a l h =
    let rest : List ℕ = drop (length a + length l) (padded k a) in
    ap (λ t. (take (length a) (padded k a) ++ t) ++ rest) (take-length l) ∙ append_assoc (take (length a) (padded k a)) l rest ∙ padded_turn k a l h
