-- What a test says of a reason.
--   applies        a test that does not fail applies
--   placed, nowhere   the cell of the first bad entry, from its place; there is none
--   coefficient_placed   the same of coefficients
-- Assumes nothing.
use mathlib.Core.Path.{◌≡◌, refl, sym, ap, ◌∙◌}
use mathlib.Core.Bool.{Bool, true, false}
use mathlib.Core.List.{List}
use Rattle.std.specs.Prelude.{None, Some, option_map}
use Prim.Native.Nat.{ℕ, suc, ◌+◌, ◌/◌, ◌%◌}
use native.Mathlib.Nat.{div-eq_of_lt, mod-eq_of_lt}
use native.Mathlib.Omega.{arith}
use lib.ListN.{length}
use Rattle.meaning.specs.Entry.{cell_at, first_bad, bad_cell}
use Rattle.meaning.specs.Refusal.{at, refuse_at, bad_coefficient}
use Rattle.meaning.proofs.Entry.{first_bad_place, first_bad_none, bad_cell_at, small_bad_cell}

pub applies : (b : Bool) → ¬ (b ≡ false) → b ≡ true
applies true h = refl
applies false h = absurd (h refl)

-- a bad entry's cell, from its place
pub placed : (top p n : ℕ) (l : List ℕ) {i : ℕ} → first_bad p l ≡ Some i
    → Some (record { row = top + i / n; column = 1 + i % n }) ≡ bad_cell top p n l
unfolding cell_at
placed top p n l {i} e =
    let k : 1 + i % n ≡ suc (i % n) = omega arith in
    ap (λ c. Some (record { row = top + i / n; column = c })) k ∙ sym (bad_cell_at top p n l e)

pub nowhere : (top p n : ℕ) (l : List ℕ) → first_bad p l ≡ None → None ≡ bad_cell top p n l
nowhere top p n l e = sym (small_bad_cell top p n l (first_bad_none p l e))

pub coefficient_placed : (p : ℕ) (f : List ℕ) {i : ℕ} → first_bad p f ≡ Some i → Some (at 11 0 (1 + i)) ≡ refuse_at 11 (bad_coefficient p f)
unfolding refuse_at bad_coefficient
coefficient_placed p f {i} e =
    let l = (first_bad_place p f i e).within in
    let r : 0 ≡ 0 + i / length f = omega (arith, div-eq_of_lt l) in
    let c : 1 + i ≡ 1 + i % length f = omega (arith, mod-eq_of_lt l) in
    (λ j. Some (at 11 (r j) (c j))) ∙ ap (option_map (λ c. at 11 c.row c.column)) (placed 0 p (length f) f e)
