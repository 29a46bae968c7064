-- What a cell says, as the code tests it.
--   cell_allowance   a number in a line with an allowance
--   cell_entry, cell_large   a number in any other line that is a byte, and one that is too large
--   cell_none        no number, or none that is small
-- Assumes nothing.
use mathlib.Core.Path.{◌≡◌, refl, sym, ap, ◌∙◌}
use mathlib.Core.Bool.{Bool, true, false, cond}
use mathlib.Core.List.{List, [], ◌∷◌, map}
use Rattle.std.specs.Prelude.{Option, None, Some}
use Prim.Native.Nat.{ℕ, ◌/◌, ◌%◌, ◌<◌, ◌≤◌}
use native.Mathlib.Omega.{arith}
use lib.Dec.{eqb}
use borrow.Author.Tests.{le-leb, lt-leb, lt-ltb, le-ltb, eq-eqb, ne_eqb}
use Rattle.meaning.specs.Bounds.{most_allowance}
use Rattle.meaning.specs.Case.{radix}
use Rattle.meaning.specs.Design.{Spot, said, no_byte, number_in, byte_in, halves_in, cell_bytes}
use Rattle.cells.specs.Cells.{small}
use Rattle.cells.proofs.Laws.{small_is, small_none}
use Rattle.spelling.specs.Trace.{Tracing, step, steps}

halves_cell : (b : ℕ) (w : List ℕ) → b ≡ 65 → cell_bytes b w ≡ halves_in (number_in w)
unfolding cell_bytes
halves_cell b w l = rw (eq-eqb b 65 l) refl

entry_cell : (b : ℕ) (w : List ℕ) → (b ≡ 65 → ⊥) → cell_bytes b w ≡ byte_in (number_in w) ∷ []
unfolding cell_bytes
entry_cell b w l = rw (ne_eqb b 65 l) refl

pub cell_allowance : {z : Tracing} (x y : Tracing) (p : Spot) (b v : ℕ) (w : List ℕ) → b ≡ 65 → small (number_in w) ≡ Some v
    → y ≡ step x (said p (v / radix)) → z ≡ step y (said p (v % radix)) → z ≡ steps x (map (said p) (cell_bytes b w))
unfolding steps
cell_allowance x y p b v w l e f g =
    let s = small_is (number_in w) e in
    let bytes : cell_bytes b w ≡ v / radix ∷ v % radix ∷ [] = halves_cell b w l ∙ ap halves_in s.0 ∙ rw (le-leb v most_allowance s.1) refl in
    g ∙ ap (λ t. step t (said p (v % radix))) f ∙ ap (λ bs. steps x (map (said p) bs)) (sym bytes)

pub cell_entry : {z : Tracing} (x : Tracing) (p : Spot) (b v : ℕ) (w : List ℕ) → (b ≡ 65 → ⊥) → small (number_in w) ≡ Some v → v < no_byte
    → z ≡ step x (said p v) → z ≡ steps x (map (said p) (cell_bytes b w))
unfolding steps
cell_entry x p b v w l e h f =
    let bytes : v ∷ [] ≡ cell_bytes b w = sym (entry_cell b w l ∙ ap (λ o. byte_in o ∷ []) (small_is (number_in w) e).0 ∙ rw (lt-ltb v no_byte h) refl) in
    f ∙ ap (λ bs. steps x (map (said p) bs)) bytes

pub cell_large : {z : Tracing} (x : Tracing) (p : Spot) (b v : ℕ) (w : List ℕ) → (b ≡ 65 → ⊥) → small (number_in w) ≡ Some v → no_byte ≤ v
    → z ≡ step x (said p no_byte) → z ≡ steps x (map (said p) (cell_bytes b w))
unfolding steps
cell_large x p b v w l e h f =
    let bytes : no_byte ∷ [] ≡ cell_bytes b w = sym (entry_cell b w l ∙ ap (λ o. byte_in o ∷ []) (small_is (number_in w) e).0 ∙ rw (le-ltb v no_byte h) refl) in
    f ∙ ap (λ bs. steps x (map (said p) bs)) bytes

-- what is no small number says the same in every line
none_halves : (o : Option ℕ) → ((v : ℕ) → o ≡ Some v → most_allowance < v) → halves_in o ≡ no_byte ∷ []
none_halves None h = refl
none_halves (Some v) h = rw (lt-leb v most_allowance (h v refl)) refl

none_byte : (o : Option ℕ) → ((v : ℕ) → o ≡ Some v → most_allowance < v) → byte_in o ∷ [] ≡ no_byte ∷ []
none_byte None h = refl
none_byte (Some v) h = let k = h v refl in rw (le-ltb v no_byte (omega (arith, k))) refl

none_cell : (b : ℕ) (w : List ℕ) → small (number_in w) ≡ None → no_byte ∷ [] ≡ cell_bytes b w
unfolding cell_bytes
none_cell b w e = go (eqb b 65) (none_halves (number_in w) (small_none (number_in w) e)) (none_byte (number_in w) (small_none (number_in w) e))
  where
    go : (t : Bool) → halves_in (number_in w) ≡ no_byte ∷ [] → byte_in (number_in w) ∷ [] ≡ no_byte ∷ []
        → no_byte ∷ [] ≡ cond t (halves_in (number_in w)) (byte_in (number_in w) ∷ [])
    go true h k = sym h
    go false h k = sym k

pub cell_none : {z : Tracing} (x : Tracing) (p : Spot) (b : ℕ) (w : List ℕ) → small (number_in w) ≡ None → z ≡ step x (said p no_byte)
    → z ≡ steps x (map (said p) (cell_bytes b w))
unfolding steps
cell_none x p b w e f = f ∙ ap (λ bs. steps x (map (said p) bs)) (none_cell b w e)
