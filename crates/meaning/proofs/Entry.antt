-- The first bad entry, as a place in a list and as a cell of its rows.
--   BadAt p l i          place i of l holds the first entry that is p or more
--   first_bad_at          such a place is the answer of `first_bad`
--   first_bad_small       entries below p have none
--   small_or_bad         entries are below p, or there is such a place
--   first_bad_place       an answer is such a place
--   first_bad_none        where there is none, all entries are below p
--   before_cell, cell_before   a cell is told by how many entries come before it, and this by the cell
--   read_before, before_read   a cell comes before another exactly where fewer entries come before it
--   first_at, at_first   the first bad place and the first bad cell
--   bad_first            the answer of `bad_cell` is the first bad entry in reading order: none before it is bad
--   first_bad_lem            and such a cell is the answer
--   first_unique         so there is one at most
--   bad_cell_at           the answer from the place
--   bad_cell_none, small_bad_cell   there is none exactly where all entries are below p
--   row_within           it is in one of the rows, where these are a whole number
--   bad_coefficient_lem, coefficient_row   that of coefficients, which are one row, is in row 0
--   empty_good           there is none among no entries
-- Assumes nothing.
use mathlib.Core.Path.{◌≡◌, refl, sym, ap, ap₂, ◌∙◌, subst}
use mathlib.Core.List.{List, [], ◌∷◌}
use Rattle.std.specs.Prelude.{None, Some, option_map}
use Rattle.std.proofs.lemmas.Option.{none-some, same_Some}
use Rattle.meaning.proofs.Options.{mapped_none, mapped_some}
use mathlib.Core.Logic.{◌⊎◌, inl, inr}
use Prim.Native.Nat.{ℕ, zero, suc, ◌+◌, ◌*◌, ◌-◌, ◌/◌, ◌%◌, ◌<◌, ◌≤◌, suc-le-suc}
use native.Mathlib.Nat.{not-suc-le-zero, le_of_suc-le-suc, zero-lt-suc, mod-lt, mod-eq_of_lt, div-eq_of_lt, div-add-mod', mul-add-div_right, mul-add-mod_self_right, mul-le-mul, le_refl, add-zero}
use native.Mathlib.Decide.{dec_le}
use native.Mathlib.Omega.{arith}
use lib.ListN.{length, get_or}
use borrow.Author.Tests.{le-leb, lt-leb}
use Rattle.meaning.specs.Entry.{Cell, cell_at, first_bad, bad_cell, entries_before, ReadBefore, InRows, FirstBad}
use Rattle.meaning.specs.Bytes.{Small}
use Rattle.meaning.proofs.Bytes.{small_at}

-- places
pub record BadAt (p : ℕ) (l : List ℕ) (i : ℕ) : Type 0 where
  pub within : i < length l
  pub bad : p ≤ get_or l i 0
  pub before : (j : ℕ) → j < i → get_or l j 0 < p

bad_at_later : {p x i : ℕ} {l : List ℕ} → x < p → BadAt p l i → BadAt p (x ∷ l) (suc i)
bad_at_later {p} {x} {i} {l} h B = record { within = suc-le-suc B.within; bad = B.bad; before = before }
  where
    before : (j : ℕ) → j < suc i → get_or (x ∷ l) j 0 < p
    before zero k = h
    before (suc j) k = B.before j (le_of_suc-le-suc k)

pub first_bad_at : (p : ℕ) (l : List ℕ) (i : ℕ) → BadAt p l i → first_bad p l ≡ Some i
unfolding first_bad
first_bad_at p [] i B = absurd (not-suc-le-zero B.within)
first_bad_at p (x ∷ l) zero B = rw (le-leb p x B.bad, first_bad)
first_bad_at p (x ∷ l) (suc i) B =
    rw (lt-leb p x (B.before 0 (zero-lt-suc i)), first_bad)
    (ap (option_map suc) (first_bad_at p l i (record {
      within = le_of_suc-le-suc B.within;
      bad = B.bad;
      before = λ j k. B.before (suc j) (suc-le-suc k);
    })))

pub first_bad_small : (p : ℕ) (l : List ℕ) → ((i : ℕ) → i < length l → get_or l i 0 < p) → first_bad p l ≡ None
unfolding first_bad
first_bad_small p [] h = refl
first_bad_small p (x ∷ l) h =
    rw (lt-leb p x (h 0 (zero-lt-suc _)), first_bad) (ap (option_map suc) (first_bad_small p l (λ i k. h (suc i) (suc-le-suc k))))

-- there is such a place or there is none
small_or_bad : (p : ℕ) (l : List ℕ) → Small p l ⊎ ((i : ℕ) × BadAt p l i)
small_or_bad p [] = inl tt
small_or_bad p (x ∷ l) =
    elim (dec_le p x) [
      | yes h ↦ inr (0, record { within = zero-lt-suc _; bad = h; before = λ j k. absurd (not-suc-le-zero k) })
      | no h ↦
          elim (small_or_bad p l) [
            | inl s ↦ inl (omega arith, s)
            | inr b ↦ inr (suc b.0, bad_at_later (omega arith) b.1)
          ]
    ]

pub first_bad_place : (p : ℕ) (l : List ℕ) (i : ℕ) → first_bad p l ≡ Some i → BadAt p l i
first_bad_place p l i q =
    elim (small_or_bad p l) [
      | inl s ↦ absurd (none-some i (sym (first_bad_small p l (small_at p l s)) ∙ q))
      | inr b ↦ subst (λ j. BadAt p l j) (cc (first_bad_at p l b.0 b.1)) b.1
    ]

pub first_bad_none : (p : ℕ) (l : List ℕ) → first_bad p l ≡ None → Small p l
first_bad_none p l q =
    elim (small_or_bad p l) [
      | inl s ↦ s
      | inr b ↦ absurd (none-some b.0 (sym q ∙ first_bad_at p l b.0 b.1))
    ]

-- cells: a place is told by its cell, and the cell by the place
before_cell : (top n i : ℕ) → entries_before top n (cell_at top n i) ≡ i
unfolding cell_at
before_cell top n i =
    let e : top + i / n - top ≡ i / n = omega arith in
    let f : suc (i % n) - 1 ≡ i % n = omega arith in
    ap₂ (λ r k. r * n + k) e f ∙ div-add-mod' i n

cell_before : {top n : ℕ} {l : List ℕ} (c : Cell) → InRows top n l c → cell_at top n (entries_before top n c) ≡ c
unfolding cell_at
cell_before {top} {n} c I =
    let r = c.row - top in
    let k = c.column - 1 in
    let small : k < n = omega (arith, I.column_from, I.column_to) in
    let positive : 0 < n = omega (arith, small) in
    let d : (r * n + k) / n ≡ r = mul-add-div_right positive r k ∙ ap (λ z. r + z) (div-eq_of_lt small) ∙ add-zero r in
    let m : (r * n + k) % n ≡ k = mul-add-mod_self_right r n k ∙ mod-eq_of_lt small in
    let a : top + (r * n + k) / n ≡ c.row = omega (arith, d, I.row_from) in
    let b : suc ((r * n + k) % n) ≡ c.column = omega (arith, m, I.column_from) in
    λ i. record { row = a i; column = b i }

cell_in : (top n i : ℕ) (l : List ℕ) → 0 < n → i < length l → InRows top n l (cell_at top n i)
unfolding cell_at
cell_in top n i l h k = record {
  row_from = omega arith;
  column_from = omega arith;
  column_to = mod-lt i h;
  inside = subst (λ j. j < length l) (sym (before_cell top n i)) k;
}

-- reading order is the order of the places
rows_apart : (n a b j : ℕ) → a < b → j < n → a * n + j < b * n
rows_apart n a b j h k = let m : suc a * n ≤ b * n = mul-le-mul h (le_refl n) in omega (arith, m, k)

read_before : {top n : ℕ} {l : List ℕ} (c d : Cell) → InRows top n l c → InRows top n l d → ReadBefore c d → entries_before top n c < entries_before top n d
read_before {top} {n} c d I J (inl h) =
    let m = rows_apart n (c.row - top) (d.row - top) (c.column - 1) (omega (arith, h, I.row_from)) (omega (arith, I.column_from, I.column_to)) in
    omega (arith, m)
read_before c d I J (inr (e, h)) = rw e (omega (arith, h, I.column_from, J.column_from))

-- of two cells one comes before the other where they are not the same
before_read : {top n : ℕ} {l : List ℕ} (c d : Cell) → InRows top n l c → InRows top n l d → entries_before top n c < entries_before top n d → ReadBefore c d
before_read {top} {n} c d I J h =
    elim (dec_le (suc c.row) d.row) [
      | yes l ↦ inl l
      | no l ↦
          elim (dec_le (suc d.row) c.row) [
            | yes k ↦
                let m = rows_apart n (d.row - top) (c.row - top) (d.column - 1) (omega (arith, k, J.row_from)) (omega (arith, J.column_from, J.column_to)) in
                absurd (omega (arith, m, h))
            | no k ↦
                let e : c.row ≡ d.row = omega arith in
                let g : (c.row - top) * n ≡ (d.row - top) * n = rw e in
                inr (e, omega (arith, g, h))
          ]
    ]

-- the answer of `bad_cell`
pub bad_cell_at : (top p n : ℕ) (l : List ℕ) {i : ℕ} → first_bad p l ≡ Some i → bad_cell top p n l ≡ Some (cell_at top n i)
unfolding bad_cell
bad_cell_at top p n l e = ap (option_map (cell_at top n)) e

first_at : (top p n i : ℕ) (l : List ℕ) → 0 < n → BadAt p l i → FirstBad top p n l (cell_at top n i)
first_at top p n i l h B =
    let e = before_cell top n i in
    let I = cell_in top n i l h B.within in
    record {
      in_rows = I;
      bad = subst (λ j. p ≤ get_or l j 0) (sym e) B.bad;
      good_before = λ d J r. B.before _ (subst (λ j. entries_before top n d < j) e (read_before d (cell_at top n i) J I r));
    }

pub bad_first : (top p n : ℕ) (l : List ℕ) (c : Cell) → 0 < n → bad_cell top p n l ≡ Some c → FirstBad top p n l c
unfolding bad_cell
bad_first top p n l c h q =
    let (i, e, f) = mapped_some (cell_at top n) (first_bad p l) q in
    subst (FirstBad top p n l) f (first_at top p n i l h (first_bad_place p l i e))

at_first : {top p n : ℕ} {l : List ℕ} (c : Cell) → FirstBad top p n l c → BadAt p l (entries_before top n c)
at_first {top} {p} {n} {l} c F = record { within = I.inside; bad = F.bad; before = before }
  where
    I : InRows top n l c
    I = F.in_rows

    before : (j : ℕ) → j < entries_before top n c → get_or l j 0 < p
    before j k =
        let e = before_cell top n j in
        let h : 0 < n = omega (arith, I.column_from, I.column_to) in
        let J = cell_in top n j l h (omega (arith, k, I.inside)) in
        subst (λ i. get_or l i 0 < p) e (F.good_before (cell_at top n j) J (before_read (cell_at top n j) c J I (rw e k)))

pub first_bad_lem : (top p n : ℕ) (l : List ℕ) (c : Cell) → FirstBad top p n l c → bad_cell top p n l ≡ Some c
first_bad_lem top p n l c F = bad_cell_at top p n l (first_bad_at p l _ (at_first c F)) ∙ ap Some (cell_before c F.in_rows)

pub first_unique : {top p n : ℕ} {l : List ℕ} {c d : Cell} → FirstBad top p n l c → FirstBad top p n l d → c ≡ d
first_unique {top} {p} {n} {l} {c} {d} F G = same_Some c d (sym (first_bad_lem top p n l c F) ∙ first_bad_lem top p n l d G)

pub bad_cell_none : (top p n : ℕ) (l : List ℕ) → bad_cell top p n l ≡ None → Small p l
unfolding bad_cell
bad_cell_none top p n l q = first_bad_none p l (mapped_none (cell_at top n) (first_bad p l) q)

pub small_bad_cell : (top p n : ℕ) (l : List ℕ) → Small p l → bad_cell top p n l ≡ None
unfolding bad_cell
small_bad_cell top p n l h = ap (option_map (cell_at top n)) (first_bad_small p l (small_at p l h))

-- where the first bad cell is
pub row_within : {p n k : ℕ} {l : List ℕ} (c : Cell) → FirstBad 1 p n l c → length l ≡ k * n → c.row ≤ k
row_within {n = n} {k = k} c F e =
    elim (dec_le c.row k) [
      | yes h ↦ h
      | no h ↦
          let far : k * n ≤ (c.row - 1) * n = mul-le-mul (omega arith) (le_refl n) in
          absurd (omega (arith, far, e, F.in_rows.inside))
    ]

pub bad_coefficient_lem : (p : ℕ) (f : List ℕ) (c : Cell) → bad_cell 0 p (length f) f ≡ Some c → FirstBad 0 p (length f) f c
unfolding bad_cell first_bad
bad_coefficient_lem p [] c e = absurd (none-some c e)
bad_coefficient_lem p (x ∷ f) c e = bad_first 0 p (suc (length f)) (x ∷ f) c (zero-lt-suc _) e

pub coefficient_row : {p : ℕ} {f : List ℕ} (c : Cell) → FirstBad 0 p (length f) f c → c.row ≡ 0
coefficient_row {f = f} c F =
    elim (dec_le c.row 0) [
      | yes h ↦ omega (arith, h)
      | no h ↦
          let far : 1 * length f ≤ (c.row - 0) * length f = mul-le-mul (omega arith) (le_refl _) in
          absurd (omega (arith, far, F.in_rows.inside))
    ]

pub empty_good : {top p n : ℕ} (c : Cell) → ¬ FirstBad top p n [] c
empty_good c F = omega (arith, F.in_rows.inside)
