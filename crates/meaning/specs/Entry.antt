-- The first bad entry (02, #102): "the row and column, counted from 1, of the first bad entry in reading order". An entry is bad where it is p or more.
-- Entries are a list of rows of n, read row after row, and the first row has the number `top`: 1 where rows are counted from 1, and 0 where the one
-- row is a list of coefficients.
--   Cell                  a row and a column
--   cell_at top n i        the cell of the entry that has i others before it
--   entries_before top n c   how many entries come before the cell c, in reading order
--   entry_at top n l c     the entry in the cell c
--   first_bad p l          how many entries come before the first bad one of l, or none
--   bad_cell top p n l     the cell of the first bad entry of l, or none
--   ReadBefore c d        the cell c comes before d in reading order: in an earlier row, or in the same row and an earlier column
--   InRows top n l c      c is the cell of an entry of l
--   FirstBad top p n l c  the entry in c is bad, and none before it in reading order is: `bad_cell` says just that (`bad_first`, `first_bad_lem`)
-- Assumes nothing.
use Rattle.std.specs.Prelude.{◌≡◌, ◌⊎◌, true, false, List, [], ◌∷◌, ℕ, suc, ◌+◌, ◌*◌, ◌-◌, ◌/◌, ◌%◌, ◌<◌, ◌≤◌, length, get_or, leb}
use Rattle.std.specs.Prelude.{Option, None, Some, option_map}

pub record Cell : Type 0 where
  pub row : ℕ
  pub column : ℕ

unfoldable pub cell_at : (top n i : ℕ) → Cell
cell_at top n i = record { row = top + i / n; column = suc (i % n) }

unfoldable pub first_bad : ℕ → List ℕ → Option ℕ
first_bad p [] = None
first_bad p (x ∷ l) = elim (leb p x) [ true ↦ Some 0 | false ↦ option_map suc (first_bad p l) ]

unfoldable pub bad_cell : (top p n : ℕ) → List ℕ → Option Cell
bad_cell top p n l = option_map (cell_at top n) (first_bad p l)

-- what that means, cell by cell
abbrev pub entries_before : (top n : ℕ) → Cell → ℕ
entries_before top n c = (c.row - top) * n + (c.column - 1)

abbrev pub entry_at : (top n : ℕ) → List ℕ → Cell → ℕ
entry_at top n l c = get_or l (entries_before top n c) 0

abbrev pub ReadBefore : Cell → Cell → Type 0
ReadBefore c d = (c.row < d.row) ⊎ ((c.row ≡ d.row) × (c.column < d.column))

pub record InRows (top n : ℕ) (l : List ℕ) (c : Cell) : Type 0 where
  pub row_from : top ≤ c.row
  pub column_from : 1 ≤ c.column
  pub column_to : c.column ≤ n
  pub inside : entries_before top n c < length l

pub record FirstBad (top p n : ℕ) (l : List ℕ) (c : Cell) : Type 0 where
  pub in_rows : InRows top n l c
  pub bad : p ≤ entry_at top n l c
  pub good_before : (d : Cell) → InRows top n l d → ReadBefore d c → entry_at top n l d < p
