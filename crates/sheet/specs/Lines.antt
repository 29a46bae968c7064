-- The lines of a sheet as they are read off what the calls answered and left in their buffers.
--   counts_line w c               a line with the word w, what was taken and what was spent
--   factor_line w c poly          a line with the word w and the coefficients up to the degree
--   image_line n w image          the line of the witness w with its image, and unwitnessed_line the one without a witness
--   proved_lines c poly           the lines of a proved stand, and short_lines n c w poly image those of a short one
--   stood_lines n r poly image    the lines of the stand r with these buffers
--   StoodFits n r poly image     the buffers hold what is read off them
--   StagesIn k l                 k stages stand in the stage record l
--   stage_lines_in k l             a line for each of them, with the leading 1 that the record leaves out
--   product_line n product        CHAIN with the n + 1 coefficients
--   chained_lines n k product l   the lines of a chain of k stages with these buffers
--   perioded_lines r              the line of the period r
--   CaseText p n m cs a t        the text t is the sheet of a case with these values
--   FileText s t                 the text t is the sheet of the file s
-- Assumes nothing.
use Rattle.std.specs.Prelude.{◌≡◌, List, [], ◌∷◌, ◌++◌, ℕ, zero, suc, ◌+◌, ◌≤◌, length, take, drop, Option}
use Prim.Native.String.{String}
use Rattle.meaning.specs.Line.{Line, text}
use Rattle.meaning.specs.Sheet.{period_line, SheetLines, IsSheet, sheet_room}
use Rattle.calls.specs.declared.Counts.{Counts}
use Rattle.calls.specs.declared.Stood.{Stood}
use Rattle.calls.specs.declared.Stood.TheVariants as stood

abbrev pub counts_line : String → Counts → Line
counts_line w c = record { word = w; numbers = c.taken ∷ c.spent ∷ [] }

abbrev pub factor_line : String → Counts → List ℕ → Line
factor_line w c poly = record { word = w; numbers = take (c.degree + 1) poly }

abbrev pub image_line : ℕ → ℕ → List ℕ → Line
image_line n w image = record { word = "WITNESS"; numbers = w ∷ take n image }

abbrev pub unwitnessed_line : Line
unwitnessed_line = record { word = "WITNESS none"; numbers = [] }

abbrev pub proved_lines : Counts → List ℕ → List Line
proved_lines c poly = counts_line "STAND proved" c ∷ factor_line "MINPOLY" c poly ∷ unwitnessed_line ∷ []

abbrev pub short_lines : ℕ → Counts → ℕ → List ℕ → List ℕ → List Line
short_lines n c w poly image = counts_line "STAND short" c ∷ factor_line "DIVISOR" c poly ∷ image_line n w image ∷ []

abbrev pub stood_lines : ℕ → Stood → List ℕ → List ℕ → List Line
stood_lines n (stood.Proved c) poly image = proved_lines c poly
stood_lines n (stood.Short c w) poly image = short_lines n c w poly image

abbrev pub StoodFits : ℕ → Stood → List ℕ → List ℕ → Type 0
StoodFits n (stood.Proved c) poly image = c.degree + 1 ≤ length poly
StoodFits n (stood.Short c w) poly image = (c.degree + 1 ≤ length poly) × (n ≤ length image)

unfoldable pub StagesIn : ℕ → List ℕ → Type 0
StagesIn zero l = Unit {0}
StagesIn (suc k) [] = ⊥
StagesIn (suc k) (d ∷ l) = (d ≤ length l) × StagesIn k (drop d l)

unfoldable pub stage_lines_in : ℕ → List ℕ → List Line
stage_lines_in zero l = []
stage_lines_in (suc k) [] = []
stage_lines_in (suc k) (d ∷ l) = record { word = "STAGE"; numbers = take d l ++ (1 ∷ []) } ∷ stage_lines_in k (drop d l)

abbrev pub product_line : ℕ → List ℕ → Line
product_line n product = record { word = "CHAIN"; numbers = take (n + 1) product }

abbrev pub chained_lines : ℕ → ℕ → List ℕ → List ℕ → List Line
chained_lines n k product l = stage_lines_in k l ++ (product_line n product ∷ [])

abbrev pub perioded_lines : Option ℕ → List Line
perioded_lines r = period_line r ∷ []

pub record CaseText (p n : ℕ) (m cs : List ℕ) (a : ℕ) (t : List ℕ) : Type 0 where
  pub lines : List Line
  pub sheet : SheetLines p n m cs a lines
  pub is : t ≡ text lines
  pub room : length t ≤ sheet_room

pub record FileText (s t : List ℕ) : Type 0 where
  pub sheet : IsSheet s t
  pub room : length t ≤ sheet_room
