-- The case file (01, "Case file, house layout").
--   Record         a record: F with p and n, A with its two halves, R or C with its entries, E
--   record_bytes r  the mark, 255 and a letter, and what the record holds
--   flat rs        the bytes of a list of records
--   BeginsWith s rs   the first bytes of s are those of the records rs
--   Case           the values of a case; `allowance` is missing where there is no A record
--   allow_record a  the A record, where there is one
--   records c      F, then at most one A, then the R records, then the C records, then E
--   case_bytes c    the bytes of a case
--   RowsOf p n rs  each of rs is a row of n entries below p
--   radix          128: the allowance is written as two halves to this base
--   Halves a       both halves of the allowance, where there is one, are 0 to 127
--   WellFormed c   p, n and every entry are in the ranges of 01, with n R records and at most 128 C records
--   default_allowance   the allowance without an A record
--   allowance_in a  128·high + low, or the default
--   allowance_of c  the allowance of a case
--   matrix_bytes c  the matrix, row after row
--   candidate_bytes c   the candidates, one after another
--   IsCase s c     the bytes s are the well-formed case c
--   longest_case    so many bytes the longest case has
--   Begins s       some continuation makes s a well-formed case
--   Place s k      k is the first offset where the bytes up to it and including it begin no well-formed case; the length if all could still be
--                  continued
-- Assumes nothing.
use Rattle.std.specs.Prelude.{◌≡◌, true, ℕ, suc, ◌+◌, ◌*◌, ◌<◌, ◌≤◌, length, take}
use mathlib.Core.List.{List, [], ◌∷◌, ◌++◌, map, flatten}
use Rattle.std.specs.Prelude.{Option, None, Some}
use Rattle.meaning.specs.Bytes.{Small}
use Rattle.meaning.specs.Bounds.{widest, most_candidates}
use Rattle.meaning.specs.Refusal.{is_prime}

pub data Record : Type 0 where
  field : ℕ → ℕ → Record
  allow : ℕ → ℕ → Record
  row : List ℕ → Record
  candidate : List ℕ → Record
  end : Record

unfoldable pub record_bytes : Record → List ℕ
record_bytes (field p n) = 255 ∷ 70 ∷ p ∷ n ∷ []
record_bytes (allow high low) = 255 ∷ 65 ∷ high ∷ low ∷ []
record_bytes (row l) = 255 ∷ 82 ∷ l
record_bytes (candidate l) = 255 ∷ 67 ∷ l
record_bytes end = 255 ∷ 69 ∷ []

unfoldable pub flat : List Record → List ℕ
flat [] = []
flat (r ∷ rs) = record_bytes r ++ flat rs

abbrev pub BeginsWith : List ℕ → List Record → Type 0
BeginsWith s rs = take (length (flat rs)) s ≡ flat rs

pub record Case : Type 0 where
  pub p : ℕ
  pub n : ℕ
  pub allowance : Option (ℕ × ℕ)
  pub matrix : List (List ℕ)
  pub candidates : List (List ℕ)

abbrev pub allow_record : Option (ℕ × ℕ) → List Record
allow_record None = []
allow_record (Some a) = allow a.0 a.1 ∷ []

unfoldable pub records : Case → List Record
records c = field c.p c.n ∷ (allow_record c.allowance ++ (map row c.matrix ++ (map candidate c.candidates ++ (end ∷ []))))

unfoldable pub case_bytes : Case → List ℕ
case_bytes c = flat (records c)

abbrev pub RowsOf : ℕ → ℕ → List (List ℕ) → Type 0
RowsOf p n [] = Unit {0}
RowsOf p n (r ∷ rs) = ((length r ≡ n) × Small p r) × RowsOf p n rs

abbrev pub radix : ℕ
radix = 128

abbrev pub Halves : Option (ℕ × ℕ) → Type 0
Halves None = Unit {0}
Halves (Some a) = (a.0 < radix) × (a.1 < radix)

pub record WellFormed (c : Case) : Type 0 where
  pub prime : is_prime c.p ≡ true
  pub least : 1 ≤ c.n
  pub most : c.n ≤ widest
  pub halves : Halves c.allowance
  pub square : length c.matrix ≡ c.n
  pub rows : RowsOf c.p c.n c.matrix
  pub few : length c.candidates ≤ most_candidates
  pub listed : RowsOf c.p c.n c.candidates

unfoldable pub default_allowance : ℕ
default_allowance = 8192

abbrev pub allowance_in : Option (ℕ × ℕ) → ℕ
allowance_in None = default_allowance
allowance_in (Some a) = radix * a.0 + a.1

abbrev pub allowance_of : Case → ℕ
allowance_of c = allowance_in c.allowance

abbrev pub matrix_bytes : Case → List ℕ
matrix_bytes c = flatten c.matrix

abbrev pub candidate_bytes : Case → List ℕ
candidate_bytes c = flatten c.candidates

pub record IsCase (s : List ℕ) (c : Case) : Type 0 where
  pub well_formed : WellFormed c
  pub whole : s ≡ case_bytes c

abbrev pub longest_case : ℕ
longest_case = 12682

pub record Begins (s : List ℕ) : Type 0 where
  pub rest : List ℕ
  pub case : Case
  pub is : IsCase (s ++ rest) case

pub record Place (s : List ℕ) (k : ℕ) : Type 0 where
  pub within : k ≤ length s
  pub before : Begins (take k s)
  pub at_it : k < length s → ¬ Begins (take (suc k) s)
