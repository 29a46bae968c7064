-- What the code gathers of a file, record by record. Nobody need believe it: proofs/ shows that the whole file comes to what `Reading` asks for.
--   no_values                  the values before the first record
--   noted g x                 the values g with those of the record x
--   noted_all g xs             the values g with those of the records xs, one after another
--   gathered xs               the values of the records xs
--   Stored g v m cs           the numbers v and the buffers m and cs hold the values g
--   Behind k most room bs l   behind k rows with the bytes bs there is a place for l: they are fewer than `most`, each as long as l, and leave room for it
--   RoomFor g x               there is a place for the record x behind the values g
--   Noting s r v m cs         the step r hands out a record of s for which there is a place behind what v and the whole buffers m and cs hold
--   Noted s r v m cs v' m' cs'   where it does, v', m' and cs' hold that record too
-- Assumes nothing.
use Rattle.std.specs.Prelude.{◌≡◌, List, [], ◌∷◌, ◌++◌, ℕ, ◌+◌, ◌*◌, ◌<◌, ◌≤◌, length}
use Rattle.std.specs.Prelude.{None, Some}
use Rattle.meaning.specs.Bytes.{padded}
use Rattle.meaning.specs.Bounds.{most_candidates, widest, matrix_room, candidate_room}
use Rattle.meaning.specs.Case.{Record, Case, allowance_of, matrix_bytes, candidate_bytes}
use Rattle.meaning.specs.Case.Record.{field, allow, row, candidate, end}
use Rattle.reader.specs.declared.Stepped.{Stepped}
use Rattle.casefile.specs.declared.Numbers.{Numbers}
use Rattle.reader.specs.Step.{record_of}

abbrev pub no_values : Case
no_values = record { p = 0; n = 0; allowance = None; matrix = []; candidates = [] }

abbrev pub noted : Case → Record → Case
noted g (field p n) = record { p = p; n = n; allowance = g.allowance; matrix = g.matrix; candidates = g.candidates }
noted g (allow high low) = record { p = g.p; n = g.n; allowance = Some (high, low); matrix = g.matrix; candidates = g.candidates }
noted g (row l) = record { p = g.p; n = g.n; allowance = g.allowance; matrix = g.matrix ++ (l ∷ []); candidates = g.candidates }
noted g (candidate l) = record { p = g.p; n = g.n; allowance = g.allowance; matrix = g.matrix; candidates = g.candidates ++ (l ∷ []) }
noted g end = g

unfoldable pub noted_all : Case → List Record → Case
noted_all g [] = g
noted_all g (x ∷ xs) = noted_all (noted g x) xs

abbrev pub gathered : List Record → Case
gathered xs = noted_all no_values xs

pub record Stored (g : Case) (v : Numbers) (m cs : List ℕ) : Type 0 where
  pub modulus : v.case.p ≡ g.p
  pub order : v.case.n ≡ g.n
  pub allowance : v.case.allowance ≡ allowance_of g
  pub rows : v.rows ≡ length g.matrix
  pub count : v.case.count ≡ length g.candidates
  pub matrix : m ≡ padded matrix_room (matrix_bytes g)
  pub candidates : cs ≡ padded candidate_room (candidate_bytes g)

pub record Behind (k most room : ℕ) (bs l : List ℕ) : Type 0 where
  pub fewer : k < most
  pub place : length bs ≡ k * length l
  pub fits : length bs + length l ≤ room

abbrev pub RoomFor : Case → Record → Type 0
RoomFor g (field p n) = Unit {0}
RoomFor g (allow high low) = Unit {0}
RoomFor g (row l) = Behind (length g.matrix) widest matrix_room (matrix_bytes g) l
RoomFor g (candidate l) = Behind (length g.candidates) most_candidates candidate_room (candidate_bytes g) l
RoomFor g end = Unit {0}

pub record Noting (s : List ℕ) (r : Stepped) (v : Numbers) (m cs : List ℕ) : Type 0 where
  pub values : Case
  pub next : Record
  pub hands : record_of s r ≡ Some next
  pub holds : Stored values v m cs
  pub room : RoomFor values next
  pub matrix_size : length m ≡ matrix_room
  pub candidate_size : length cs ≡ candidate_room

abbrev pub Noted : List ℕ → Stepped → Numbers → List ℕ → List ℕ → Numbers → List ℕ → List ℕ → Type 0
Noted s r v m cs v' m' cs' = (w : Noting s r v m cs) → Stored (noted w.values w.next) v' m' cs'
