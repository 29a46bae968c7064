-- What a step of the reader answers (01, "Case file, house layout").
--   entries_of s at e x   the entries of the answer x to a step that was made at the offset `at` and ends at e
--   entries_in s r     the entries that the answer r hands out: the bytes of s behind the mark of an R or a C record, up to its end
--   Stretch s a l t   t is the stretch l of s: it has these bytes, and they lie in memory where s has its bytes from the offset a on
--   record_with l x    the record that the answer x to a step says, with the entries l
--   record_of s r      the record that the answer r hands out, its entries read off the bytes s
--   refusal_of x       01's number and the place that the answer x to a step says
--   NextRecord s at x   a well-formed case has the record x behind the records that fill s up to `at`, and s holds x there whole
--   Ended s at        s is a well-formed case and `at` is its length
--   StepIs s at r     the answer r to a step at any offset, with where it was made and the offset for the next one: the record; the end; or number 8
--   stepped_to x from next   the answer that says x, made at the offset `from`, the next one at `next`
--   Handed s xs at    the steps from offset 0 on hand out xs, one after another, and the offset behind them is `at`
--   Ends s xs e       the steps from offset 0 on hand out xs, one after another, and every later step says e
--   Stops s k         the steps hand out records that lie wholly before the offset k and leave none that does, and every later step gives 8 with k
--   Moved q q' r      the reader q gives the answer r, and is q' behind it: the same bytes, at the offset for the next step
-- Assumes nothing.
use Rattle.std.specs.Prelude.{◌≡◌, List, [], ◌∷◌, ◌++◌, ℕ, ◌+◌, ◌<◌, ◌≤◌, length, take}
use Rattle.std.specs.Prelude.{Option, None, Some, Result, Ok, Err}
use Rattle.std.proofs.Math.Seq.{slice}
use Rattle.std.specs.Borrow.{Bor}
use Rattle.meaning.specs.Case.{Record, record_bytes, flat, Case, records, WellFormed, IsCase, Place}
use Rattle.meaning.specs.Case.Record.{field, allow, row, candidate, end}
use Rattle.reader.specs.declared.Step.{Step}
use Rattle.reader.specs.declared.Step.TheVariants.{Field, Allow, Row, Candidate, End, Over}
use Rattle.reader.specs.declared.Stepped.{Stepped}
use Rattle.reader.specs.declared.Reader.{Reader}

-- the entries of an answer x to a step that was made at `at` and ends at e
abbrev pub entries_of : List ℕ → ℕ → ℕ → Result Step ℕ → List ℕ
entries_of s at e (Ok (Field p n)) = []
entries_of s at e (Ok (Allow high low)) = []
entries_of s at e (Ok Row) = slice (at + 2) e s
entries_of s at e (Ok Candidate) = slice (at + 2) e s
entries_of s at e (Ok End) = []
entries_of s at e (Ok Over) = []
entries_of s at e (Err k) = []

abbrev pub entries_in : List ℕ → Stepped → List ℕ
entries_in s r = entries_of s r.from.at r.next.at r.step

pub record Stretch (s : Bor (List ℕ)) (a : ℕ) (l : List ℕ) (t : Bor (List ℕ)) : Type 0 where
  pub bytes : t.now ≡ l
  pub there : 0 < length l → t.ref_ptr ≡ (s.ref_ptr.0, a + s.ref_ptr.1)

-- the record of an answer with the entries l
abbrev pub record_with : List ℕ → Result Step ℕ → Option Record
record_with l (Ok (Field p n)) = Some (field p n)
record_with l (Ok (Allow high low)) = Some (allow high low)
record_with l (Ok Row) = Some (row l)
record_with l (Ok Candidate) = Some (candidate l)
record_with l (Ok End) = Some end
record_with l (Ok Over) = None
record_with l (Err k) = None

abbrev pub record_of : List ℕ → Stepped → Option Record
record_of s r = record_with (entries_in s r) r.step

abbrev pub refusal_of : Result Step ℕ → Option (ℕ × ℕ)
refusal_of (Ok (Field p n)) = None
refusal_of (Ok (Allow high low)) = None
refusal_of (Ok Row) = None
refusal_of (Ok Candidate) = None
refusal_of (Ok End) = None
refusal_of (Ok Over) = None
refusal_of (Err k) = Some (8, k)

pub record NextRecord (s : List ℕ) (at : ℕ) (x : Record) : Type 0 where
  pub case : Case
  pub well_formed : WellFormed case
  pub passed : List Record
  pub to_come : List Record
  pub listed : records case ≡ passed ++ (x ∷ to_come)
  pub begins : at ≡ length (flat passed)
  pub holds : take (at + length (record_bytes x)) s ≡ flat passed ++ record_bytes x

pub record Ended (s : List ℕ) (at : ℕ) : Type 0 where
  pub case : Case
  pub is : IsCase s case
  pub length_of : at ≡ length s

pub data StepIs (s : List ℕ) (at : ℕ) (r : Stepped) : Type 0 where
  hands : (x : Record) → NextRecord s at x → record_of s r ≡ Some x → r.from.at ≡ at → r.next.at ≡ at + length (record_bytes x) → StepIs s at r
  over : Ended s at → r.step ≡ Ok Over → r.from.at ≡ at → r.next.at ≡ at → StepIs s at r
  refuses : (k : ℕ) → ((x : Record) → ¬ NextRecord s at x) → ¬ Ended s at → Place s k → refusal_of r.step ≡ Some (8, k) → r.from.at ≡ at → r.next.at ≡ at
      → StepIs s at r

abbrev pub stepped_to : Result Step ℕ → ℕ → ℕ → Stepped
stepped_to x from next = record { step = x; from = record { at = from }; next = record { at = next } }

pub data Handed (s : List ℕ) : List Record → ℕ → Type 0 where
  at_front : Handed s [] 0
  more : {xs : List Record} {at : ℕ} {x : Record} (r : Stepped) → Handed s xs at → StepIs s at r → record_of s r ≡ Some x → Handed s (xs ++ (x ∷ [])) r.next.at

pub record Ends (s : List ℕ) (xs : List Record) (e : Result Step ℕ) : Type 0 where
  pub at : ℕ
  pub handed : Handed s xs at
  pub says : StepIs s at (stepped_to e at at)
  pub every : (r : Stepped) → StepIs s at r → r ≡ stepped_to e at at

pub record Stops (s : List ℕ) (k : ℕ) : Type 0 where
  pub handed : List Record
  pub ends : Ends s handed (Err k)
  pub before : ends.at ≤ k
  pub none_left : (x : Record) → ¬ NextRecord s ends.at x

pub record Moved (q q' : Reader) (r : Stepped) : Type 0 where
  pub same : q'.src ≡ q.src
  pub place : q'.at ≡ r.next.at
  pub step : StepIs q.src.now q.at r
