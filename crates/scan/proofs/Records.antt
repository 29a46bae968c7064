-- Records and the machine between bytes and cases.
--   Fits q x z       the record x may come in the state q and leads to z
--   Takes q xs z     the records xs, each in its turn, lead from q to z
--   takes_append, takes_split   lists of records one after another
--   fits_viable, takes_viable   viable states lead to viable states
--   fits-run, fits_comes, takes_run, takes_end   the bytes of records lead where the records do
--   last c           what the machine keeps behind the whole case c
--   CaseOf xs        a well-formed case whose records are xs
--   case_takes, takes_case   a well-formed case is a list of records that leads from Start to Over, and no other list does
--   case_fits        a record of a case may come behind those before it
--   over_takes       no record comes behind E
--   Whole q          no record is under way
--   fits_whole       no record is under way in front of a record and behind it
--   Are q z t        the bytes t are those of records that lead from q to z
--   parse            bytes that lead from Start to a state where no record is under way are those of records
--   Lives, viable_lives   every viable state leads to Over
--   Finished, whole_finish   one where no record is under way does so by records
-- Assumes nothing.
use mathlib.Core.Path.{◌≡◌, refl, sym, ap, subst, ◌∙◌}
use mathlib.Core.Bool.{Bool, true, false, false≢true}
use mathlib.Core.List.{List, [], ◌∷◌, ◌++◌, map, append_assoc, append-nil}
use Rattle.std.specs.Prelude.{Option, None, Some}
use Prim.Native.Nat.{ℕ, zero, suc, ◌+◌, ◌<◌, ◌≤◌}
use native.Mathlib.Nat.{add-zero}
use native.Mathlib.Decide.{dec_le}
use native.Mathlib.Omega.{arith}
use lib.ListN.{length, replicate, length-replicate}
use lib.Dec.{leb, ltb, eqb, lit≤}
use borrow.Author.Tests.{leb-true, leb-false, ltb-true, eqb-true, lt-ltb, le-leb}
use Rattle.meaning.specs.Bytes.{Small}
use Rattle.meaning.specs.Bounds.{most_candidates, widest}
use Rattle.meaning.specs.Refusal.{is_prime, all_below}
use Rattle.meaning.specs.Case.{Record, record_bytes, flat, Case, records, allow_record, RowsOf, Halves, WellFormed, radix}
use Rattle.meaning.specs.Case.Record.{field, allow, row, candidate, end}
use Rattle.meaning.proofs.Bytes.{zeros_small}
use Rattle.meaning.proofs.Refusal.{prime_positive}
use Rattle.scan.specs.declared.Head.{Head}
use Rattle.scan.specs.declared.State.{State}
use Rattle.scan.specs.declared.State.TheVariants.{Start, Opening, Modulus, Size, Body, Letter, Entries, Over, Dead}
use Rattle.algebra.proofs.Field.{pick_each}
use Rattle.scan.specs.Machine.{only, begun, stale, opened, sized, letter, entered, after, run, Ranged, Viable}
use Rattle.scan.proofs.Run.{Alive, run_dead, viable_after, entries_run}

pub data Fits : State → Record → State → Type 0 where
  fits_field : {p n : ℕ} → is_prime p ≡ true → 1 ≤ n → n ≤ widest → Fits Start (field p n) (Body (begun p n))
  fits_allow : {h : Head} {high low : ℕ} → h.fresh ≡ true → high < radix → low < radix → Fits (Body h) (allow high low) (Body (stale h h.count))
  fits_row : {h : Head} {l : List ℕ} → h.count < h.n → length l ≡ h.n → Small h.p l → Fits (Body h) (row l) (Body (stale h (h.count + 1)))
  fits_candidate : {h : Head} {l : List ℕ} → h.n ≤ h.count → h.count < h.n + most_candidates → length l ≡ h.n → Small h.p l
      → Fits (Body h) (candidate l) (Body (stale h (h.count + 1)))
  fits_end : {h : Head} → h.n ≤ h.count → Fits (Body h) end (Over (stale h h.count))

pub data Takes : State → List Record → State → Type 0 where
  stays : {q : State} → Takes q [] q
  takes : {q y z : State} {x : Record} {xs : List Record} → Fits q x y → Takes y xs z → Takes q (x ∷ xs) z

pub takes_append : {q y z : State} {xs ys : List Record} → Takes q xs y → Takes y ys z → Takes q (xs ++ ys) z
takes_append stays u = u
takes_append (takes f t) u = takes f (takes_append t u)

pub takes_split : {q z : State} (xs : List Record) {ys : List Record} → Takes q (xs ++ ys) z → (y : State) × Takes q xs y × Takes y ys z
takes_split [] t = (_, stays, t)
takes_split (x ∷ xs) (takes f t) =
    let r = takes_split xs t in
    (r.0, takes f r.1, r.2)

-- the bytes of records lead where the records do
pub fits_viable : {q z : State} {x : Record} → Fits q x z → Viable q → Viable z
fits_viable (fits_field {p} P h k) g = (prime_positive p P, h)
fits_viable (fits_allow f h k) g = g
fits_viable (fits_row h e s) g = g
fits_viable (fits_candidate h k e s) g = g
fits_viable (fits_end h) g = tt

sized_body : (p n : ℕ) → 1 ≤ n → n ≤ widest → sized p n ≡ Body (begun p n)
unfolding sized
sized_body p n h k = rw (le-leb 1 n h, le-leb n widest k)

letter_allow : (h : Head) → h.fresh ≡ true → letter h 65 ≡ Entries (stale h h.count) radix 2
unfolding letter
letter_allow h f = ap (λ t. only t (Entries (stale h h.count) radix 2)) f

letter_row : (h : Head) → h.count < h.n → letter h 82 ≡ opened h
unfolding letter
letter_row h i = rw (lt-ltb h.count h.n i)

letter_candidate : (h : Head) → h.n ≤ h.count → h.count < h.n + most_candidates → letter h 67 ≡ opened h
unfolding letter
letter_candidate h i k = rw (le-leb h.n h.count i, lt-ltb h.count (h.n + most_candidates) k)

letter_end : (h : Head) → h.n ≤ h.count → letter h 69 ≡ Over (stale h h.count)
unfolding letter
letter_end h i = rw (le-leb h.n h.count i)

fits-run : {q z : State} {x : Record} → Fits q x z → Viable q → (t : List ℕ) → run q (record_bytes x ++ t) ≡ run z t
unfolding record_bytes run after
fits-run (fits_field {p} {n} P h k) g t = ap (λ b. run (only b (Size p)) (n ∷ t)) P ∙ ap (λ q. run q t) (sized_body p n h k)
fits-run (fits_allow {h} {high} {low} f i k) g t =
    ap (λ q. run q (high ∷ low ∷ t)) (letter_allow h f) ∙ entries_run (stale h h.count) radix 2 (high ∷ low ∷ []) t (lit≤ tt) refl (i, (k, tt))
fits-run (fits_row {h} {l} i e s) g t =
    ap (λ q. run q (l ++ t)) (letter_row h i) ∙ entries_run (stale h (h.count + 1)) h.p h.n l t g.1 e s
fits-run (fits_candidate {h} {l} i k e s) g t =
    ap (λ q. run q (l ++ t)) (letter_candidate h i k) ∙ entries_run (stale h (h.count + 1)) h.p h.n l t g.1 e s
fits-run (fits_end {h} i) g t = ap (λ q. run q t) (letter_end h i)

pub fits_comes : {q z : State} {x : Record} → Fits q x z → Viable q → run q (record_bytes x) ≡ z
unfolding run
fits_comes {q} {x = x} f g = ap (run q) (sym (append-nil (record_bytes x))) ∙ fits-run f g []

pub takes_run : {q z : State} {xs : List Record} → Takes q xs z → Viable q → (t : List ℕ) → run q (flat xs ++ t) ≡ run z t
unfolding flat
takes_run stays g t = refl
takes_run (takes {x = x} {xs = xs} f u) g t =
    ap (run _) (append_assoc (record_bytes x) (flat xs) t) ∙ fits-run f g (flat xs ++ t) ∙ takes_run u (fits_viable f g) t

pub takes_end : {q z : State} {xs : List Record} → Takes q xs z → Viable q → run q (flat xs) ≡ z
unfolding run
takes_end {q} {xs = xs} t g = ap (run q) (sym (append-nil (flat xs))) ∙ takes_run t g []

pub takes_viable : {q z : State} {xs : List Record} → Takes q xs z → Viable q → Viable z
takes_viable stays g = g
takes_viable (takes f u) g = takes_viable u (fits_viable f g)

-- a well-formed case leads from Start to Over
candidates_take : (h : Head) (ys : List (List ℕ)) → RowsOf h.p h.n ys → h.n ≤ h.count → h.count + length ys ≤ h.n + most_candidates
    → Takes (Body h) (map candidate ys ++ (end ∷ [])) (Over (stale h (h.count + length ys)))
candidates_take h [] s i k = subst (λ j. Takes (Body h) (end ∷ []) (Over (stale h j))) (sym (add-zero h.count)) (takes (fits_end i) stays)
candidates_take h (y ∷ ys) s i k =
    let e : h.count + 1 + length ys ≡ h.count + suc (length ys) = omega arith in
    takes (fits_candidate i (omega arith) s.0.0 s.0.1)
    (subst (λ j. Takes (Body (stale h (h.count + 1))) (map candidate ys ++ (end ∷ [])) (Over (stale h j))) e
    (candidates_take (stale h (h.count + 1)) ys s.1 (omega arith) (omega arith)))

rows_take : (h : Head) (xs ys : List (List ℕ)) → RowsOf h.p h.n xs → RowsOf h.p h.n ys → h.count + length xs ≡ h.n → length ys ≤ most_candidates
    → Takes (Body h) (map row xs ++ (map candidate ys ++ (end ∷ []))) (Over (stale h (h.n + length ys)))
rows_take h [] ys s u e k =
    let q : h.count ≡ h.n = omega arith in
    subst (λ j. Takes (Body h) (map candidate ys ++ (end ∷ [])) (Over (stale h (j + length ys)))) q (candidates_take h ys u (omega arith) (omega arith))
rows_take h (x ∷ xs) ys s u e k =
    takes (fits_row {h = h} (omega arith) s.0.0 s.0.1) (rows_take (stale h (h.count + 1)) xs ys s.1 u (omega arith) k)

-- what is kept behind a whole case
abbrev pub last : Case → Head
last c = record { p = c.p; n = c.n; count = c.n + length c.candidates; fresh = false }

pub case_takes : (c : Case) → WellFormed c → Takes Start (records c) (Over (last c))
unfolding records
case_takes c w =
    let xs : List Record = map row c.matrix ++ (map candidate c.candidates ++ (end ∷ [])) in
    let body : (fresh : Bool) → Takes (Body (record { p = c.p; n = c.n; count = 0; fresh = fresh })) xs (Over (last c)) =
    λ fresh.
    rows_take (record { p = c.p; n = c.n; count = 0; fresh = fresh }) c.matrix c.candidates w.rows w.listed (omega (arith, w.square)) w.few in
    takes (fits_field w.prime w.least w.most) (go c.allowance w.halves (body true) (body false))
  where
    go : {p n : ℕ} {z : State} {xs : List Record} (a : Option (ℕ × ℕ)) → Halves a → Takes (Body (begun p n)) xs z → Takes (Body (stale (begun p n) 0)) xs z
        → Takes (Body (begun p n)) (allow_record a ++ xs) z
    go None h t u = t
    go (Some a) h t u = takes (fits_allow refl h.0 h.1) u

head_fits : {q z : State} {x : Record} {xs : List Record} → Takes q (x ∷ xs) z → (y : State) × Fits q x y
head_fits (takes f t) = (_, f)

pub case_fits : (c : Case) → WellFormed c → (xs ys : List Record) (x : Record) → records c ≡ xs ++ (x ∷ ys) → (q : State) × Takes Start xs q × (z : State) × Fits q x z
case_fits c w xs ys x e =
    let t = takes_split xs (subst (λ zs. Takes Start zs (Over (last c))) e (case_takes c w)) in
    let f = head_fits t.2 in
    (t.0, t.1, f.0, f.1)

-- and no other list of records does
pub over_takes : {h : Head} {z : State} {xs : List Record} → Takes (Over h) xs z → xs ≡ []
over_takes stays = refl
over_takes {h = h} {z = z} (takes {y = y} {xs = xs} x9 _) = elim x9 [ ]

record CandidatePart (p n m : ℕ) (xs : List Record) : Type 0 where
  listed : List (List ℕ)
  are : xs ≡ map candidate listed ++ (end ∷ [])
  rows : RowsOf p n listed
  few : m + length listed ≤ n + most_candidates

candidate_part : {h k : Head} {xs : List Record} → false ≡ h.fresh → h.n ≤ h.count → h.count ≤ h.n + most_candidates → Takes (Body h) xs (Over k)
    → CandidatePart h.p h.n h.count xs
candidate_part f i k (takes (fits_allow g a b) t) = absurd (false≢true (f ∙ g))
candidate_part f i k (takes (fits_row l e s) t) = absurd (omega arith)
candidate_part f i k (takes (fits_candidate {l = r} l j e s) t) =
    let c = candidate_part refl (omega arith) (omega arith) t in
    record { listed = r ∷ c.listed; are = ap (λ u. candidate r ∷ u) c.are; rows = ((e, s), c.rows); few = omega (arith, c.few) }
candidate_part f i k (takes (fits_end l) t) =
    record { listed = []; are = ap (λ u. end ∷ u) (over_takes t); rows = tt; few = omega arith }

record RowPart (p n m : ℕ) (xs : List Record) : Type 0 where
  matrix : List (List ℕ)
  listed : List (List ℕ)
  are : xs ≡ map row matrix ++ (map candidate listed ++ (end ∷ []))
  square : m + length matrix ≡ n
  rows : RowsOf p n matrix
  candidates : RowsOf p n listed
  few : length listed ≤ most_candidates

-- where the rows are over
no_rows_lem : {p n m : ℕ} {xs : List Record} → m ≡ n → CandidatePart p n m xs → RowPart p n m xs
no_rows_lem e c =
    record {
      matrix = [];
      listed = c.listed;
      are = c.are;
      square = omega arith;
      rows = tt;
      candidates = c.rows;
      few = omega (arith, c.few);
    }

one_row : {p n m : ℕ} {l : List ℕ} {xs : List Record} → length l ≡ n → Small p l → RowPart p n (m + 1) xs → RowPart p n m (row l ∷ xs)
one_row {l = l} e s c =
    record {
      matrix = l ∷ c.matrix;
      listed = c.listed;
      are = ap (λ u. row l ∷ u) c.are;
      square = omega (arith, c.square);
      rows = ((e, s), c.rows);
      candidates = c.candidates;
      few = c.few;
    }

row_part : {h k : Head} {xs : List Record} → false ≡ h.fresh → h.count ≤ h.n → Takes (Body h) xs (Over k) → RowPart h.p h.n h.count xs
row_part f i (takes (fits_allow g a b) t) = absurd (false≢true (f ∙ g))
row_part f i (takes (fits_row l e s) t) = one_row e s (row_part refl (omega arith) t)
row_part f i (takes (fits_candidate l j e s) t) = no_rows_lem (omega arith) (candidate_part f l (omega arith) (takes (fits_candidate l j e s) t))
row_part f i (takes (fits_end l) t) = no_rows_lem (omega arith) (candidate_part f l (omega arith) (takes (fits_end l) t))

pub record CaseOf (xs : List Record) : Type 0 where
  pub case : Case
  pub well_formed : WellFormed case
  pub are : records case ≡ xs

-- the case from its parts
joined : {p n : ℕ} {xs : List Record} → is_prime p ≡ true → 1 ≤ n → n ≤ widest → (a : Option (ℕ × ℕ)) → Halves a → RowPart p n 0 xs
    → CaseOf (field p n ∷ (allow_record a ++ xs))
unfolding records
joined {p} {n} P h k a b r =
    record {
      case = record { p = p; n = n; allowance = a; matrix = r.matrix; candidates = r.listed };
      well_formed = record {
        prime = P;
        least = h;
        most = k;
        halves = b;
        square = omega (arith, r.square);
        rows = r.rows;
        few = r.few;
        listed = r.candidates;
      };
      are = ap (λ u. field p n ∷ (allow_record a ++ u)) (sym r.are);
    }

pub takes_case : {h : Head} {xs : List Record} → Takes Start xs (Over h) → CaseOf xs
takes_case (takes (fits_field P h k) (takes (fits_allow f i j) t)) = joined P h k (Some (_, _)) (i, j) (row_part refl (omega arith) t)
takes_case (takes (fits_field P h k) (takes (fits_row l e s) t)) = joined P h k None tt (one_row e s (row_part refl (omega arith) t))
takes_case (takes (fits_field P h k) (takes (fits_candidate l j e s) t)) = absurd (omega arith)
takes_case (takes (fits_field P h k) (takes (fits_end l) t)) = absurd (omega arith)

-- bytes that lead to a state where no record is under way are those of records
abbrev pub Whole : State → Type 0
Whole Start = Unit {0}
Whole Opening = ⊥
Whole Modulus = ⊥
Whole (Size p) = ⊥
Whole (Body h) = Unit {0}
Whole (Letter h) = ⊥
Whole (Entries h bound left) = ⊥
Whole (Over h) = Unit {0}
Whole Dead = ⊥

pub fits_whole : {q z : State} {x : Record} → Fits q x z → Whole q × Whole z
fits_whole (fits_field P h k) = (tt, tt)
fits_whole (fits_allow f h k) = (tt, tt)
fits_whole (fits_row h e s) = (tt, tt)
fits_whole (fits_candidate h k e s) = (tt, tt)
fits_whole (fits_end h) = (tt, tt)

pub record Are (q z : State) (t : List ℕ) : Type 0 where
  pub listed : List Record
  pub bytes : t ≡ flat listed
  pub lead : Takes q listed z

record Entered (q z : State) (bound left : ℕ) (t : List ℕ) : Type 0 where
  entries : List ℕ
  rest : List ℕ
  count : length entries ≡ left
  small : Small bound entries
  bytes : t ≡ entries ++ rest
  behind : Are q z rest

-- what the bytes t behind the state q are, where they lead to z: the rest of the record under way, and records
abbrev Parsed : State → State → List ℕ → Type 0
Parsed z Start t = Are Start z t
Parsed z Opening t = Are Start z (255 ∷ t)
Parsed z Modulus t = Are Start z (255 ∷ 70 ∷ t)
Parsed z (Size p) t = Are Start z (255 ∷ 70 ∷ p ∷ t)
Parsed z (Body h) t = Are (Body h) z t
Parsed z (Letter h) t = Are (Body h) z (255 ∷ t)
Parsed z (Entries h bound left) t = Entered (Body h) z bound left t
Parsed z (Over h) t = Are (Over h) z t
Parsed z Dead t = ⊥

parsed_none : (q : State) → Whole q → Parsed q q []
unfolding flat
parsed_none Start w = record { listed = []; bytes = refl; lead = stays }
parsed_none (Body h) w = record { listed = []; bytes = refl; lead = stays }
parsed_none (Over h) w = record { listed = []; bytes = refl; lead = stays }
parsed_none Opening w = absurd w
parsed_none Modulus w = absurd w
parsed_none (Size p) w = absurd w
parsed_none (Letter h) w = absurd w
parsed_none (Entries h bound left) w = absurd w
parsed_none Dead w = absurd w

-- one record in front
are_more : {q y z : State} {x : Record} {t : List ℕ} → Fits q x y → Are y z t → Are q z (record_bytes x ++ t)
unfolding flat
are_more {x = x} f r = record { listed = x ∷ r.listed; bytes = ap (λ u. record_bytes x ++ u) r.bytes; lead = takes f r.lead }

-- the entries behind a letter, and the record
two_entries : {z : State} {h : Head} (l rest : List ℕ) → h.fresh ≡ true → length l ≡ 2 → Small radix l → Are (Body (stale h h.count)) z rest
    → Are (Body h) z (255 ∷ 65 ∷ (l ++ rest))
unfolding record_bytes
two_entries [] rest f e s r = absurd (omega arith)
two_entries (high ∷ []) rest f e s r = absurd (omega arith)
two_entries (high ∷ low ∷ []) rest f e s r = are_more (fits_allow f s.0 s.1.0) r
two_entries (high ∷ low ∷ x ∷ l) rest f e s r = absurd (omega arith)

unread_row : {z : State} (h : Head) (t : List ℕ) → h.count < h.n → Entered (Body (stale h (h.count + 1))) z h.p h.n t → Are (Body h) z (255 ∷ 82 ∷ t)
unfolding record_bytes
unread_row h t i w = rw w.bytes (are_more {x = row w.entries} (fits_row i w.count w.small) w.behind)

unread_candidate : {z : State} (h : Head) (t : List ℕ) → h.n ≤ h.count → h.count < h.n + most_candidates
    → Entered (Body (stale h (h.count + 1))) z h.p h.n t → Are (Body h) z (255 ∷ 67 ∷ t)
unfolding record_bytes
unread_candidate h t i k w = rw w.bytes (are_more {x = candidate w.entries} (fits_candidate i k w.count w.small) w.behind)

unread_end : {z : State} (h : Head) (t : List ℕ) → h.n ≤ h.count → Are (Over (stale h h.count)) z t → Are (Body h) z (255 ∷ 69 ∷ t)
unfolding record_bytes
unread_end h t i w = are_more (fits_end i) w

unread_letter : (z : State) (h : Head) (b : ℕ) (t : List ℕ) → Parsed z (letter h b) t → Are (Body h) z (255 ∷ b ∷ t)
unfolding letter
unread_letter z h b t =
    let P : State → Type 0 = λ q. Parsed z q t → Are (Body h) z (255 ∷ b ∷ t) in
    pick_each P (eqb b 65)
    (λ e. pick_each P h.fresh (λ f w. rw (eqb-true b 65 e, w.bytes) (two_entries w.entries w.rest f w.count w.small w.behind)) (λ _. absurd))
    (λ _. pick_each P (eqb b 82)
    (λ e. pick_each P (ltb h.count h.n) (λ i w. rw (eqb-true b 82 e) (unread_row h t (ltb-true _ _ i) w)) (λ _. absurd))
    (λ _. pick_each P (leb h.n h.count)
    (λ i. pick_each P (eqb b 67)
    (λ e. pick_each P (ltb h.count (h.n + most_candidates))
    (λ k w. rw (eqb-true b 67 e) (unread_candidate h t (leb-true _ _ i) (ltb-true _ _ k) w)) (λ _. absurd))
    (λ _. pick_each P (eqb b 69) (λ e w. rw (eqb-true b 69 e) (unread_end h t (leb-true _ _ i) w)) (λ _. absurd)))
    (λ _. absurd)))

unread_entry : (z : State) (h : Head) (bound left b : ℕ) (t : List ℕ) → 1 ≤ left → Parsed z (entered h bound left b) t
    → Entered (Body h) z bound left (b ∷ t)
unfolding entered
unread_entry z h bound left b t i =
    let P : State → Type 0 = λ q. Parsed z q t → Entered (Body h) z bound left (b ∷ t) in
    pick_each P (ltb b bound)
    (λ e. pick_each P (leb left 1)
    (λ k w. record {
      entries = b ∷ [];
      rest = t;
      count = omega (arith, leb-true left 1 k);
      small = (ltb-true b bound e, tt);
      bytes = refl;
      behind = w;
    })
    (λ k w. record {
      entries = b ∷ w.entries;
      rest = w.rest;
      count = omega (arith, leb-false left 1 k, w.count);
      small = (ltb-true b bound e, w.small);
      bytes = ap (λ u. b ∷ u) w.bytes;
      behind = w.behind;
    }))
    (λ _. absurd)

unread_size : (z : State) (p b : ℕ) (t : List ℕ) → is_prime p ≡ true → Parsed z (sized p b) t → Are Start z (255 ∷ 70 ∷ p ∷ b ∷ t)
unfolding sized record_bytes
unread_size z p b t g =
    let P : State → Type 0 = λ q. Parsed z q t → Are Start z (255 ∷ 70 ∷ p ∷ b ∷ t) in
    pick_each P (leb 1 b)
    (λ h. pick_each P (leb b widest) (λ k w. are_more (fits_field g (leb-true 1 b h) (leb-true b widest k)) w) (λ _. absurd)) (λ _. absurd)

unread : (z q : State) (b : ℕ) (t : List ℕ) → Viable q → Parsed z (after q b) t → Parsed z q (b ∷ t)
unfolding after
unread z Start b t g = pick_each (λ q. Parsed z q t → Are Start z (b ∷ t)) (eqb b 255) (λ e w. rw (eqb-true b 255 e) w) (λ _. absurd)
unread z Opening b t g = pick_each (λ q. Parsed z q t → Are Start z (255 ∷ b ∷ t)) (eqb b 70) (λ e w. rw (eqb-true b 70 e) w) (λ _. absurd)
unread z Modulus b t g = pick_each (λ q. Parsed z q t → Are Start z (255 ∷ 70 ∷ b ∷ t)) (is_prime b) (λ e w. w) (λ _. absurd)
unread z (Size p) b t g = unread_size z p b t g
unread z (Body h) b t g =
    pick_each (λ q. Parsed z q t → Are (Body h) z (b ∷ t)) (eqb b 255) (λ e w. rw (eqb-true b 255 e) w) (λ _. absurd)
unread z (Letter h) b t g = unread_letter z h b t
unread z (Entries h bound left) b t g = unread_entry z h bound left b t g.1.1
unread z (Over h) b t g = absurd
unread z Dead b t g = absurd

parse_from : (z : State) → Whole z → (q : State) (t : List ℕ) → Viable q → run q t ≡ z → Parsed z q t
unfolding run
parse_from z w q [] g e = subst (λ y. Parsed y q []) e (parsed_none q (subst Whole (sym e) w))
parse_from z w q (b ∷ t) g e =
    let alive : Alive (after q b) = λ d. subst Whole (sym e ∙ ap (λ x. run x t) d ∙ run_dead t) w in
    unread z q b t g (parse_from z w (after q b) t (viable_after q b g alive) e)

pub parse : (z : State) → Whole z → (t : List ℕ) → run Start t ≡ z → Are Start z t
parse z w t e = parse_from z w Start t tt e

-- every viable state leads to Over
record Finish (h : Head) : Type 0 where
  last : Head
  listed : List Record
  lead : Takes (Body h) listed (Over last)
  rest : List ℕ
  mark : flat listed ≡ 255 ∷ rest

finish_end : (h : Head) → h.n ≤ h.count → Finish h
unfolding flat record_bytes
finish_end h i = record { last = stale h h.count; listed = end ∷ []; lead = takes (fits_end i) stays; rest = 69 ∷ []; mark = refl }

finish_row : (h : Head) → 0 < h.p → h.count < h.n → Finish (stale h (h.count + 1)) → Finish h
unfolding flat record_bytes
finish_row h g i f =
    record {
      last = f.last;
      listed = row (replicate h.n 0) ∷ f.listed;
      lead = takes (fits_row i (length-replicate {A = ℕ} h.n 0) (zeros_small h.p h.n g)) f.lead;
      rest = 82 ∷ (replicate h.n 0 ++ flat f.listed);
      mark = refl;
    }

-- k is enough for the rows that are missing
finish : (k : ℕ) (h : Head) → 0 < h.p → h.n ≤ h.count + k → Finish h
finish zero h g i = finish_end h (omega arith)
finish (suc k) h g i =
    elim (dec_le h.n h.count) [
      | yes l ↦ finish_end h l
      | no l ↦ finish_row h g (omega arith) (finish k (stale h (h.count + 1)) g (omega arith))
    ]

pub record Lives (q : State) : Type 0 where
  pub rest : List ℕ
  pub last : Head
  pub ends : run q rest ≡ Over last

lives_front : {q z : State} (front : List ℕ) → ((t : List ℕ) → run q (front ++ t) ≡ run z t) → Lives z → Lives q
lives_front front h z = record { rest = front ++ z.rest; last = z.last; ends = h z.rest ∙ z.ends }

body_lives : (h : Head) → Ranged h → Lives (Body h)
body_lives h g =
    let f = finish h.n h g.0 (omega arith) in
    record { rest = flat f.listed; last = f.last; ends = takes_end f.lead g }

letter_lives : (h : Head) → Ranged h → Lives (Letter h)
unfolding run after
letter_lives h g =
    let f = finish h.n h g.0 (omega arith) in
    record { rest = f.rest; last = f.last; ends = rw f.mark at (takes_end f.lead g) }

-- the least case: p is 2, n is 1, and the one entry 0
abbrev least : Head
least = record { p = 2; n = 1; count = 1; fresh = false }

pub viable_lives : (q : State) → Viable q → Lives q
unfolding run after sized is_prime all_below letter entered
viable_lives Start g = record { rest = 255 ∷ 70 ∷ 2 ∷ 1 ∷ 255 ∷ 82 ∷ 0 ∷ 255 ∷ 69 ∷ []; last = least; ends = refl }
viable_lives Opening g = record { rest = 70 ∷ 2 ∷ 1 ∷ 255 ∷ 82 ∷ 0 ∷ 255 ∷ 69 ∷ []; last = least; ends = refl }
viable_lives Modulus g = record { rest = 2 ∷ 1 ∷ 255 ∷ 82 ∷ 0 ∷ 255 ∷ 69 ∷ []; last = least; ends = refl }
viable_lives (Size p) g = lives_front (1 ∷ []) (λ t. refl) (body_lives (begun p 1) (prime_positive p g, lit≤ tt))
viable_lives (Body h) g = body_lives h g
viable_lives (Letter h) g = letter_lives h g
viable_lives (Entries h bound left) g =
    lives_front (replicate left 0)
    (λ t. entries_run h bound left (replicate left 0) t g.1.1 (length-replicate {A = ℕ} left 0) (zeros_small bound left g.1.0)) (body_lives h g.0)
viable_lives (Over h) g = record { rest = []; last = h; ends = refl }
viable_lives Dead g = absurd g

-- and one where no record is under way, by records
whole_are : (q z : State) (t : List ℕ) → Whole q → Parsed z q t → Are q z t
whole_are Start z t w r = r
whole_are (Body h) z t w r = r
whole_are (Over h) z t w r = r
whole_are Opening z t w r = absurd w
whole_are Modulus z t w r = absurd w
whole_are (Size p) z t w r = absurd w
whole_are (Letter h) z t w r = absurd w
whole_are (Entries h bound left) z t w r = absurd w
whole_are Dead z t w r = absurd w

pub record Finished (q : State) : Type 0 where
  pub last : Head
  pub listed : List Record
  pub lead : Takes q listed (Over last)

pub whole_finish : (q : State) → Whole q → Viable q → Finished q
whole_finish q w g =
    let l = viable_lives q g in
    let o : State = Over l.last in
    let r = whole_are q o l.rest w (parse_from o tt q l.rest g l.ends) in
    record { last = l.last; listed = r.listed; lead = r.lead }
