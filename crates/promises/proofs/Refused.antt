-- What a refusal says (02, #102), of each call's contract alone. The tests are gone through in the table's order: the first that applies gives the
-- refusal, and of those before it is known that they do not apply.
--   GivesOnly P ts     whatever the tests ts refuse with is P
--   gives_number, gives_cell, gives_end   that from the first test and the rest, or where there is none
--   entry_here, entry_past, coefficient_here, shape_past   what a list of tests gives, from its first tests
--   shape_explained, matrix_explained, rows_explained, coefficients_explained, buffer_explained, candidates_explained   the tests that calls share
--   inverse_explained, order_explained, image_explained, stand_explained, chain_explained, period_explained, write_explained
--                      whatever a call is refused with is explained
--   explained_alone    5, 10 and 11 never come without a place
--   explained_number   no other number has one
--   explained_matrix, explained_row, explained_coefficient   the bounds of row and column for each of the three
--   order_row, image_row   one vector says row 1
--   inverse_place      a scalar says 11, row 0, column 1
--   period_place       the period has 5 alone with a place
--   inverse_tells, period_tells, order_tells, image_tells, stand_tells, chain_tells, write_tells   the first bad entry is told
-- Assumes nothing.
use mathlib.Core.Path.{◌≡◌, refl, subst, ◌∙◌}
use mathlib.Core.Bool.{Bool, true, false}
use mathlib.Core.Logic.{◌⊎◌, inl, inr}
use mathlib.Core.List.{List, [], ◌∷◌}
use Rattle.std.specs.Prelude.{Option, None, Some}
use Rattle.std.proofs.lemmas.Option.{none-some, same_Some}
use Prim.Native.Nat.{ℕ, ◌+◌, ◌*◌, ◌/◌, ◌<◌, ◌≤◌}
use native.Mathlib.Nat.{le_refl}
use native.Mathlib.Omega.{arith}
use lib.ListN.{length}
use borrow.Author.Tests.{le-leb}
use Rattle.meaning.specs.Bytes.{Small}
use Rattle.meaning.specs.Bounds.{coefficients, most_candidates}
use Rattle.meaning.specs.Stand.{Outcome}
use Rattle.meaning.specs.Entry.{Cell, cell_at, first_bad, bad_cell, FirstBad}
use Rattle.meaning.specs.Refusal.{Refusal, alone, at, refuse, refuse_at, is_prime, no_prime, no_size, no_matrix, no_rows, no_vector, no_polynomial}
use Rattle.meaning.specs.Refusal.{bad_entry, bad_coefficient, bad_scalar, no_allowance, too_short, first}
use Rattle.meaning.specs.Refusal.{inverse_refusal, order_refusal, image_refusal, stand_refusal, chain_refusal, period_refusal}
use Rattle.meaning.specs.Calls.{Answer, refused, Called, InverseCall, OrderCall, ImageCall, StandCall, ChainCall, PeriodCall}
use Rattle.meaning.specs.Writing.{write_refusal, WriteCall}
use Rattle.meaning.proofs.Entry.{bad_first, first_bad_lem, bad_cell_none, small_bad_cell, row_within, bad_coefficient_lem, coefficient_row, empty_good}
use Rattle.meaning.proofs.Refusal.{no_size_false, no_matrix_false, no_rows_false, no_vector_false}
use Rattle.meaning.proofs.Refusal.{size_no_size, matrix_no_matrix, rows_no_rows, vector-no_vector, polynomial_no_polynomial, refuse_none, first_next}
use Rattle.meaning.proofs.Called.{called_refused}
use Rattle.promises.specs.Refused.{no_prime_test, no_size_test, no_matrix_test, no_rows_test, no_polynomial_test}
use Rattle.promises.specs.Refused.{Explained, before_entries, matrix_entry, row_entry, coefficient_entry, over_allowance, short_buffer}
use Rattle.promises.specs.Refused.{WithoutPlace, InShape, EntriesTold}

-- the first test that applies, one after another
record GivesOnly (P : Refusal → Type 0) (ts : List (Option Refusal)) : Type 0 where
  gives : (q : Refusal) → first ts ≡ Some q → P q

gives_number : {P : Refusal → Type 0} {ts : List (Option Refusal)} (k : ℕ) (b : Bool) → P (alone k) → (b ≡ false → GivesOnly P ts)
    → GivesOnly P (refuse k b ∷ ts)
unfolding refuse first
gives_number {P} k true h g = record { gives = λ q e. subst P (same_Some (alone k) q e) h }
gives_number k false h g = record { gives = (g refl).gives }

gives_cell : {P : Refusal → Type 0} {ts : List (Option Refusal)} (k : ℕ) (o : Option Cell) → ((c : Cell) → o ≡ Some c → P (at k c.row c.column))
    → (o ≡ None → GivesOnly P ts) → GivesOnly P (refuse_at k o ∷ ts)
unfolding refuse_at first
gives_cell {P} k (Some c) h g = record { gives = λ q e. subst P (same_Some (at k c.row c.column) q e) (h c refl) }
gives_cell k None h g = record { gives = (g refl).gives }

gives_end : {P : Refusal → Type 0} → GivesOnly P []
unfolding first
gives_end = record { gives = λ q e. absurd (none-some q e) }

entry_here : (k p n : ℕ) (l : List ℕ) (ts : List (Option Refusal)) (c : Cell) → FirstBad 1 p n l c
    → first (refuse_at k (bad_entry p n l) ∷ ts) ≡ Some (at k c.row c.column)
unfolding refuse_at bad_entry first
entry_here k p n l ts c F = rw (first_bad_lem 1 p n l c F)

entry_past : (k p n : ℕ) (l : List ℕ) (ts : List (Option Refusal)) → Small p l → first (refuse_at k (bad_entry p n l) ∷ ts) ≡ first ts
unfolding refuse_at bad_entry first
entry_past k p n l ts s = rw (small_bad_cell 1 p n l s)

coefficient_here : (p : ℕ) (f : List ℕ) (ts : List (Option Refusal)) (c : Cell) → FirstBad 0 p (length f) f c
    → first (refuse_at 11 (bad_coefficient p f) ∷ ts) ≡ Some (at 11 c.row c.column)
unfolding refuse_at bad_coefficient first
coefficient_here p f ts c F = rw (first_bad_lem 0 p (length f) f c F)

shape_past : (p n : ℕ) (m : List ℕ) (ts : List (Option Refusal)) → InShape p n m
    → first (refuse 1 (no_prime p) ∷ refuse 2 (no_size n) ∷ refuse 3 (no_matrix n m) ∷ ts) ≡ first ts
unfolding no_prime
shape_past p n m ts S =
    first_next _ _ (refuse_none 1 (rw S.prime))
    ∙ first_next _ _ (refuse_none 2 (size_no_size n S.some_size S.size))
    ∙ first_next _ _ (refuse_none 3 (matrix_no_matrix n m S.matrix))

-- one vector is one row
one_row : (n : ℕ) (v : List ℕ) → no_vector n v ≡ false → length v ≡ 1 * n
one_row n v b = omega (arith, no_vector_false n v b)

-- the tests that calls share, each for the rest of the list
module _ {p n : ℕ} {m : List ℕ} {most : ℕ} {rs f : List ℕ} where
  shape_explained : {ts : List (Option Refusal)} → (0 < n → length m ≡ n * n → GivesOnly (Explained p n m most rs f) ts)
      → GivesOnly (Explained p n m most rs f) (refuse 1 (no_prime p) ∷ refuse 2 (no_size n) ∷ refuse 3 (no_matrix n m) ∷ ts)
  shape_explained g =
      gives_number 1 (no_prime p) (before_entries no_prime_test) (λ a.
      gives_number 2 (no_size n) (before_entries no_size_test) (λ b.
      gives_number 3 (no_matrix n m) (before_entries no_matrix_test) (λ c. g (no_size_false n b).0 (no_matrix_false n m c))))

  matrix_explained : {ts : List (Option Refusal)} → 0 < n → length m ≡ n * n → (Small p m → GivesOnly (Explained p n m most rs f) ts)
      → GivesOnly (Explained p n m most rs f) (refuse_at 5 (bad_entry p n m) ∷ ts)
  unfolding bad_entry
  matrix_explained h e g =
      gives_cell 5 (bad_cell 1 p n m) (λ c q. let F = bad_first 1 p n m c h q in matrix_entry c F (row_within c F e)) (λ q. g (bad_cell_none 1 p n m q))

  rows_explained : {ts : List (Option Refusal)} (k : ℕ) → 0 < n → length rs ≡ k * n → k ≤ most → Small p m
      → (Small p rs → GivesOnly (Explained p n m most rs f) ts) → GivesOnly (Explained p n m most rs f) (refuse_at 10 (bad_entry p n rs) ∷ ts)
  unfolding bad_entry
  rows_explained k h e l s g =
      gives_cell 10 (bad_cell 1 p n rs)
      (λ c q. let F = bad_first 1 p n rs c h q in let r : c.row ≤ most = omega (arith, row_within c F e, l) in row_entry c s F r)
      (λ q. g (bad_cell_none 1 p n rs q))

  coefficients_explained : {ts : List (Option Refusal)} → Small p m → Small p rs → (Small p f → GivesOnly (Explained p n m most rs f) ts)
      → GivesOnly (Explained p n m most rs f) (refuse_at 11 (bad_coefficient p f) ∷ ts)
  unfolding bad_coefficient
  coefficients_explained s t g =
      gives_cell 11 (bad_cell 0 p (length f) f) (λ c q. let F = bad_coefficient_lem p f c q in coefficient_entry c s t F (coefficient_row c F))
      (λ q. g (bad_cell_none 0 p (length f) f q))

  buffer_explained : (b : Bool) → Small p m → Small p rs → Small p f → GivesOnly (Explained p n m most rs f) (refuse 6 b ∷ [])
  buffer_explained b s t u = gives_number 6 b (short_buffer s t u) (λ e. gives_end)

-- whatever a call is refused with is explained
explained_by : {p n most : ℕ} {m rs f : List ℕ} {ts : List (Option Refusal)} {q : Refusal} → GivesOnly (Explained p n m most rs f) ts
    → first ts ≡ Some q → Explained p n m most rs f q
explained_by {q = q} g e = g.gives q e

pub inverse_explained : {p a : ℕ} {q : Refusal} → InverseCall p a (refused q) → Explained p 0 [] 0 [] (a ∷ []) q
unfolding inverse_refusal bad_scalar
inverse_explained {p} C =
    explained_by (gives_number 1 (no_prime p) (before_entries no_prime_test) (λ b. coefficients_explained tt tt (λ s. gives_end))) (called_refused C).0

pub order_explained : {p n : ℕ} {m v old new : List ℕ} {q : Refusal} → OrderCall p n m v old (refused q) new → Explained p n m 1 v [] q
unfolding order_refusal
order_explained {p} {n} {m} {v} {old} C =
    explained_by
    (shape_explained (λ h e.
    gives_number 4 (no_vector n v) (before_entries no_rows_test) (λ b.
    matrix_explained h e (λ s. rows_explained 1 h (one_row n v b) (le_refl 1) s (λ t. buffer_explained (too_short (n + 1) old) s t tt)))))
    (called_refused C).0

pub image_explained : {p n : ℕ} {m v f old new : List ℕ} {q : Refusal} → ImageCall p n m v f old (refused q) new → Explained p n m 1 v f q
unfolding image_refusal
image_explained {p} {n} {m} {v} {f} {old} C =
    explained_by
    (shape_explained (λ h e.
    gives_number 4 (no_vector n v) (before_entries no_rows_test) (λ b.
    gives_number 7 (no_polynomial f) (before_entries no_polynomial_test) (λ d.
    matrix_explained h e (λ s.
    rows_explained 1 h (one_row n v b) (le_refl 1) s (λ t. coefficients_explained s t (buffer_explained (too_short n old) s t)))))))
    (called_refused C).0

-- the tests of a call that takes candidates, but for what comes behind them
candidates_explained : (p n : ℕ) (m cs : List ℕ) {ts : List (Option Refusal)}
    → (Small p m → Small p cs → GivesOnly (Explained p n m most_candidates cs []) ts)
    → GivesOnly (Explained p n m most_candidates cs [])
    (refuse 1 (no_prime p) ∷ refuse 2 (no_size n) ∷ refuse 3 (no_matrix n m) ∷ refuse 4 (no_rows n cs)
    ∷ refuse_at 5 (bad_entry p n m) ∷ refuse_at 10 (bad_entry p n cs) ∷ ts)
candidates_explained p n m cs g =
    shape_explained (λ h e.
    gives_number 4 (no_rows n cs) (before_entries no_rows_test) (λ d.
    let (whole, few) = no_rows_false n cs h d in
    matrix_explained h e (λ s. rows_explained (length cs / n) h whole few s (λ t. g s t))))

pub stand_explained : {p n a : ℕ} {m cs : List ℕ} {old new : List ℕ × List ℕ} {q : Refusal} → StandCall p n m cs a old (refused q) new
    → Explained p n m most_candidates cs [] q
unfolding stand_refusal
stand_explained {p} {n} {a} {m} {cs} C = explained_by (candidates_explained p n m cs (λ s t. buffer_explained _ s t tt)) (called_refused C).0

pub chain_explained : {p n : ℕ} {m cs : List ℕ} {old new : List ℕ × List ℕ} {q : Refusal} → ChainCall p n m cs old (refused q) new
    → Explained p n m most_candidates cs [] q
unfolding chain_refusal
chain_explained {p} {n} {m} {cs} C = explained_by (candidates_explained p n m cs (λ s t. buffer_explained _ s t tt)) (called_refused C).0

pub write_explained : (p n : ℕ) (m cs : List ℕ) (a : ℕ) {old new : List ℕ} {q : Refusal} → WriteCall p n m cs a old (refused q) new
    → Explained p n m most_candidates cs [] q
unfolding write_refusal
write_explained p n m cs a C =
    explained_by
    (candidates_explained p n m cs (λ s t. gives_number 9 (no_allowance a) (over_allowance s t) (λ b. buffer_explained _ s t tt)))
    (called_refused C).0

pub period_explained : {p n : ℕ} {m : List ℕ} {q : Refusal} → PeriodCall p n m (refused q) → Explained p n m 0 [] [] q
unfolding period_refusal
period_explained C = explained_by (shape_explained (λ h e. matrix_explained h e (λ s. gives_end))) (called_refused C).0

-- the numbers without a place are below 8, but for 9
apart : {k : ℕ} → k < 8 → ¬ (k ≡ 5) → WithoutPlace k
apart h e = (e, λ q. omega arith, λ q. omega arith)

-- what follows for every call: 5, 10 and 11 never come without a place
module _ {p n : ℕ} {m : List ℕ} {most : ℕ} {rs f : List ℕ} where
  pub explained_alone : {k : ℕ} → Explained p n m most rs f (alone k) → WithoutPlace k
  explained_alone (before_entries no_prime_test) = apart (omega arith) (λ e. omega arith)
  explained_alone (before_entries no_size_test) = apart (omega arith) (λ e. omega arith)
  explained_alone (before_entries no_matrix_test) = apart (omega arith) (λ e. omega arith)
  explained_alone (before_entries no_rows_test) = apart (omega arith) (λ e. omega arith)
  explained_alone (before_entries no_polynomial_test) = apart (omega arith) (λ e. omega arith)
  explained_alone (over_allowance s t) = (λ e. omega arith, λ e. omega arith, λ e. omega arith)
  explained_alone (short_buffer s t u) = apart (omega arith) (λ e. omega arith)

  -- no other number has a place
  pub explained_number : {k i j : ℕ} → Explained p n m most rs f (at k i j) → (k ≡ 5) ⊎ ((k ≡ 10) ⊎ (k ≡ 11))
  explained_number (matrix_entry c F l) = inl refl
  explained_number (row_entry c s F l) = inr (inl refl)
  explained_number (coefficient_entry c s t F z) = inr (inr refl)

  pub explained_matrix : {i j : ℕ} → Explained p n m most rs f (at 5 i j) → (1 ≤ i) × (i ≤ n) × (1 ≤ j) × (j ≤ n)
  explained_matrix (matrix_entry c F l) = let I = F.in_rows in (I.row_from, l, I.column_from, I.column_to)

  pub explained_row : {i j : ℕ} → Explained p n m most rs f (at 10 i j) → (1 ≤ i) × (i ≤ most) × (1 ≤ j) × (j ≤ n)
  explained_row (row_entry c s F l) = let I = F.in_rows in (I.row_from, l, I.column_from, I.column_to)

  pub explained_coefficient : {i j : ℕ} → Explained p n m most rs f (at 11 i j) → (i ≡ 0) × (1 ≤ j) × (j ≤ length f)
  explained_coefficient (coefficient_entry c s t F z) = let I = F.in_rows in (z, I.column_from, I.column_to)

-- one vector says row 1
pub order_row : {p n i j : ℕ} {m v old new : List ℕ} → OrderCall p n m v old (refused (at 10 i j)) new → i ≡ 1
order_row C = let (l, h, a, b) = explained_row (order_explained C) in omega (arith, l, h)

pub image_row : (p n : ℕ) (m v f : List ℕ) {i j : ℕ} {old new : List ℕ} → ImageCall p n m v f old (refused (at 10 i j)) new → i ≡ 1
image_row p n m v f C = let (l, h, a, b) = explained_row (image_explained {p = p} {n = n} {m = m} {v = v} {f = f} C) in omega (arith, l, h)

-- a scalar says 11, row 0 and column 1, and the period says 5: there is no other entry to tell
explained_scalar : {p n most a k i j : ℕ} → Explained p n [] most [] (a ∷ []) (at k i j) → (k ≡ 11) × (i ≡ 0) × (j ≡ 1)
explained_scalar (matrix_entry c F l) = absurd (empty_good c F)
explained_scalar (row_entry c s F l) = absurd (empty_good c F)
explained_scalar (coefficient_entry c s t F z) = let I = F.in_rows in (refl, z, omega (arith, I.column_from, I.column_to))

pub inverse_place : {p a k i j : ℕ} → InverseCall p a (refused (at k i j)) → (k ≡ 11) × (i ≡ 0) × (j ≡ 1)
inverse_place C = explained_scalar (inverse_explained C)

explained_matrix_only : {p n most k i j : ℕ} {m : List ℕ} → Explained p n m most [] [] (at k i j) → k ≡ 5
explained_matrix_only (matrix_entry c F l) = refl
explained_matrix_only (row_entry c s F l) = absurd (empty_good c F)
explained_matrix_only (coefficient_entry c s t F z) = absurd (empty_good c F)

pub period_place : (p n : ℕ) (m : List ℕ) {k i j : ℕ} → PeriodCall p n m (refused (at k i j)) → k ≡ 5
period_place p n m C = explained_matrix_only (period_explained {p = p} {n = n} {m = m} C)

-- and the other way round: the first bad entry is told where what is looked at before it is good
pub inverse_tells : {p a : ℕ} {x : Answer (Option ℕ)} → is_prime p ≡ true → p ≤ a → InverseCall p a x → x ≡ refused (at 11 0 1)
unfolding inverse_refusal no_prime bad_scalar bad_coefficient bad_cell first_bad cell_at refuse refuse_at first
inverse_tells {p} {a} P h C = (C.refusal (at 11 0 1) (rw (P, le-leb p a h, first_bad))).0

pub period_tells : (p n : ℕ) (m : List ℕ) {x : Answer (Option ℕ)} (c : Cell) → InShape p n m → FirstBad 1 p n m c → PeriodCall p n m x
    → x ≡ refused (at 5 c.row c.column)
unfolding period_refusal
period_tells p n m c S F C = (C.refusal _ (shape_past p n m _ S ∙ entry_here 5 p n m _ c F)).0

-- from where entries are looked at, us the tests behind those of the rows
entries_told : {A B : Type 0} {R : A → B → Type 0} {q : Option Refusal} {old new : B} {x : Answer A} (p n : ℕ) (m rs f : List ℕ) (us : List (Option Refusal))
    → q ≡ first (refuse_at 5 (bad_entry p n m) ∷ refuse_at 10 (bad_entry p n rs) ∷ us)
    → ((c : Cell) → FirstBad 0 p (length f) f c → first us ≡ Some (at 11 c.row c.column)) → Called q R old x new → EntriesTold p n m rs f x
entries_told p n m rs f us e h C = record {
  matrix_told = λ c F. (C.refusal _ (e ∙ entry_here 5 p n m _ c F)).0;
  row_told = λ c s F. (C.refusal _ (e ∙ entry_past 5 p n m _ s ∙ entry_here 10 p n rs _ c F)).0;
  coefficient_told = λ c s t F. (C.refusal _ (e ∙ entry_past 5 p n m _ s ∙ entry_past 10 p n rs _ t ∙ h c F)).0;
}

pub order_tells : {p n : ℕ} {m v old new : List ℕ} {x : Answer ℕ} → InShape p n m → length v ≡ n → OrderCall p n m v old x new → EntriesTold p n m v [] x
unfolding order_refusal
order_tells {p} {n} {m} {v} S w =
    entries_told p n m v [] _ (shape_past p n m _ S ∙ first_next _ _ (refuse_none 4 (vector-no_vector n v w))) (λ c F. absurd (empty_good c F))

pub image_tells : {p n : ℕ} {m v f old new : List ℕ} {x : Answer (Unit {0})} → InShape p n m → length v ≡ n → 1 ≤ length f → length f ≤ coefficients
    → ImageCall p n m v f old x new → EntriesTold p n m v f x
unfolding image_refusal
image_tells {p} {n} {m} {v} {f} S w l h =
    let sized = first_next _ _ (refuse_none 4 (vector-no_vector n v w)) ∙ first_next _ _ (refuse_none 7 (polynomial_no_polynomial f l h)) in
    entries_told p n m v f _ (shape_past p n m _ S ∙ sized) (λ c F. coefficient_here p f _ c F)

-- the candidates are k rows
pub stand_tells : {p n a : ℕ} {m cs : List ℕ} {old new : List ℕ × List ℕ} {x : Answer Outcome} (k : ℕ) → InShape p n m → length cs ≡ k * n
    → k ≤ most_candidates → StandCall p n m cs a old x new → EntriesTold p n m cs [] x
unfolding stand_refusal
stand_tells {p} {n} {a} {m} {cs} k S w h =
    entries_told p n m cs [] _ (shape_past p n m _ S ∙ first_next _ _ (refuse_none 4 (rows_no_rows n cs S.some_size k w h)))
    (λ c F. absurd (empty_good c F))

pub write_tells : (p n : ℕ) (m cs : List ℕ) (a : ℕ) {old new : List ℕ} {x : Answer ℕ} (k : ℕ) → InShape p n m → length cs ≡ k * n → k ≤ most_candidates
    → WriteCall p n m cs a old x new → EntriesTold p n m cs [] x
unfolding write_refusal
write_tells p n m cs a k S w h =
    entries_told p n m cs [] _ (shape_past p n m _ S ∙ first_next _ _ (refuse_none 4 (rows_no_rows n cs S.some_size k w h)))
    (λ c F. absurd (empty_good c F))

pub chain_tells : {p n : ℕ} {m cs : List ℕ} {old new : List ℕ × List ℕ} {x : Answer ℕ} (k : ℕ) → InShape p n m → length cs ≡ k * n → k ≤ most_candidates
    → ChainCall p n m cs old x new → EntriesTold p n m cs [] x
unfolding chain_refusal
chain_tells {p} {n} {m} {cs} k S w h =
    entries_told p n m cs [] _ (shape_past p n m _ S ∙ first_next _ _ (refuse_none 4 (rows_no_rows n cs S.some_size k w h)))
    (λ c F. absurd (empty_good c F))
