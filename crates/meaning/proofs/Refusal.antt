-- What the refusal table says where a call is not refused, and where it is.
--   is_prime_prime, prime_is_prime   the prime test is right, both ways
--   prime_positive   a prime is above 0
--   prime_told       test 1, from what a prime test said
--   no_prime_false, no_size_false, no_matrix_false, no_rows_false, no_vector_false, no_polynomial_false, no_allowance_false, too_short_false
--                    where a test does not apply, what it looks at is good
--   prime_no_prime, size_no_size, matrix_no_matrix, rows_no_rows, vector-no_vector, polynomial_no_polynomial, allowance_no_allowance, long-too_short
--                    and where that is good, the test does not apply
--   no_allowance_true, too_short_true   where it is bad, the test applies
--   rows_over, rows_whole   whole rows leave no rest, and the other way round
--   small_append     bytes below p behind bytes below p
--   refuse_here, refuse_none   what a test gives where it applies, and where it does not
--   none_refuse, none_refuse_at, refuse_at_none   and from what it gives, whether it applies
--   first_here, first_next, first_end   the first test of a list applies, or does not, or there is none
--   first_past, first_front   where the front of a list refuses nothing, the rest decides; what it refuses, the whole list refuses
--   first_none, first_clear   where nothing is refused, no test of the list applies
--   size_told        n is 1 to 64 where tests 1 and 2 do not apply
--   none_entries, entries_none, none_coefficients, none_scalar, scalar_none   entries are good exactly where their test does not apply
--   inverse_sound, order_sound, image_sound, stand_sound, chain_sound, period_sound   what is known of an input that the call does not refuse
--   list_sound       the same of the tests that every call on a list of rows runs first
--   AllNone, none_first   no test of a list applies, and so nothing is refused
--   list_past        where what the tests on a list of rows look at is sound, those behind them decide
--   sound_shape, sound_list, sound_rows   the tests that calls on a matrix share, those on a list of rows, those that stand and chain share
--   sound_inverse, sound_stand, sound_chain, sound_period   sound inputs with buffers that are long enough are not refused
-- Assumes nothing.
use mathlib.Core.Path.{◌≡◌, refl, sym, ap, ◌∙◌}
use mathlib.Core.Logic.{⊎_elim}
use mathlib.Core.Bool.{Bool, true, false, not, ◌&&◌, ◌||◌, true≢false, and-eq-true_iff}
use mathlib.Core.List.{List, [], ◌∷◌, ◌++◌}
use Rattle.std.specs.Prelude.{Option, None, Some}
use Rattle.std.proofs.lemmas.Option.{none-some}
use Rattle.meaning.proofs.Options.{mapped_none}
use Prim.Native.Nat.{ℕ, zero, suc, ◌+◌, ◌*◌, ◌/◌, ◌%◌, ◌<◌, ◌≤◌}
use native.Mathlib.Nat.{add-zero, le_refl, le_step, le_of_suc-le-suc, not-suc-le-zero, eq-or-lt_of_le, div-add-mod', mul-mod_left, div-eq_of_eq-mul_left}
use native.Mathlib.Decide.{dec_le}
use native.Mathlib.Omega.{arith}
use lib.ListN.{length, get_or}
use lib.Dec.{leb, eqb}
use borrow.Author.Tests.{ltb-false, leb-true, eqb-true, eqb-false, not-true, not-false, le-ltb, lt-ltb, le-leb, lt-leb, eq-eqb, ne_eqb}
use Rattle.algebra.specs.Field.{Prime}
use Rattle.meaning.specs.Refusal.{Refusal, alone, refuse, refuse_at, all_below, is_prime, no_prime, no_size, no_matrix, no_rows, no_vector, no_polynomial, bad_entry}
use Rattle.meaning.specs.Refusal.{bad_coefficient, bad_scalar, no_allowance, too_short, first}
use Rattle.meaning.specs.Refusal.{inverse_refusal, order_refusal, image_refusal, stand_refusal, chain_refusal, period_refusal}
use Rattle.meaning.specs.Entry.{Cell}
use Rattle.meaning.specs.Bytes.{Small}
use Rattle.meaning.specs.Bounds.{largest_prime, most_candidates, coefficients, widest, most_allowance, Sound, SoundRows}
use Rattle.meaning.specs.Chain.{stage_room}
use Rattle.meaning.proofs.Entry.{bad_cell_none, small_bad_cell}

-- tests joined
or_false : (a b : Bool) → (a || b) ≡ false → (a ≡ false) × (b ≡ false)
or_false true b q = absurd (true≢false q)
or_false false b q = (refl, q)

both_true : (a b : Bool) → not (a && b) ≡ false → (a ≡ true) × (b ≡ true)
both_true a b q = (and-eq-true_iff a b).0 (not-false _ q)

between_true : (a n b : ℕ) → not (leb a n && leb n b) ≡ false → (a ≤ n) × (n ≤ b)
between_true a n b q =
    let t = both_true (leb a n) (leb n b) q in
    (leb-true a n t.0, leb-true n b t.1)

between_false : (a n b : ℕ) → a ≤ n → n ≤ b → not (leb a n && leb n b) ≡ false
between_false a n b h k = rw (le-leb a n h, le-leb n b k)

all_below_true : (k : ℕ) (t : ℕ → Bool) → all_below k t ≡ true → (a : ℕ) → a < k → t a ≡ true
unfolding all_below
all_below_true zero t q a h = absurd (not-suc-le-zero h)
all_below_true (suc k) t q a h =
    let b = (and-eq-true_iff (t k) (all_below k t)).0 q in
    ⊎_elim (λ e. ap t e ∙ b.0) (all_below_true k t b.1 a) (eq-or-lt_of_le (le_of_suc-le-suc h))

true_all_below : (k : ℕ) (t : ℕ → Bool) → ((a : ℕ) → a < k → t a ≡ true) → all_below k t ≡ true
unfolding all_below
true_all_below zero t h = refl
true_all_below (suc k) t h = (and-eq-true_iff (t k) _).1 (h k (le_refl _), true_all_below k t (λ a l. h a (le_step l)))

-- the prime test is right, both ways
pub is_prime_prime : (p : ℕ) → is_prime p ≡ true → Prime p × (p ≤ largest_prime)
unfolding is_prime
is_prime_prime p q =
    let t = (and-eq-true_iff (leb 2 p) _).0 q in
    let u = (and-eq-true_iff (leb p largest_prime) _).0 t.1 in
    let all = all_below_true p _ u.1 in
    (record { big = leb-true 2 p t.0; irr = λ a g h. eqb-false (p % a) 0 (not-true _ (rw (lt-leb a 1 g) at (all a h))) }, leb-true p largest_prime u.0)

pub prime_is_prime : (p : ℕ) → Prime p → p ≤ largest_prime → is_prime p ≡ true
unfolding is_prime
prime_is_prime p P h = rw (le-leb 2 p P.big, le-leb p largest_prime h) (true_all_below p _ at)
  where
    at : (a : ℕ) → a < p → (leb a 1 || not (eqb (p % a) 0)) ≡ true
    at a l =
        elim (dec_le a 1) [
          | yes s ↦ rw (le-leb a 1 s)
          | no s ↦ rw (lt-leb a 1 (omega arith), ne_eqb (p % a) 0 (P.irr a (omega arith) l))
        ]

pub prime_positive : (p : ℕ) → is_prime p ≡ true → 0 < p
prime_positive p e = omega (arith, (is_prime_prime p e).0.big)

pub prime_told : {b t : Bool} (p : ℕ) → b ≡ is_prime p → b ≡ t → no_prime p ≡ not t
unfolding no_prime
prime_told p e h = ap not (sym e ∙ h)

-- each test of the table, both ways: it does not apply exactly when its input is good
no_prime_false : (p : ℕ) → no_prime p ≡ false → Prime p × (p ≤ largest_prime)
unfolding no_prime
no_prime_false p q = is_prime_prime p (not-false _ q)

prime_no_prime : (p : ℕ) → Prime p → p ≤ largest_prime → no_prime p ≡ false
unfolding no_prime
prime_no_prime p P h = ap not (prime_is_prime p P h)

pub no_size_false : (n : ℕ) → no_size n ≡ false → (1 ≤ n) × (n ≤ widest)
unfolding no_size
no_size_false n q = between_true 1 n widest q

pub size_no_size : (n : ℕ) → 1 ≤ n → n ≤ widest → no_size n ≡ false
unfolding no_size
size_no_size n h k = between_false 1 n widest h k

pub no_matrix_false : (n : ℕ) (m : List ℕ) → no_matrix n m ≡ false → length m ≡ n * n
unfolding no_matrix
no_matrix_false n m q = eqb-true (length m) (n * n) (not-false _ q)

pub matrix_no_matrix : (n : ℕ) (m : List ℕ) → length m ≡ n * n → no_matrix n m ≡ false
unfolding no_matrix
matrix_no_matrix n m q = ap not (eq-eqb (length m) (n * n) q)

pub rows_whole : (n : ℕ) (cs : List ℕ) → length cs % n ≡ 0 → length cs ≡ length cs / n * n
rows_whole n cs e = sym (div-add-mod' (length cs) n) ∙ ap (λ r. length cs / n * n + r) e ∙ add-zero _

pub no_rows_false : (n : ℕ) (cs : List ℕ) → 0 < n → no_rows n cs ≡ false → (length cs ≡ length cs / n * n) × (length cs / n ≤ most_candidates)
unfolding no_rows
no_rows_false n cs h q =
    let t = both_true _ _ q in
    (rows_whole n cs (eqb-true _ 0 t.0), leb-true _ most_candidates t.1)

pub rows_over : (n : ℕ) (cs : List ℕ) → 0 < n → no_rows n cs ≡ false → length cs % n ≡ 0
rows_over n cs h q = ap (λ l. l % n) (no_rows_false n cs h q).0 ∙ mul-mod_left (length cs / n) n

pub rows_no_rows : (n : ℕ) (cs : List ℕ) → 0 < n → (k : ℕ) → length cs ≡ k * n → k ≤ most_candidates → no_rows n cs ≡ false
unfolding no_rows
rows_no_rows n cs h k q j =
    rw (eq-eqb (length cs % n) 0 (ap (λ c. c % n) q ∙ mul-mod_left k n), div-eq_of_eq-mul_left h q, le-leb k most_candidates j)

pub no_vector_false : (n : ℕ) (v : List ℕ) → no_vector n v ≡ false → length v ≡ n
unfolding no_vector
no_vector_false n v q = eqb-true (length v) n (not-false _ q)

pub vector-no_vector : (n : ℕ) (v : List ℕ) → length v ≡ n → no_vector n v ≡ false
unfolding no_vector
vector-no_vector n v q = ap not (eq-eqb (length v) n q)

pub no_polynomial_false : (f : List ℕ) → no_polynomial f ≡ false → (1 ≤ length f) × (length f ≤ coefficients)
unfolding no_polynomial
no_polynomial_false f q = between_true 1 (length f) coefficients q

pub polynomial_no_polynomial : (f : List ℕ) → 1 ≤ length f → length f ≤ coefficients → no_polynomial f ≡ false
unfolding no_polynomial
polynomial_no_polynomial f h k = between_false 1 (length f) coefficients h k

pub small_append : (p : ℕ) (a b : List ℕ) → Small p a → Small p b → Small p (a ++ b)
small_append p [] b h k = k
small_append p (x ∷ a) b h k = (h.0, small_append p a b h.1 k)

pub too_short_false : (k : ℕ) (out : List ℕ) → too_short k out ≡ false → k ≤ length out
unfolding too_short
too_short_false k out q = ltb-false (length out) k q

pub long-too_short : (k : ℕ) (out : List ℕ) → k ≤ length out → too_short k out ≡ false
unfolding too_short
long-too_short k out h = le-ltb (length out) k h

pub no_allowance_false : (a : ℕ) → no_allowance a ≡ false → a ≤ most_allowance
unfolding no_allowance
no_allowance_false a q = ltb-false most_allowance a q

pub allowance_no_allowance : (a : ℕ) → a ≤ most_allowance → no_allowance a ≡ false
unfolding no_allowance
allowance_no_allowance a h = le-ltb most_allowance a h

pub no_allowance_true : (a : ℕ) → most_allowance < a → no_allowance a ≡ true
unfolding no_allowance
no_allowance_true a h = lt-ltb most_allowance a h

pub too_short_true : (k : ℕ) (out : List ℕ) → length out < k → too_short k out ≡ true
unfolding too_short
too_short_true k out h = lt-ltb (length out) k h

-- what a test gives
pub refuse_here : {k : ℕ} {b : Bool} → b ≡ true → refuse k b ≡ Some (alone k)
unfolding refuse
refuse_here e = rw e

pub refuse_none : (k : ℕ) {b : Bool} → b ≡ false → refuse k b ≡ None
unfolding refuse
refuse_none k e = rw e

pub none_refuse : (k : ℕ) (b : Bool) → refuse k b ≡ None → b ≡ false
unfolding refuse
none_refuse k true q = absurd (none-some (alone k) (sym q))
none_refuse k false q = refl

none_refuse_at : (k : ℕ) (o : Option Cell) → refuse_at k o ≡ None → o ≡ None
unfolding refuse_at
none_refuse_at k o q = mapped_none _ o q

refuse_at_none : (k : ℕ) (o : Option Cell) → o ≡ None → refuse_at k o ≡ None
unfolding refuse_at
refuse_at_none k o e = rw e

-- the first test that applies
pub first_here : {q : Refusal} (t : Option Refusal) (ts : List (Option Refusal)) → t ≡ Some q → first (t ∷ ts) ≡ Some q
unfolding first
first_here t ts e = rw e

pub first_next : (t : Option Refusal) (ts : List (Option Refusal)) → t ≡ None → first (t ∷ ts) ≡ first ts
unfolding first
first_next t ts e = rw e

pub first_end : first [] ≡ None
unfolding first
first_end = refl

pub first_past : (ts us : List (Option Refusal)) → first ts ≡ None → first (ts ++ us) ≡ first us
unfolding first
first_past [] us e = refl
first_past (Some q ∷ ts) us e = absurd (none-some q (sym e))
first_past (None ∷ ts) us e = first_past ts us e

pub first_front : {q : Refusal} (ts us : List (Option Refusal)) → first ts ≡ Some q → first (ts ++ us) ≡ Some q
unfolding first
first_front {q} [] us e = absurd (none-some q e)
first_front (Some r ∷ ts) us e = e
first_front (None ∷ ts) us e = first_front ts us e

first_none : (t : Option Refusal) (ts : List (Option Refusal)) → first (t ∷ ts) ≡ None → (t ≡ None) × (first ts ≡ None)
unfolding first
first_none (Some q) ts e = absurd (none-some q (sym e))
first_none None ts e = (refl, e)

-- where nothing is refused, test i of the list does not apply, counted from 0
pub first_clear : (ts : List (Option Refusal)) → first ts ≡ None → (i : ℕ) → get_or ts i None ≡ None
first_clear [] q i = refl
first_clear (t ∷ ts) q zero = (first_none t ts q).0
first_clear (t ∷ ts) q (suc i) = first_clear ts (first_none t ts q).1 i

-- n is in its bounds where test 2 does not apply
pub size_told : (p n : ℕ) (ts : List (Option Refusal)) → first (refuse 1 (no_prime p) ∷ refuse 2 (no_size n) ∷ ts) ≡ None → (1 ≤ n) × (n ≤ widest)
size_told p n ts q = no_size_false n (none_refuse 2 _ (first_none _ _ (first_none _ _ q).1).0)

-- entries are good exactly where their test does not apply
none_entries : (k p n : ℕ) (l : List ℕ) → refuse_at k (bad_entry p n l) ≡ None → Small p l
unfolding bad_entry
none_entries k p n l q = bad_cell_none 1 p n l (none_refuse_at k _ q)

entries_none : (k p n : ℕ) (l : List ℕ) → Small p l → refuse_at k (bad_entry p n l) ≡ None
unfolding bad_entry
entries_none k p n l h = refuse_at_none k _ (small_bad_cell 1 p n l h)

none_coefficients : (k p : ℕ) (f : List ℕ) → refuse_at k (bad_coefficient p f) ≡ None → Small p f
unfolding bad_coefficient
none_coefficients k p f q = bad_cell_none 0 p (length f) f (none_refuse_at k _ q)

none_scalar : (k p a : ℕ) → refuse_at k (bad_scalar p a) ≡ None → a < p
unfolding bad_scalar
none_scalar k p a q = (none_coefficients k p (a ∷ []) q).0

pub scalar_none : (k p a : ℕ) → a < p → refuse_at k (bad_scalar p a) ≡ None
unfolding bad_scalar bad_coefficient
scalar_none k p a h = refuse_at_none k _ (small_bad_cell 0 p 1 (a ∷ []) (h, tt))

-- what is known of an input that is not refused
sound : (p n : ℕ) (m : List ℕ) → refuse 1 (no_prime p) ≡ None → refuse 2 (no_size n) ≡ None → refuse 3 (no_matrix n m) ≡ None
    → refuse_at 5 (bad_entry p n m) ≡ None → Sound p n m
sound p n m a b c d =
    let P = no_prime_false p (none_refuse 1 _ a) in
    let N = no_size_false n (none_refuse 2 _ b) in
    record {
      prime = P.0;
      most = P.1;
      some_size = N.0;
      size = N.1;
      matrix = no_matrix_false n m (none_refuse 3 _ c);
      entries = none_entries 5 p n m d;
    }

-- what the tests before the buffers say of a call that takes a list of rows
pub list_sound : (p n : ℕ) (m cs : List ℕ) (ts : List (Option Refusal))
    → first (refuse 1 (no_prime p) ∷ refuse 2 (no_size n) ∷ refuse 3 (no_matrix n m) ∷ refuse 4 (no_rows n cs)
    ∷ refuse_at 5 (bad_entry p n m) ∷ refuse_at 10 (bad_entry p n cs) ∷ ts) ≡ None → Sound p n m × SoundRows p n cs
list_sound p n m cs ts q =
    let c = first_clear _ q in
    let A = sound p n m (c 0) (c 1) (c 2) (c 4) in
    let r = no_rows_false n cs A.some_size (none_refuse 4 _ (c 3)) in
    (A, record { whole = r.0; few = r.1; entries = none_entries 10 p n cs (c 5) })

-- the tests of stand and chain, which lend two buffers
rows_sound : (p n : ℕ) (m cs : List ℕ) (j : ℕ) (a : List ℕ) (k : ℕ) (b : List ℕ)
    → first (refuse 1 (no_prime p) ∷ refuse 2 (no_size n) ∷ refuse 3 (no_matrix n m) ∷ refuse 4 (no_rows n cs)
    ∷ refuse_at 5 (bad_entry p n m) ∷ refuse_at 10 (bad_entry p n cs) ∷ refuse 6 (too_short j a || too_short k b) ∷ []) ≡ None
    → Sound p n m × SoundRows p n cs × (j ≤ length a) × (k ≤ length b)
rows_sound p n m cs j a k b q =
    let c = first_clear _ q in
    let s = or_false (too_short j a) (too_short k b) (none_refuse 6 _ (c 6)) in
    let (A, B) = list_sound p n m cs _ q in
    (A, B, too_short_false j a s.0, too_short_false k b s.1)

pub inverse_sound : (p a : ℕ) → inverse_refusal p a ≡ None → Prime p × (p ≤ largest_prime) × (a < p)
unfolding inverse_refusal
inverse_sound p a q =
    let c = first_clear _ q in
    let P = no_prime_false p (none_refuse 1 _ (c 0)) in
    (P.0, P.1, none_scalar 11 p a (c 1))

pub order_sound : (p n : ℕ) (m v out : List ℕ) → order_refusal p n m v out ≡ None → Sound p n m × (length v ≡ n) × Small p v × (n + 1 ≤ length out)
unfolding order_refusal
order_sound p n m v out q =
    let c = first_clear _ q in
    let A = sound p n m (c 0) (c 1) (c 2) (c 4) in
    (A, no_vector_false n v (none_refuse 4 _ (c 3)), none_entries 10 p n v (c 5), too_short_false (n + 1) out (none_refuse 6 _ (c 6)))

pub image_sound : (p n : ℕ) (m v f out : List ℕ) → image_refusal p n m v f out ≡ None
    → Sound p n m × (length v ≡ n) × (1 ≤ length f) × (length f ≤ coefficients) × Small p v × Small p f × (n ≤ length out)
unfolding image_refusal
image_sound p n m v f out q =
    let c = first_clear _ q in
    let l = no_polynomial_false f (none_refuse 7 _ (c 4)) in
    let A = sound p n m (c 0) (c 1) (c 2) (c 5) in
    let w = no_vector_false n v (none_refuse 4 _ (c 3)) in
    (A, w, l.0, l.1, none_entries 10 p n v (c 6), none_coefficients 11 p f (c 7), too_short_false n out (none_refuse 6 _ (c 8)))

pub stand_sound : (p n : ℕ) (m cs poly image : List ℕ) → stand_refusal p n m cs poly image ≡ None
    → Sound p n m × SoundRows p n cs × (n + 1 ≤ length poly) × (n ≤ length image)
unfolding stand_refusal
stand_sound p n m cs poly image q = rows_sound p n m cs (n + 1) poly n image q

pub chain_sound : (p n : ℕ) (m cs product stages : List ℕ) → chain_refusal p n m cs product stages ≡ None
    → Sound p n m × SoundRows p n cs × (n + 1 ≤ length product) × (stage_room n ≤ length stages)
unfolding chain_refusal
chain_sound p n m cs product stages q = rows_sound p n m cs (n + 1) product (stage_room n) stages q

pub period_sound : (p n : ℕ) (m : List ℕ) → period_refusal p n m ≡ None → Sound p n m
unfolding period_refusal
period_sound p n m q =
    let c = first_clear _ q in
    sound p n m (c 0) (c 1) (c 2) (c 3)

-- and the other way round: sound inputs are not refused by the calls that a sheet makes
abbrev pub AllNone : List (Option Refusal) → Type 0
AllNone [] = Unit {0}
AllNone (t ∷ ts) = (t ≡ None) × AllNone ts

none_first : (ts : List (Option Refusal)) → AllNone ts → first ts ≡ None
none_first [] h = first_end
none_first (t ∷ ts) h = first_next t ts h.0 ∙ none_first ts h.1

-- the tests that every call on a matrix runs
sound_shape : (p n : ℕ) (m : List ℕ) → Sound p n m → (refuse 1 (no_prime p) ≡ None) × (refuse 2 (no_size n) ≡ None) × (refuse 3 (no_matrix n m) ≡ None)
sound_shape p n m A =
    (refuse_none 1 (prime_no_prime p A.prime A.most), refuse_none 2 (size_no_size n A.some_size A.size), refuse_none 3 (matrix_no_matrix n m A.matrix))

-- those that every call on a list of rows runs first
pub sound_list : (p n : ℕ) (m cs : List ℕ) (ts : List (Option Refusal)) → Sound p n m → SoundRows p n cs → AllNone ts
    → first (refuse 1 (no_prime p) ∷ refuse 2 (no_size n) ∷ refuse 3 (no_matrix n m) ∷ refuse 4 (no_rows n cs)
    ∷ refuse_at 5 (bad_entry p n m) ∷ refuse_at 10 (bad_entry p n cs) ∷ ts) ≡ None
sound_list p n m cs ts A B h =
    let (x, y, z) = sound_shape p n m A in
    let whole = refuse_none 4 (rows_no_rows n cs A.some_size _ B.whole B.few) in
    none_first _ (x, (y, (z, (whole, (entries_none 5 p n m A.entries, (entries_none 10 p n cs B.entries, h))))))

pub list_past : (p n : ℕ) (m cs : List ℕ) (ts : List (Option Refusal)) → Sound p n m → SoundRows p n cs
    → first (refuse 1 (no_prime p) ∷ refuse 2 (no_size n) ∷ refuse 3 (no_matrix n m) ∷ refuse 4 (no_rows n cs)
    ∷ refuse_at 5 (bad_entry p n m) ∷ refuse_at 10 (bad_entry p n cs) ∷ ts) ≡ first ts
list_past p n m cs ts A B = first_past (_ ∷ _ ∷ _ ∷ _ ∷ _ ∷ _ ∷ []) ts (sound_list p n m cs [] A B tt)

sound_rows : (p n : ℕ) (m cs : List ℕ) (j : ℕ) (a : List ℕ) (k : ℕ) (b : List ℕ) → Sound p n m → SoundRows p n cs → j ≤ length a → k ≤ length b
    → first (refuse 1 (no_prime p) ∷ refuse 2 (no_size n) ∷ refuse 3 (no_matrix n m) ∷ refuse 4 (no_rows n cs)
    ∷ refuse_at 5 (bad_entry p n m) ∷ refuse_at 10 (bad_entry p n cs) ∷ refuse 6 (too_short j a || too_short k b) ∷ []) ≡ None
sound_rows p n m cs j a k b A B h i =
    let room : refuse 6 (too_short j a || too_short k b) ≡ None = refuse_none 6 (rw (long-too_short j a h, long-too_short k b i)) in
    sound_list p n m cs _ A B (room, tt)

pub sound_stand : (p n : ℕ) (m cs poly image : List ℕ) → Sound p n m → SoundRows p n cs → n + 1 ≤ length poly → n ≤ length image
    → stand_refusal p n m cs poly image ≡ None
unfolding stand_refusal
sound_stand p n m cs poly image = sound_rows p n m cs (n + 1) poly n image

pub sound_chain : (p n : ℕ) (m cs product stages : List ℕ) → Sound p n m → SoundRows p n cs → n + 1 ≤ length product → stage_room n ≤ length stages
    → chain_refusal p n m cs product stages ≡ None
unfolding chain_refusal
sound_chain p n m cs product stages = sound_rows p n m cs (n + 1) product (stage_room n) stages

pub sound_inverse : (p a : ℕ) → is_prime p ≡ true → a < p → inverse_refusal p a ≡ None
unfolding inverse_refusal no_prime
sound_inverse p a P h = none_first _ (refuse_none 1 (rw P), (scalar_none 11 p a h, tt))

pub sound_period : (p n : ℕ) (m : List ℕ) → Sound p n m → period_refusal p n m ≡ None
unfolding period_refusal
sound_period p n m A =
    let (x, y, z) = sound_shape p n m A in
    none_first _ (x, (y, (z, (entries_none 5 p n m A.entries, tt))))
