-- Demands 2 and 3 of the code's own answers: they are read through `stood_of`, and the theorems of `promises` about answers and buffers apply to them.
--   stood_proved      demand 2: an answer `Proved` has the minimal polynomial in its buffer
--   stood_short       an answer `Short` has another, with the first unit row that it does not send to zero and that row's image
--   stood_kept        demand 3: more rows or a larger allowance keep a proved polynomial
--   stood_divides     a short one divides the new one
--   stood_reordered   another sequence of rows that are all taken gives the same answer and the same bytes
--   stood_ends        adding each reported unit row: a run ends in `Proved` within n − d additions, and every run does
-- Assumes nothing.
use mathlib.Core.Path.{◌≡◌, refl, sym, ap, ◌∙◌, subst}
use mathlib.Core.List.{List, ◌++◌, Perm}
use Rattle.std.specs.Prelude.{Result, Ok, Err}
use Prim.Native.Nat.{ℕ, suc, ◌≤◌}
use lib.ListN.{length, take}
use Rattle.algebra.specs.Poly.{act, ◌∣◌}
use Rattle.algebra.specs.Orders.{KillsEvery}
use Rattle.meaning.specs.Bytes.{byte_rows, rows, times, bytes, e}
use Rattle.meaning.specs.Polynomial.{IsMinimal}
use Rattle.meaning.specs.Stand.{Outcome, FirstUnsent}
use Rattle.meaning.specs.Calls.{given, StandCall}
use Rattle.promises.specs.Additions.{FromBounds}
use Rattle.promises.specs.CallRun.{Buffers, shown, CallsEnd}
use Rattle.promises.proofs.Answers.{answer_minimal, answer_short, answer_more, answer_reordered, calls_end}
use Rattle.reasons.specs.Reasons.{as_refusal}
use Rattle.reasons.specs.declared.Reason.{Reason}
use Rattle.calls.specs.Answers.{stood_of}
use Rattle.answers.specs.Runs.{StoodEnd}
use Rattle.calls.specs.declared.Counts.{Counts}
use Rattle.calls.specs.declared.Stood.{Stood}
use Rattle.calls.specs.declared.Stood.TheVariants as stood
use Rattle.meaning.proofs.Called.{refused_given}
use Rattle.answers.proofs.Unique.{proved_short, stood_only}
use Rattle.answers.proofs.Runs.{proved_counts, run_calls, ends_stood}

-- proved: the polynomial in the buffer is the minimal polynomial
pub stood_proved : {p n : ℕ} {m cs : List ℕ} {a : ℕ} {old new : Buffers} (c : Counts) → StandCall p n m cs a old (stood_of (Ok (stood.Proved c))) new
    → IsMinimal p n m c.degree (shown p n new)
stood_proved c A = (answer_minimal A).0 refl

-- short: it is not, and the witness is the first unit row that is not sent to zero
pub stood_short : {p n : ℕ} {m cs : List ℕ} {a : ℕ} {old new : Buffers} (c : Counts) (w : ℕ) → StandCall p n m cs a old (stood_of (Ok (stood.Short c w))) new
    → (¬ KillsEvery n (times p n m) (shown p n new)) × FirstUnsent (times p n m) n (shown p n new) w
    × (take n new.1 ≡ bytes n (act (times p n m) (shown p n new) (e w)))
stood_short c w A =
    let (F, b) = answer_short A refl in
    (λ k. proved_short (sym ((answer_minimal A).1 k)), F, b)

-- the rows ds behind, a larger allowance, or both; the second answer is no refusal
module _ {p n : ℕ} {m cs : List ℕ} {a b : ℕ} {old new old' new' : Buffers} (ds : List ℕ) (l : a ≤ b) where
  -- a proved polynomial stays, byte for byte
  pub stood_kept : (c : Counts) (s : Result Stood Reason) → StandCall p n m cs a old (stood_of (Ok (stood.Proved c))) new → StandCall p n m (cs ++ ds) b old' (stood_of s) new'
      → ((q : Reason) → ¬ (s ≡ Err q)) → (d : Counts) × (s ≡ Ok (stood.Proved d)) × (c.degree ≡ d.degree) × (take (suc n) new.0 ≡ take (suc n) new'.0)
  stood_kept c (Ok (stood.Proved d)) A B h = let (x, y, z) = (answer_more ds l A B).1 refl in (d, refl, y, z)
  stood_kept c (Ok (stood.Short d w)) A B h = absurd (proved_short (sym ((answer_more ds l A B).1 refl).0))
  stood_kept c (Err k) A B h = absurd (h k refl)

  -- and a short one divides the new one
  pub stood_divides : (c : Counts) (w : ℕ) (s : Result Stood Reason) → StandCall p n m cs a old (stood_of (Ok (stood.Short c w))) new
      → StandCall p n m (cs ++ ds) b old' (stood_of s) new' → ((q : Reason) → ¬ (s ≡ Err q)) → shown p n new ∣ shown p n new'
  stood_divides c w (Ok (stood.Proved d)) A B h = (answer_more ds l A B).0
  stood_divides c w (Ok (stood.Short d u)) A B h = (answer_more ds l A B).0
  stood_divides c w (Err k) A B h = absurd (h k refl)

-- another sequence of rows that are all taken
pub stood_reordered : {p n : ℕ} {m cs ds : List ℕ} {a : ℕ} {old new old' new' : Buffers} (r s : Result Stood Reason) {o q : Outcome} → stood_of r ≡ given o
    → stood_of s ≡ given q → Perm (byte_rows n cs) (byte_rows n ds) → StandCall p n m cs a old (stood_of r) new → StandCall p n m ds a old' (stood_of s) new'
    → o.taken ≡ length (rows p n cs) → (s ≡ r) × (take (suc n) new'.0 ≡ take (suc n) new.0) × (take n new'.1 ≡ take n new.1)
stood_reordered {p} {n} {m} {cs} {ds} {a} {old} {new} {old'} {new'} r s f g π A B h =
    let C = subst (λ x. StandCall p n m cs a old x new) f A in
    let D = subst (λ x. StandCall p n m ds a old' x new') g B in
    let (x, y, z, t) = answer_reordered π C D h in
    (stood_only s r (g ∙ ap given x ∙ sym f), y, z)

-- adding each reported unit row, from a first call that is not refused, on at most 64 rows, with an allowance of 8,192 or more: a run ends in
-- `Proved` within n − d additions, d the first degree, and every run does
pub stood_ends : {p n : ℕ} {m cs : List ℕ} {a : ℕ} {old new : Buffers} (r : Result Stood Reason) {o : Outcome} → FromBounds n cs a → stood_of r ≡ given o
    → StandCall p n m cs a old (stood_of r) new → StoodEnd p n m a cs r o.degree
stood_ends {p} {n} {m} {cs} {a} {old} {new} r {o} F g A =
    record {
      some_run = ends_stood g E.some_run;
      few = λ R. E.few (run_calls g F R).2;
      full = λ R z. let (u, q, C) = run_calls g F R in proved_counts _ u q (E.full C z);
      unrefused = λ R j z. let (u, q, C) = run_calls g F R in refused_given (as_refusal j) u (sym (ap stood_of z) ∙ q);
      finishes = λ R. let (u, q, C) = run_calls g F R in ends_stood q (E.finishes C);
    }
  where
    E : CallsEnd p n m a cs o
    E = calls_end F (subst (λ x. StandCall p n m cs a old x new) g A)
