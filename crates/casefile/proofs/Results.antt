-- What is known of the contents that reading permits.
--   read_within   of a case that is read, n is at most 64 and there are at most 128 candidates
--   read_sizes    so its matrix and its candidates fill no more than their arrays
--   read_refused  of a file that is refused, that it is no case, and the place
--   read_steps    what is read is what the steps hand out
--   read_unique   any two contents that `ReadIs` permits agree, arrays included
-- Assumes nothing.
use mathlib.Core.Path.{◌≡◌, sym, ap, subst, ◌∙◌}
use mathlib.Core.List.{List}
use Rattle.std.specs.Prelude.{Some, Result, Ok, Err}
use Rattle.std.proofs.lemmas.Option.{none-some, same_Some}
use Prim.Native.Nat.{ℕ, ◌*◌, ◌≤◌}
use native.Mathlib.Nat.{mul-le-mul}
use lib.ListN.{length}
use Rattle.meaning.specs.Bytes.{padded}
use Rattle.meaning.specs.Bounds.{most_candidates, widest, matrix_room, candidate_room}
use Rattle.meaning.specs.Case.{Case, IsCase, Place, allowance_of, matrix_bytes, candidate_bytes}
use Rattle.meaning.proofs.CaseBytes.{case_unique}
use Rattle.meaning.proofs.Place.{place_unique}
use Rattle.casefile.specs.declared.Case.{Case as Values}
use Rattle.casefile.specs.declared.Contents.{Contents}
use Rattle.casefile.specs.Reading.{values_of, read_refusal, ReadIs, HandedOut}
use Rattle.casefile.specs.Reading.ReadIs.{reads, refuses}
use Rattle.casefile.specs.Reading.HandedOut.{whole, stopped}
use Rattle.reader.proofs.Steps.{steps_case, steps_refused}

read_within : {s : List ℕ} {r : Contents} {v : Values} → ReadIs s r → r.answer ≡ Ok v → (v.n ≤ widest) × (v.count ≤ most_candidates)
read_within (reads c W h x y) e =
    let q = same_Some _ _ (sym h ∙ ap values_of e) in
    (subst (λ i. i ≤ widest) (ap (λ t. t.1) q) W.well_formed.most, subst (λ i. i ≤ most_candidates) (ap (λ t. t.3) q) W.well_formed.few)
read_within (refuses j W P v x y) e = absurd (none-some _ (sym (ap read_refusal e) ∙ v))

pub read_sizes : {s : List ℕ} {r : Contents} {v : Values} → ReadIs s r → r.answer ≡ Ok v → (v.n * v.n ≤ matrix_room) × (v.count * v.n ≤ candidate_room)
read_sizes R e = let w = read_within R e in (mul-le-mul w.0 w.0, mul-le-mul w.1 w.0)

pub read_refused : {s : List ℕ} {r : Contents} {k : ℕ} → ReadIs s r → r.answer ≡ Err k → ((c : Case) → ¬ IsCase s c) × Place s k
read_refused (reads c i v f g) q = absurd (none-some _ (sym (ap values_of q) ∙ v))
read_refused {s} {r} {k} (refuses j none_is at v f g) q =
    let e = same_Some (8, k) (8, j) (sym (ap read_refusal q) ∙ v) in
    (none_is, subst (Place s) (sym (ap (λ x. x.1) e)) at)

pub read_steps : {s : List ℕ} {r : Contents} → ReadIs s r → HandedOut s r
read_steps (reads c i v x y) = whole c (steps_case i) v x y
read_steps (refuses k n P v x y) = stopped k (steps_refused n P) v

-- an answer is known by its values, or by its place
read_values : (a : Result Values ℕ) (x : ℕ × ℕ × ℕ × ℕ) → values_of a ≡ Some x → a ≡ Ok (record { p = x.0; n = x.1; allowance = x.2; count = x.3 })
read_values (Ok v) x e = ap (λ t. Ok (record { p = t.0; n = t.1; allowance = t.2; count = t.3 })) (same_Some _ _ e)
read_values (Err k) x e = absurd (none-some _ e)

read_place : (a : Result Values ℕ) (k : ℕ) → read_refusal a ≡ Some (8, k) → a ≡ Err k
read_place (Ok v) k e = absurd (none-some _ e)
read_place (Err j) k e = ap (λ t. Err t.1) (same_Some _ _ e)

contents_same : {a b : Contents} → a.answer ≡ b.answer → a.matrix ≡ b.matrix → a.candidates ≡ b.candidates → a ≡ b
contents_same e f g = λ i. record { answer = e i; matrix = f i; candidates = g i }

pub read_unique : {s : List ℕ} {a b : Contents} → ReadIs s a → ReadIs s b → a ≡ b
read_unique {a = a} {b = b} (reads c i e f g) (reads d j h k l) =
    let same = case_unique i j in
    contents_same
    (read_values a.answer _ e
    ∙ ap (λ (x : Case). Ok (record { p = x.p; n = x.n; allowance = allowance_of x; count = length x.candidates })) same
    ∙ sym (read_values b.answer _ h))
    (f ∙ ap (λ (x : Case). padded matrix_room (matrix_bytes x)) same ∙ sym k)
    (g ∙ ap (λ (x : Case). padded candidate_room (candidate_bytes x)) same ∙ sym l)
read_unique (reads c i e f g) (refuses n K P h k l) = absurd (K c i)
read_unique (refuses n K P h k l) (reads c i e f g) = absurd (K c i)
read_unique {s} {a} {b} (refuses n H P e f g) (refuses o K Q h k l) =
    contents_same (read_place a.answer n e ∙ ap Err (place_unique s n o P Q) ∙ sym (read_place b.answer o h)) (f ∙ sym k) (g ∙ sym l)
