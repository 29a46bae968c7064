-- One more record noted: its bytes put behind others, and what the numbers and the buffers hold then.
--   noted_row, noted_candidate   what is held with one more row, and with one more candidate
-- Assumes nothing.
use mathlib.Core.Path.{◌≡◌, sym, ap, ap₂, subst, ◌∙◌}
use mathlib.Core.List.{List, [], ◌∷◌, ◌++◌, flatten, append_assoc, append-nil}
use Rattle.std.specs.Prelude.{Some, Result, Ok}
use Prim.Native.Nat.{ℕ, ◌+◌, ◌*◌}
use native.Mathlib.Omega.{arith}
use lib.ListN.{length, length-append}
use lib.Seq.{paste}
use Rattle.meaning.specs.Bytes.{padded}
use Rattle.meaning.specs.Bounds.{most_candidates, widest, matrix_room, candidate_room}
use Rattle.meaning.specs.Case.{Record, matrix_bytes, candidate_bytes}
use Rattle.meaning.specs.Case.Record.{row, candidate}
use Rattle.meaning.proofs.Written.{padded_paste}
use Rattle.reader.specs.declared.Step.{Step}
use Rattle.reader.specs.declared.Step.TheVariants as step
use Rattle.reader.specs.declared.Stepped.{Stepped}
use Rattle.casefile.specs.declared.Numbers.{Numbers}
use Rattle.reader.specs.Step.{entries_in, record_with}
use Rattle.casefile.specs.Gathered.{noted, Stored, Behind, RoomFor, Noting, Noted}

flatten_more : (ls : List (List ℕ)) (l : List ℕ) → flatten (ls ++ (l ∷ [])) ≡ flatten ls ++ l
unfolding flatten
flatten_more [] l = append-nil l
flatten_more (x ∷ ls) l = ap (λ t. x ++ t) (flatten_more ls l) ∙ sym (append_assoc x (flatten ls) l)

-- one more row among rows: what a buffer holds of them
rows_more : {room most : ℕ} (ls : List (List ℕ)) {l m new : List ℕ} {at : ℕ} → Behind (length ls) most room (flatten ls) l → m ≡ padded room (flatten ls)
    → at ≡ length ls * length l → new ≡ paste m at l (length l) → new ≡ padded room (flatten (ls ++ (l ∷ [])))
rows_more {room} ls {l} B m at new =
    new ∙ ap₂ (λ x y. paste x y l (length l)) m (at ∙ sym B.place) ∙ padded_paste room (flatten ls) l B.fits ∙ ap (padded room) (sym (flatten_more ls l))

-- the record that a step hands out
hands_as : {s : List ℕ} {r : Stepped} {v : Numbers} {m cs : List ℕ} (w : Noting s r v m cs) {x : Result Step ℕ} {y : Record} → r.step ≡ x → record_with (entries_in s r) x ≡ Some y
    → w.next ≡ y
hands_as {s} {r} w e h = let z : Some w.next ≡ Some _ = sym w.hands ∙ ap (record_with (entries_in s r)) e ∙ h in cc

-- one more row behind those so far
row_behind : {s : List ℕ} {r : Stepped} {v : Numbers} {m cs l : List ℕ} (w : Noting s r v m cs) → r.step ≡ Ok step.Row → l ≡ entries_in s r
    → Behind (length w.values.matrix) widest matrix_room (matrix_bytes w.values) l
row_behind {l = l} w e f = subst (RoomFor w.values) (hands_as w e (ap (λ t. Some (row t)) (sym f))) w.room

candidate_behind : {s : List ℕ} {r : Stepped} {v : Numbers} {m cs l : List ℕ} (w : Noting s r v m cs) → r.step ≡ Ok step.Candidate → l ≡ entries_in s r
    → Behind (length w.values.candidates) most_candidates candidate_room (candidate_bytes w.values) l
candidate_behind {l = l} w e f = subst (RoomFor w.values) (hands_as w e (ap (λ t. Some (candidate t)) (sym f))) w.room

-- what is held then
length_more : (ls : List (List ℕ)) (l : List ℕ) {k : ℕ} → k ≡ length ls → k + 1 ≡ length (ls ++ (l ∷ []))
length_more ls l e = omega (arith, length-append ls (l ∷ []))

pub noted_row : {s : List ℕ} {r : Stepped} {v : Numbers} {m cs new l : List ℕ} → r.step ≡ Ok step.Row → l ≡ entries_in s r
    → new ≡ paste m (v.rows * length l) l (length l)
    → Noted s r v m cs (record { case = v.case; rows = v.rows + 1 }) new cs
noted_row {cs = cs} {new = new} {l = l} e f g w =
    let H = w.holds in
    let ls : List (List ℕ) = w.values.matrix in
    subst (λ x. Stored (noted w.values x) _ new cs) (sym (hands_as w e (ap (λ t. Some (row t)) (sym f))))
    (record {
      modulus = H.modulus;
      order = H.order;
      allowance = H.allowance;
      rows = length_more ls l H.rows;
      count = H.count;
      matrix = rows_more ls (row_behind w e f) H.matrix (ap (λ k. k * length l) H.rows) g;
      candidates = H.candidates;
    })

pub noted_candidate : {s : List ℕ} {r : Stepped} {v : Numbers} {m cs new l : List ℕ} → r.step ≡ Ok step.Candidate → l ≡ entries_in s r
    → new ≡ paste cs (v.case.count * length l) l (length l)
    → Noted s r v m cs (record { case = record { p = v.case.p; n = v.case.n; allowance = v.case.allowance; count = v.case.count + 1 }; rows = v.rows }) m new
noted_candidate {m = m} {new = new} {l = l} e f g w =
    let H = w.holds in
    let ls : List (List ℕ) = w.values.candidates in
    subst (λ x. Stored (noted w.values x) _ m new) (sym (hands_as w e (ap (λ t. Some (candidate t)) (sym f))))
    (record {
      modulus = H.modulus;
      order = H.order;
      allowance = H.allowance;
      rows = H.rows;
      count = length_more ls l H.count;
      matrix = H.matrix;
      candidates = rows_more ls (candidate_behind w e f) H.candidates (ap (λ k. k * length l) H.count) g;
    })
