-- The record that begins at an offset, read off its letter.
--   LiesAt s at t    s holds the bytes t at the offset `at`
--   lies_front       the first w bytes there
--   Peeked s at x a  what lies ahead is the record x, which s holds at `at`
--   fits_peek        what lies ahead is the record that fits there
--   FitsAs q t       the bytes t are those of a record that fits in the state q
--   alive_fits       where the bytes up to the end of what lies ahead do not lead to Dead, a record fits
--   peek_far         the offset behind a record is not in front of it
-- Assumes nothing.
use mathlib.Core.Path.{◌≡◌, refl, sym, ap, ap₂, subst, ◌∙◌}
use mathlib.Core.Bool.{false}
use mathlib.Core.List.{List, [], ◌∷◌, ◌++◌}
use Rattle.std.specs.Prelude.{Option, None, Some, Ok}
use Prim.Native.Nat.{ℕ, suc, ◌+◌, ◌-◌, ◌≤◌}
use native.Mathlib.Omega.{arith}
use lib.ListN.{length, get_or, take, drop, length-drop, take-append-drop}
use lib.Seq.{slice, drop-drop, take-add, take_at, drop_at, length-take-le}
use lib.Dec.{leb, ltb, eqb}
use borrow.Author.Tests.{le-ltb, ltb-true, ltb-false, leb-true, eqb-true}
use Rattle.algebra.proofs.Field.{pick_each}
use Rattle.meaning.specs.Refusal.{is_prime}
use Rattle.meaning.specs.Case.{Record, record_bytes, radix}
use Rattle.meaning.specs.Case.Record.{field, allow, row, candidate, end}
use Rattle.meaning.specs.Bounds.{most_candidates, widest}
use Rattle.scan.specs.declared.Head.{Head}
use Rattle.scan.specs.declared.State.{State}
use Rattle.scan.specs.declared.State.TheVariants.{Start, Opening, Modulus, Size, Body, Letter, Entries, Over, Dead}
use Rattle.scan.specs.Machine.{only, begun, stale, opened, sized, letter, after, run}
use Rattle.scan.proofs.Run.{Alive, only_alive, entries_small}
use Rattle.scan.proofs.Records.{Fits}
use Rattle.scan.proofs.Records.Fits.{fits_field, fits_allow, fits_row, fits_candidate, fits_end}
use Rattle.reader.specs.declared.Step.{Step}
use Rattle.reader.specs.declared.Step.TheVariants as step
use Rattle.reader.specs.declared.Ahead.{Ahead}
use Rattle.reader.specs.Step.{record_of, stepped_to}
use Rattle.reader.specs.Look.{ahead, field_at, body_at, record_at}

pub record LiesAt (s : List ℕ) (at : ℕ) (t : List ℕ) : Type 0 where
  pub rest : List ℕ
  pub within : at ≤ length s
  pub there : drop at s ≡ t ++ rest

pub lies_front : {s : List ℕ} {at : ℕ} {t : List ℕ} (w : ℕ) → at ≤ length s → take w (drop at s) ≡ t → LiesAt s at t
lies_front {s} {at} w h e =
    record { rest = drop w (drop at s); within = h; there = sym (take-append-drop w (drop at s)) ∙ ap (λ u. u ++ drop w (drop at s)) e }

slice_part : (s : List ℕ) (a n : ℕ) → a ≤ length s → slice a (a + n) s ≡ take n (drop a s)
slice_part s a n h = ap (drop a) (take-add a n s) ∙ drop_at (take a s) (take n (drop a s)) a (length-take-le a s h)

-- the entries behind a mark
slice_entries : {s : List ℕ} {at a b : ℕ} {l : List ℕ} (n : ℕ) → LiesAt s at (a ∷ b ∷ l) → length l ≡ n → slice (at + 2) (at + 2 + n) s ≡ l
slice_entries {s} {at} {l = l} n L k =
    let w : length s - at ≡ suc (suc (length (l ++ L.rest))) = sym (length-drop at s) ∙ ap length L.there in
    slice_part s (at + 2) n (omega (arith, L.within)) ∙ ap (take n) (sym (drop-drop 2 at s) ∙ ap (drop 2) L.there) ∙ take_at l L.rest n k

pub record Peeked (s : List ℕ) (at : ℕ) (x : Record) (a : Option Ahead) : Type 0 where
  pub said : Step
  pub next : ℕ
  pub lies : a ≡ Some (ahead said next)
  pub is : record_of s (stepped_to (Ok said) at next) ≡ Some x
  pub behind : next ≡ at + length (record_bytes x)

peek_field : {s : List ℕ} {at p n : ℕ} → LiesAt s at (255 ∷ 70 ∷ p ∷ n ∷ []) → Peeked s at (field p n) (field_at at (drop at s))
unfolding field_at record_bytes
peek_field {at = at} {p} {n} L =
    rw (L.there, le-ltb (length (255 ∷ 70 ∷ p ∷ n ∷ L.rest)) 4 (omega arith))
    (record { said = step.Field p n; next = at + 4; lies = refl; is = refl; behind = refl })

-- behind F
module _ {s : List ℕ} {at : ℕ} (n : ℕ) where
  peek_allow : {high low : ℕ} → LiesAt s at (255 ∷ 65 ∷ high ∷ low ∷ []) → Peeked s at (allow high low) (body_at n at (drop at s))
  unfolding body_at record_bytes
  peek_allow {high} {low} L =
      rw (L.there, le-ltb (length (255 ∷ 65 ∷ high ∷ low ∷ L.rest)) 2 (omega arith), le-ltb (length (255 ∷ 65 ∷ high ∷ low ∷ L.rest)) 4 (omega arith))
      (record { said = step.Allow high low; next = at + 4; lies = refl; is = refl; behind = refl })

  peek_row : {l : List ℕ} → LiesAt s at (255 ∷ 82 ∷ l) → length l ≡ n → Peeked s at (row l) (body_at n at (drop at s))
  unfolding body_at record_bytes
  peek_row {l} L k =
      rw (L.there, le-ltb (length (255 ∷ 82 ∷ (l ++ L.rest))) 2 (omega arith))
      (record { said = step.Row; next = at + 2 + n; lies = refl; is = ap (λ v. Some (row v)) (slice_entries n L k); behind = omega arith })

  peek_candidate : {l : List ℕ} → LiesAt s at (255 ∷ 67 ∷ l) → length l ≡ n → Peeked s at (candidate l) (body_at n at (drop at s))
  unfolding body_at record_bytes
  peek_candidate {l} L k =
      rw (L.there, le-ltb (length (255 ∷ 67 ∷ (l ++ L.rest))) 2 (omega arith))
      (record { said = step.Candidate; next = at + 2 + n; lies = refl; is = ap (λ v. Some (candidate v)) (slice_entries n L k); behind = omega arith })

  peek_end : LiesAt s at (255 ∷ 69 ∷ []) → Peeked s at end (body_at n at (drop at s))
  unfolding body_at record_bytes
  peek_end L =
      rw (L.there, le-ltb (length (255 ∷ 69 ∷ L.rest)) 2 (omega arith)) (record { said = step.End; next = at + 2; lies = refl; is = refl; behind = refl })

pub fits_peek : {q z : State} {x : Record} {s : List ℕ} {at : ℕ} → Fits q x z → LiesAt s at (record_bytes x) → Peeked s at x (record_at q at (drop at s))
unfolding record_bytes record_at
fits_peek (fits_field P h k) L = peek_field L
fits_peek (fits_allow {h} f j k) L = peek_allow h.n L
fits_peek (fits_row {h} j k m) L = peek_row h.n L k
fits_peek (fits_candidate {h} i j k m) L = peek_candidate h.n L k
fits_peek (fits_end {h} i) L = peek_end h.n L

-- the other way: what does not lead to Dead fits
pub record FitsAs (q : State) (t : List ℕ) : Type 0 where
  pub read : Record
  pub behind : State
  pub fits : Fits q read behind
  pub bytes : t ≡ record_bytes read

alive_field : {a b p n : ℕ} → Alive (run Start (a ∷ b ∷ p ∷ n ∷ [])) → FitsAs Start (a ∷ b ∷ p ∷ n ∷ [])
unfolding run after sized record_bytes
alive_field {a} {b} {p} {n} h =
    let i = only_alive (eqb a 255) Opening (b ∷ p ∷ n ∷ []) h in
    let j = only_alive (eqb b 70) Modulus (p ∷ n ∷ []) i.1 in
    let k = only_alive (is_prime p) (Size p) (n ∷ []) j.1 in
    let l = only_alive (leb 1 n) (only (leb n widest) (Body (begun p n))) [] k.1 in
    let m = only_alive (leb n widest) (Body (begun p n)) [] l.1 in
    record {
      read = field p n;
      behind = Body (begun p n);
      fits = fits_field k.0 (leb-true 1 n l.0) (leb-true n widest m.0);
      bytes = ap₂ (λ x y. x ∷ y ∷ p ∷ n ∷ []) (eqb-true a 255 i.0) (eqb-true b 70 j.0);
    }

module _ (h : Head) where
  alive_mark : (a : ℕ) (t : List ℕ) → Alive (run (Body h) (a ∷ t)) → (a ≡ 255) × Alive (run (Letter h) t)
  unfolding run after
  alive_mark a t v =
      let i = only_alive (eqb a 255) (Letter h) t v in
      (eqb-true a 255 i.0, i.1)

  alive_end : {a : ℕ} → Alive (run (Body h) (a ∷ 69 ∷ [])) → FitsAs (Body h) (a ∷ 69 ∷ [])
  unfolding run after letter record_bytes
  alive_end {a} v =
      let i = alive_mark a (69 ∷ []) v in
      let j = only_alive (leb h.n h.count) (Over (stale h h.count)) [] i.1 in
      record { read = end; behind = Over (stale h h.count); fits = fits_end (leb-true _ _ j.0); bytes = ap (λ x. x ∷ 69 ∷ []) i.0 }

  alive_row : {a : ℕ} {l : List ℕ} → length l ≡ h.n → Alive (run (Body h) (a ∷ 82 ∷ l)) → FitsAs (Body h) (a ∷ 82 ∷ l)
  unfolding run after letter record_bytes
  alive_row {a} {l} e v =
      let i = alive_mark a (82 ∷ l) v in
      let j = only_alive (ltb h.count h.n) (opened h) l i.1 in
      record {
        read = row l;
        behind = Body (stale h (h.count + 1));
        fits = fits_row (ltb-true _ _ j.0) e (entries_small (stale h (h.count + 1)) h.p h.n l e j.1);
        bytes = ap (λ x. x ∷ 82 ∷ l) i.0;
      }

  alive_allow : {a high low : ℕ} → Alive (run (Body h) (a ∷ 65 ∷ high ∷ low ∷ [])) → FitsAs (Body h) (a ∷ 65 ∷ high ∷ low ∷ [])
  unfolding run after letter record_bytes
  alive_allow {a} {high} {low} v =
      let l : List ℕ = high ∷ low ∷ [] in
      let g : Head = stale h h.count in
      let i = alive_mark a (65 ∷ l) v in
      let j = only_alive h.fresh (Entries g radix 2) l i.1 in
      let k = entries_small g radix 2 l refl j.1 in
      record { read = allow high low; behind = Body g; fits = fits_allow j.0 k.0 k.1.0; bytes = ap (λ x. x ∷ 65 ∷ l) i.0 }

  -- behind any other letter but E a candidate follows
  letter_other : (b : ℕ) → eqb b 65 ≡ false → eqb b 82 ≡ false → eqb b 69 ≡ false
      → letter h b ≡ only (leb h.n h.count) (only (eqb b 67) (only (ltb h.count (h.n + most_candidates)) (opened h)))
  unfolding letter
  letter_other b c d e = rw (c, d, e)

  alive_other : {a b : ℕ} {l : List ℕ} → eqb b 65 ≡ false → eqb b 82 ≡ false → eqb b 69 ≡ false → length l ≡ h.n
      → Alive (run (Body h) (a ∷ b ∷ l)) → FitsAs (Body h) (a ∷ b ∷ l)
  unfolding run after record_bytes
  alive_other {a} {b} {l} c d f e v =
      let i = alive_mark a (b ∷ l) v in
      let j = only_alive (leb h.n h.count) _ l (subst (λ q. Alive (run q l)) (letter_other b c d f) i.1) in
      let k = only_alive (eqb b 67) _ l j.1 in
      let o = only_alive (ltb h.count (h.n + most_candidates)) (opened h) l k.1 in
      record {
        read = candidate l;
        behind = Body (stale h (h.count + 1));
        fits = fits_candidate (leb-true _ _ j.0) (ltb-true _ _ o.0) e (entries_small (stale h (h.count + 1)) h.p h.n l e o.1);
        bytes = ap₂ (λ x y. x ∷ y ∷ l) i.0 (eqb-true b 67 k.0);
      }

-- the bytes up to where the record ends by its letter
abbrev Fit : State → ℕ → List ℕ → Option Ahead → Type 0
Fit q at t (Some a) = a.next - at ≤ length t → Alive (run q (take (a.next - at) t)) → FitsAs q (take (a.next - at) t)
Fit q at t None = Unit {0}

-- the first bytes, where there are as many
first_two : (t : List ℕ) (w k : ℕ) → w ≡ suc (suc k) → 2 ≤ length t → take w t ≡ get_or t 0 0 ∷ get_or t 1 0 ∷ take k (drop 2 t)
first_two [] w k e h = absurd (omega arith)
first_two (a ∷ []) w k e h = absurd (omega arith)
first_two (a ∷ b ∷ t) w k e h = ap (λ j. take j (a ∷ b ∷ t)) e

first_four : (t : List ℕ) (w : ℕ) → w ≡ 4 → 4 ≤ length t → take w t ≡ get_or t 0 0 ∷ get_or t 1 0 ∷ get_or t 2 0 ∷ get_or t 3 0 ∷ []
first_four [] w e h = absurd (omega arith)
first_four (a ∷ []) w e h = absurd (omega arith)
first_four (a ∷ b ∷ []) w e h = absurd (omega arith)
first_four (a ∷ b ∷ c ∷ []) w e h = absurd (omega arith)
first_four (a ∷ b ∷ c ∷ d ∷ t) w e h = ap (λ j. take j (a ∷ b ∷ c ∷ d ∷ t)) e

fits_along : {q : State} {t u : List ℕ} → t ≡ u → (Alive (run q u) → FitsAs q u) → Alive (run q t) → FitsAs q t
fits_along {q} e f a = subst (FitsAs q) (sym e) (f (subst (λ v. Alive (run q v)) e a))

fit_field : (at : ℕ) (t : List ℕ) → Fit Start at t (field_at at t)
unfolding field_at
fit_field at t =
    pick_each (Fit Start at t) (ltb (length t) 4) (λ _. tt)
    (λ f h. fits_along (first_four t (at + 4 - at) (omega arith) (ltb-false (length t) 4 f)) alive_field)

fit_body : (h : Head) (at : ℕ) (t : List ℕ) → Fit (Body h) at t (body_at h.n at t)
unfolding body_at
fit_body h at t =
    let F : Option Ahead → Type 0 = Fit (Body h) at t in
    let b : ℕ = get_or t 1 0 in
    let w : ℕ = at + 2 + h.n - at in
    let k : w ≡ suc (suc h.n) = omega arith in
    let size : w ≤ length t → length (take h.n (drop 2 t)) ≡ h.n = λ i. length-take-le h.n (drop 2 t) (simp length-drop (omega arith)) in
    pick_each F (ltb (length t) 2) (λ _. tt)
    (λ f. pick_each F (eqb b 69)
    (λ l i. fits_along (first_two t (at + 2 - at) 0 (omega arith) (ltb-false (length t) 2 f) ∙ ap (λ x. get_or t 0 0 ∷ x ∷ []) (eqb-true b 69 l)) (alive_end h))
    (λ n69. pick_each F (eqb b 65)
    (λ l. pick_each F (ltb (length t) 4) (λ _. tt)
    (λ g i.
    fits_along (first_four t (at + 4 - at) (omega arith) (ltb-false (length t) 4 g) ∙ ap (λ x. get_or t 0 0 ∷ x ∷ get_or t 2 0 ∷ get_or t 3 0 ∷ []) (eqb-true b 65 l))
    (alive_allow h)))
    (λ n65. pick_each F (eqb b 82)
    (λ l i.
    fits_along (first_two t w h.n k (ltb-false (length t) 2 f) ∙ ap (λ x. get_or t 0 0 ∷ x ∷ take h.n (drop 2 t)) (eqb-true b 82 l))
    (alive_row h (size i)))
    (λ n82 i. fits_along (first_two t w h.n k (ltb-false (length t) 2 f)) (alive_other h n65 n82 n69 (size i))))))

fit_record : (q : State) (at : ℕ) (t : List ℕ) → Fit q at t (record_at q at t)
unfolding record_at
fit_record Start at t = fit_field at t
fit_record Opening at t = tt
fit_record Modulus at t = tt
fit_record (Size p) at t = tt
fit_record (Body h) at t = fit_body h at t
fit_record (Letter h) at t = tt
fit_record (Entries h bound left) at t = tt
fit_record (Over h) at t = tt
fit_record Dead at t = tt

pub alive_fits : {q : State} {x : Step} {e : ℕ} (at : ℕ) (t : List ℕ) → record_at q at t ≡ Some (ahead x e) → e - at ≤ length t → Alive (run q (take (e - at) t))
    → FitsAs q (take (e - at) t)
alive_fits {q} at t h = subst (Fit q at t) h (fit_record q at t)

-- the offset behind a record is not in front of it
abbrev Far : ℕ → Option Ahead → Type 0
Far at (Some a) = at ≤ a.next
Far at None = Unit {0}

far_field : (at : ℕ) (t : List ℕ) → Far at (field_at at t)
unfolding field_at
far_field at t = pick_each (Far at) (ltb (length t) 4) (λ _. tt) (λ _. omega arith)

far_body : (n at : ℕ) (t : List ℕ) → Far at (body_at n at t)
unfolding body_at
far_body n at t =
    let b : ℕ = get_or t 1 0 in
    pick_each (Far at) (ltb (length t) 2) (λ _. tt)
    (λ _. pick_each (Far at) (eqb b 69) (λ _. omega arith)
    (λ _. pick_each (Far at) (eqb b 65) (λ _. pick_each (Far at) (ltb (length t) 4) (λ _. tt) (λ _. omega arith))
    (λ _. pick_each (Far at) (eqb b 82) (λ _. omega arith) (λ _. omega arith))))

far_record : (q : State) (at : ℕ) (t : List ℕ) → Far at (record_at q at t)
unfolding record_at
far_record Start at t = far_field at t
far_record Opening at t = tt
far_record Modulus at t = tt
far_record (Size p) at t = tt
far_record (Body h) at t = far_body h.n at t
far_record (Letter h) at t = tt
far_record (Entries h bound left) at t = tt
far_record (Over h) at t = tt
far_record Dead at t = tt

pub peek_far : {x : Step} {at e : ℕ} (q : State) (t : List ℕ) → record_at q at t ≡ Some (ahead x e) → at ≤ e
peek_far {at = at} q t h = subst (Far at) h (far_record q at t)
