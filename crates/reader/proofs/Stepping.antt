-- What a step answers.
--   StandsAt, next_standing   a next record, by the machine
--   next_within, next-passed   the next record lies within the bytes, behind those passed
--   next_peeked      it is what the state and the bytes say
--   next_same, next_ended   there is one next record, and none at the end
--   step_hands, step_over, step_early, step_cut, step_stops, step_nothing   each answer of the code is one that `StepIs` permits
--   step_refused     a step that says a number says where
--   step_unique      any two answers that `StepIs` permits agree
-- Assumes nothing.
use mathlib.Core.Path.{◌≡◌, refl, sym, ap, ap₂, subst, ◌∙◌}
use mathlib.Core.List.{List, ◌++◌, append_cancel_left}
use Rattle.std.specs.Prelude.{Option, None, Some, Result, Ok, Err}
use Rattle.std.proofs.lemmas.Option.{none-some, same_Some}
use Prim.Native.Nat.{ℕ, ◌+◌, ◌-◌, ◌<◌, ◌≤◌}
use native.Mathlib.Omega.{arith}
use lib.ListN.{length, take, drop, length-take, length-drop, length-append}
use lib.Seq.{take-add, take-take, take_at, take-length, length-take-le}
use Rattle.meaning.specs.Case.{Record, record_bytes, flat, Begins, Place}
use Rattle.meaning.specs.Case.Record.{field, allow, row, candidate, end}
use Rattle.meaning.proofs.Flat.{record_long}
use Rattle.meaning.proofs.Place.{place_past, place_unique}
use Rattle.scan.specs.declared.Head.{Head}
use Rattle.scan.specs.declared.State.{State}
use Rattle.scan.specs.declared.State.TheVariants.{Start, Over}
use Rattle.scan.specs.Machine.{run, Viable, Scans}
use Rattle.scan.proofs.Run.{viable_alive, run_append}
use Rattle.scan.proofs.Records.{Fits, fits_viable, fits_whole, fits_comes, takes_append, takes_run, takes_end, takes_viable, last, case_fits}
use Rattle.scan.proofs.Records.{takes_case, parse, whole_finish}
use Rattle.scan.proofs.Records.Takes.{takes}
use Rattle.scan.proofs.Place.{over_case, case_over, viable_begins, place_end}
use Rattle.reader.specs.declared.Step.{Step}
use Rattle.reader.specs.declared.Step.TheVariants as step
use Rattle.reader.specs.declared.Stepped.{Stepped}
use Rattle.reader.specs.declared.Ahead.{Ahead}
use Rattle.reader.specs.Step.{record_with, record_of, refusal_of, NextRecord, Ended, StepIs, stepped_to}
use Rattle.reader.specs.Step.StepIs.{hands, over, refuses}
use Rattle.reader.specs.Look.{ahead, record_at}
use Rattle.reader.proofs.Look.{LiesAt, lies_front, Peeked, fits_peek, FitsAs, alive_fits, peek_far}

-- a next record, by the machine
pub record StandsAt (s : List ℕ) (at : ℕ) (x : Record) : Type 0 where
  pub state : State
  pub behind : State
  pub comes : run Start (take at s) ≡ state
  pub fits : Fits state x behind
  pub within : at + length (record_bytes x) ≤ length s
  pub lies : LiesAt s at (record_bytes x)
  pub begins : Begins (take (at + length (record_bytes x)) s)

pub next_within : {s : List ℕ} {at : ℕ} {x : Record} → NextRecord s at x → at + length (record_bytes x) ≤ length s
next_within {s} {at} {x} N =
    let w : ℕ = length (record_bytes x) in
    let size : length (take (at + w) s) ≡ at + w = ap length N.holds ∙ length-append (flat N.passed) (record_bytes x) ∙ ap (λ j. j + w) (sym N.begins) in
    omega (arith, length-take (at + w) s)

pub next-passed : {s : List ℕ} {at : ℕ} {x : Record} (N : NextRecord s at x) → take at s ≡ flat N.passed
next-passed {s} {at} {x} N =
    sym (take-take at (at + length (record_bytes x)) s (omega arith)) ∙ ap (take at) N.holds ∙ take_at (flat N.passed) (record_bytes x) at (sym N.begins)

pub next_standing : {s : List ℕ} {at : ℕ} {x : Record} → NextRecord s at x → StandsAt s at x
next_standing {s} {at} {x} N =
    let w : ℕ = length (record_bytes x) in
    let f = case_fits N.case N.well_formed N.passed N.to_come x N.listed in
    let good = takes_viable f.1 tt in
    let front = next-passed N in
    let bytes : take w (drop at s) ≡ record_bytes x =
    sym (append_cancel_left (flat N.passed) _ _ (sym N.holds ∙ take-add at w s ∙ ap (λ u. u ++ take w (drop at s)) front)) in
    let comes : run Start (take (at + w) s) ≡ f.2 =
    ap (run Start) N.holds ∙ takes_run f.1 tt (record_bytes x) ∙ fits_comes f.3 good in
    record {
      state = f.0;
      behind = f.2;
      comes = ap (run Start) front ∙ takes_end f.1 tt;
      fits = f.3;
      within = next_within N;
      lies = lies_front w (omega (arith, next_within N)) bytes;
      begins = viable_begins _ (subst Viable (sym comes) (fits_viable f.3 good));
    }

-- which record is next, and where it ends, is what the state and the bytes say
pub next_peeked : {s : List ℕ} {at : ℕ} {x : Record} {q : State} → NextRecord s at x → run Start (take at s) ≡ q → Peeked s at x (record_at q at (drop at s))
next_peeked {s} {at} {x} {q} N e =
    let S = next_standing N in
    subst (λ z. Peeked s at x (record_at z at (drop at s))) (sym S.comes ∙ e) (fits_peek S.fits S.lies)

next_before : {s : List ℕ} {at k : ℕ} {x : Record} → NextRecord s at x → Place s k → at + length (record_bytes x) ≤ k
next_before {s} {at} {k} {x} N P =
    let S = next_standing N in
    place_past s k (at + length (record_bytes x)) P S.within S.begins

ended_comes : {s : List ℕ} {at : ℕ} (E : Ended s at) → run Start (take at s) ≡ Over (last E.case)
ended_comes {s} {at} E = ap (run Start) (ap (λ k. take k s) E.length_of ∙ take-length s) ∙ case_over E.is

ended_before : {s : List ℕ} {at k : ℕ} → Ended s at → Place s k → at ≤ k
ended_before {s} {at} {k} E P =
    place_past s k at P (omega (arith, E.length_of)) (viable_begins (take at s) (subst Viable (sym (ended_comes E)) tt))

-- what lies ahead is one thing
peeked_is : {s : List ℕ} {at e : ℕ} {x : Record} {y : Step} {a : Option Ahead} → Peeked s at x a → a ≡ Some (ahead y e)
    → (record_of s (stepped_to (Ok y) at e) ≡ Some x) × (e ≡ at + length (record_bytes x))
peeked_is {s} {at} P h =
    let same = same_Some _ _ (sym h ∙ P.lies) in
    (ap (λ (a : Ahead). record_of s (stepped_to (Ok a.step) at a.next)) same ∙ P.is, ap (λ (a : Ahead). a.next) same ∙ P.behind)

-- the answers of the code
fits_next : {s : List ℕ} {at w : ℕ} {q : State} → Scans s at q → w ≤ length (drop at s) → (F : FitsAs q (take w (drop at s))) → NextRecord s at F.read
fits_next {s} {at} {w} {q} R h F =
    let A = parse q (fits_whole F.fits).0 (take at s) R.comes in
    let D = whole_finish F.behind (fits_whole F.fits).1 (fits_viable F.fits R.viable) in
    let C = takes_case (takes_append A.lead (takes F.fits D.lead)) in
    let size : length (record_bytes F.read) ≡ w = ap length (sym F.bytes) ∙ length-take-le w (drop at s) h in
    record {
      case = C.case;
      well_formed = C.well_formed;
      passed = A.listed;
      to_come = D.listed;
      listed = C.are;
      begins = sym (length-take-le at s R.within) ∙ ap length A.bytes;
      holds = take-add at (length (record_bytes F.read)) s ∙ ap₂ ◌++◌ A.bytes (ap (λ j. take j (drop at s)) size ∙ F.bytes);
    }

fits_handed : {s : List ℕ} {at e : ℕ} {q : State} {x : Step} (w : ℕ) → Scans s at q → record_at q at (drop at s) ≡ Some (ahead x e) → w ≤ length (drop at s)
    → FitsAs q (take w (drop at s)) → StepIs s at (stepped_to (Ok x) at e)
fits_handed w R h size F =
    let is = peeked_is (fits_peek F.fits (lies_front w R.within F.bytes)) h in
    hands F.read (fits_next R size F) is.0 refl is.1

pub step_hands : {s : List ℕ} {at e : ℕ} {q z : State} {x : Step} → Scans s at q → record_at q at (drop at s) ≡ Some (ahead x e) → Scans s e z
    → StepIs s at (stepped_to (Ok x) at e)
step_hands {s} {at} {e} {q} {z} R h Z =
    let far : at ≤ e = peek_far q (drop at s) h in
    let w : ℕ = e - at in
    let sum : at + w ≡ e = omega arith in
    let size : w ≤ length (drop at s) = simp length-drop (omega (arith, Z.within)) in
    let t : List ℕ = take w (drop at s) in
    let comes : run q t ≡ z =
    ap (λ y. run y t) (sym R.comes) ∙ sym (run_append Start (take at s) t) ∙ ap (run Start) (sym (take-add at w s) ∙ ap (λ j. take j s) sum) ∙ Z.comes in
    fits_handed w R h size (alive_fits at (drop at s) h size (viable_alive (subst Viable (sym comes) Z.viable)))

pub step_over : {s : List ℕ} {at : ℕ} {q : State} {h : Head} → Scans s at q → q ≡ Over h → at ≡ length s → StepIs s at (stepped_to (Ok step.Over) at at)
step_over {s} {at} {h = h} R e l =
    let c = over_case {h = h} s (ap (run Start) (sym (ap (λ k. take k s) l ∙ take-length s)) ∙ R.comes ∙ e) in
    over (record { case = c.0; is = c.1; length_of = l }) refl refl refl

pub step_early : {s : List ℕ} {at k : ℕ} → Place s k → k < at → StepIs s at (stepped_to (Err k) at at)
step_early {s} {at} {k} P h = refuses k (λ x N. omega (arith, next_before N P)) (λ E. omega (arith, ended_before E P)) P refl refl refl

pub step_cut : {s : List ℕ} {at : ℕ} {q : State} → Scans s at q → at ≡ length s → ((h : Head) → q ≡ Over h → ⊥) → StepIs s at (stepped_to (Err at) at at)
step_cut {s} {at} R h f =
    refuses at (λ x N. omega (arith, (next_standing N).within, record_long x)) (λ E. f _ (sym R.comes ∙ ended_comes E)) (place_end R (omega arith)) refl refl refl

pub step_stops : {s : List ℕ} {at e k : ℕ} {q : State} {x : Step} → Scans s at q → (at ≡ length s → ⊥) → record_at q at (drop at s) ≡ Some (ahead x e)
    → Place s k → k < e → StepIs s at (stepped_to (Err k) at at)
step_stops {s} {at} {e} {k} R f h P l =
    let far : (y : Record) → NextRecord s at y → e ≡ at + length (record_bytes y) = λ y N. (peeked_is (next_peeked N R.comes) h).1 in
    refuses k (λ y N. omega (arith, next_before N P, far y N)) (λ E. f E.length_of) P refl refl refl

pub step_nothing : {s : List ℕ} {at k : ℕ} {q : State} → Scans s at q → (at ≡ length s → ⊥) → record_at q at (drop at s) ≡ None → Place s k
    → StepIs s at (stepped_to (Err k) at at)
step_nothing {k = k} R f h P =
    refuses k (λ y N. none-some _ (sym h ∙ (next_peeked N R.comes).lies)) (λ E. f E.length_of) P refl refl refl

-- any two answers agree
abbrev step_of : Record → Result Step ℕ
step_of (field p n) = Ok (step.Field p n)
step_of (allow high low) = Ok (step.Allow high low)
step_of (row l) = Ok step.Row
step_of (candidate l) = Ok step.Candidate
step_of end = Ok step.End

step-known : (l : List ℕ) (a : Result Step ℕ) (x : Record) → record_with l a ≡ Some x → a ≡ step_of x
step-known l (Ok (step.Field p n)) x h = ap step_of (same_Some _ _ h)
step-known l (Ok (step.Allow high low)) x h = ap step_of (same_Some _ _ h)
step-known l (Ok step.Row) x h = ap step_of (same_Some _ _ h)
step-known l (Ok step.Candidate) x h = ap step_of (same_Some _ _ h)
step-known l (Ok step.End) x h = ap step_of (same_Some _ _ h)
step-known l (Ok step.Over) x h = absurd (none-some _ h)
step-known l (Err j) x h = absurd (none-some _ h)

pub step_refused : (a : Result Step ℕ) (k : ℕ) → refusal_of a ≡ Some (8, k) → a ≡ Err k
step_refused (Ok (step.Field p n)) k h = absurd (none-some _ h)
step_refused (Ok (step.Allow high low)) k h = absurd (none-some _ h)
step_refused (Ok step.Row) k h = absurd (none-some _ h)
step_refused (Ok step.Candidate) k h = absurd (none-some _ h)
step_refused (Ok step.End) k h = absurd (none-some _ h)
step_refused (Ok step.Over) k h = absurd (none-some _ h)
step_refused (Err j) k h = ap (λ x. Err x.1) (same_Some _ _ h)

next_same : {s : List ℕ} {at : ℕ} {x y : Record} → NextRecord s at x → NextRecord s at y → x ≡ y
next_same M N =
    let Q = next_peeked N refl in
    same_Some _ _ (sym (peeked_is (next_peeked M refl) Q.lies).0 ∙ Q.is)

next_ended : {s : List ℕ} {at : ℕ} {x : Record} → NextRecord s at x → Ended s at → ⊥
next_ended {x = x} N E = omega (arith, (next_standing N).within, record_long x, E.length_of)

stepped_same : {a b : Stepped} → a.step ≡ b.step → a.from.at ≡ b.from.at → a.next.at ≡ b.next.at → a ≡ b
stepped_same p f q = λ i. record { step = p i; from = record { at = f i }; next = record { at = q i } }

pub step_unique : {s : List ℕ} {at : ℕ} {a b : Stepped} → StepIs s at a → StepIs s at b → a ≡ b
step_unique {at = at} (hands x M h d e) (hands y N i c f) =
    let same = next_same M N in
    stepped_same (step-known _ _ x h ∙ ap step_of same ∙ sym (step-known _ _ y i)) (d ∙ sym c) (e ∙ ap (λ r. at + length (record_bytes r)) same ∙ sym f)
step_unique (hands x M h d e) (over E i c f) = absurd (next_ended M E)
step_unique (hands x M h d e) (refuses j n m P i c f) = absurd (n x M)
step_unique (over E i c f) (hands x M h d e) = absurd (next_ended M E)
step_unique (over E i c f) (over D h d e) = stepped_same (i ∙ sym h) (c ∙ sym d) (f ∙ sym e)
step_unique (over E i c f) (refuses j n m P h d e) = absurd (m E)
step_unique (refuses j n m P i c f) (hands x M h d e) = absurd (n x M)
step_unique (refuses j n m P i c f) (over E h d e) = absurd (m E)
step_unique {s} (refuses j n m P i c f) (refuses k o l Q h d e) =
    stepped_same (step_refused _ j i ∙ ap Err (place_unique s j k P Q) ∙ sym (step_refused _ k h)) (c ∙ sym d) (f ∙ sym e)
