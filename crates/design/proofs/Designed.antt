-- A text is a design, or has a first thing that is wrong.
--   text_comes      what going over a text comes to
--   calm_held, wrong_lost   which of the two it is, by the wrong spot
--   held_case       a text that is held is a design
--   held_within, held_bytes   what is held of it lies in the buffer, and is what it says
--   held_read       and its case is read of it
--   values_ok       it is one
--   lost_wrong      one that is not has a first thing that is wrong
--   lost_none       and is no design
-- Assumes nothing.
use mathlib.Core.Path.{◌≡◌, refl, sym, ap, subst, ◌∙◌}
use mathlib.Core.Bool.{true, false, true≢false, false≢true}
use mathlib.Core.Logic.{inl, inr}
use mathlib.Core.List.{List, [], ◌∷◌, ◌++◌, map-append, append_assoc}
use Prim.Native.Nat.{ℕ, ◌<◌, ◌≤◌}
use native.Mathlib.Omega.{arith}
use lib.ListN.{length, take, length-append, length-map}
use lib.Seq.{take_at, take-append-le}
use Rattle.meaning.specs.Bytes.{write}
use Rattle.meaning.specs.Case.{Case, longest_case}
use Rattle.meaning.specs.Design.{Said, spot_at, separator_in, without_mark, cut_at, text_said, bytes_said, IsDesign, FirstWrong}
use Rattle.meaning.proofs.Place.{case_past}
use Rattle.meaning.proofs.Written.{write_covers}
use Rattle.scan.specs.declared.Head.{Head}
use Rattle.scan.specs.declared.State.{State}
use Rattle.scan.specs.declared.State.TheVariants.{Start, Opening, Modulus, Size, Body, Letter, Entries, Over, Dead}
use Rattle.scan.specs.Machine.{after, run, Viable}
use Rattle.scan.proofs.Run.{Alive, viable_alive, viable_after, run_append}
use Rattle.scan.proofs.Place.{over_case, viable_begins, begins_alive, place_dead}
use Rattle.casefile.specs.Reading.{values_of, ReadIs}
use Rattle.casefile.specs.declared.Contents.{Contents}
use Rattle.casefile.proofs.AsRead.{ReadAs, read_case}
use Rattle.std.specs.Prelude.{None, Some, Result, Ok, Err, IsOk}
use Rattle.casefile.specs.declared.Case.{Case as Numbers}
use Rattle.std.proofs.lemmas.Option.{none-some}
use Rattle.spelling.specs.declared.Spot.{Spot as CodeSpot}
use Rattle.spelling.specs.Trace.{spot_of, Tracing, steps, started}
use Rattle.spelling.proofs.Outcome.{bytes_of, Held, Lost, Comes, held_start, steps_come}
use Rattle.design.specs.Expecting.{expected_of}
use Rattle.design.proofs.Reached.{Open, grounded_run, Reached, expects, expected, proper_due}
use Rattle.design.proofs.Ends.{is_over, Quiet, quiet_run, quiet_take, marked_end, front_said, Ended, lines_end, front_quiet}

pub text_comes : {x : Tracing} (t o : List ℕ) → longest_case ≤ length o → x ≡ steps (started, o) (text_said t) → Comes o (text_said t) x
text_comes t o h e = subst (Comes o (text_said t)) (sym e) (steps_come (started, o) [] (text_said t) h (held_start o))

pub calm_held : {o : List ℕ} {xs : List Said} {x : Tracing} → Comes o xs x → x.0.wrong ≡ None → Held (bytes_of xs) o x
calm_held (inl H) e = H
calm_held (inr L) e = absurd (none-some _ (sym e ∙ L.told))

pub wrong_lost : {o : List ℕ} {xs : List Said} {x : Tracing} {p : CodeSpot} → Comes o xs x → x.0.wrong ≡ Some p → Lost xs x
wrong_lost (inl H) e = absurd (none-some _ (sym H.calm ∙ e))
wrong_lost (inr L) e = L

-- a text ends in the record E, and nothing in front of its end says that
record Closed (t : List ℕ) : Type 0 where
  front : List Said
  ended : Ended (text_said t) front
  quiet : Quiet 0 (bytes_of front ++ 255 ∷ [])

closed : (t : List ℕ) → Closed t
unfolding text_said
closed t =
    let ls : List (List ℕ) = cut_at 10 (without_mark t) in
    record {
      front = front_said (separator_in t) (spot_at 0 1) 1 ls;
      ended = lines_end (separator_in t) (spot_at 0 1) 1 ls;
      quiet = front_quiet (separator_in t) (spot_at 0 1) 1 ls 0;
    }

closed_bytes : {t : List ℕ} (C : Closed t) → bytes_of (text_said t) ≡ bytes_of C.front ++ (255 ∷ 69 ∷ [])
closed_bytes C = ap bytes_of C.ended.whole ∙ map-append (λ (x : Said). x.byte) C.front _

over_is : (q : State) → is_over q ≡ true → (h : Head) × (q ≡ Over h)
over_is Start e = absurd (false≢true e)
over_is Opening e = absurd (false≢true e)
over_is Modulus e = absurd (false≢true e)
over_is (Size p) e = absurd (false≢true e)
over_is (Body h) e = absurd (false≢true e)
over_is (Letter h) e = absurd (false≢true e)
over_is (Entries h bound left) e = absurd (false≢true e)
over_is (Over h) e = (h, refl)
over_is Dead e = absurd (false≢true e)

held_case : {o : List ℕ} {x : Tracing} (t : List ℕ) → Held (bytes_of (text_said t)) o x → (c : Case) × IsDesign t c
unfolding bytes_said
held_case {x = x} t H =
    let C = closed t in
    let bs : List ℕ = bytes_of (text_said t) in
    let q : State = run Start (bytes_of C.front) in
    let split : run Start bs ≡ run q (255 ∷ 69 ∷ []) = ap (run Start) (closed_bytes C) ∙ run_append Start (bytes_of C.front) (255 ∷ 69 ∷ []) in
    let alive : Alive (run q (255 ∷ 69 ∷ [])) = subst Alive (sym H.comes ∙ split) (viable_alive H.viable) in
    let (h, e) = over_is _ (marked_end q (grounded_run (bytes_of C.front)).known alive) in
    over_case bs (split ∙ e)

pub held_within : {bs o : List ℕ} {x : Tracing} → Held bs o x → x.0.count ≤ length x.1
held_within {bs} {o} H = omega (arith, H.counted, ap length H.buffer, write_covers bs o)

held_bytes : {o : List ℕ} {x : Tracing} (t : List ℕ) → Held (bytes_of (text_said t)) o x → take x.0.count x.1 ≡ bytes_said t
unfolding write bytes_said
held_bytes {o} {x} t H = ap (take x.0.count) H.buffer ∙ take_at (bytes_of (text_said t)) _ x.0.count (sym H.counted)

-- so what is read of that is the case of the design
pub held_read : {o : List ℕ} {x : Tracing} {r : Contents} (t : List ℕ) → Held (bytes_of (text_said t)) o x → ReadIs (take x.0.count x.1) r
    → (c : Case) × IsDesign t c × ReadAs c r
held_read {r = r} t H R =
    let (c, I) = held_case t H in
    (c, I, read_case I (subst (λ s. ReadIs s r) (held_bytes t H) R))

-- what is read as numbers is no refusal
pub values_ok : {x : ℕ × ℕ × ℕ × ℕ} (a : Result Numbers ℕ) → values_of a ≡ Some x → IsOk a
values_ok (Ok v) e = refl
values_ok (Err k) e = absurd (none-some _ e)

-- something may come where a byte is wrong
lost_open : {x : Tracing} (t : List ℕ) → Lost (text_said t) x → Open x.0.state
lost_open {x} t L =
    let C = closed t in
    let k = L.offset in
    let before : List ℕ = bytes_of C.front ++ 255 ∷ [] in
    let e : bytes_of (text_said t) ≡ before ++ 69 ∷ [] = closed_bytes C ∙ sym (append_assoc (bytes_of C.front) (255 ∷ []) (69 ∷ [])) in
    let long = ap length e ∙ length-append before (69 ∷ []) in
    let size = length-map (text_said t) (λ (x : Said). x.byte) in
    let same : take k (bytes_of (text_said t)) ≡ take k before =
    ap (take k) e ∙ take-append-le k before (69 ∷ []) (omega (arith, long, size, L.within)) in
    let open-still : is_over x.0.state ≡ false =
    ap is_over (sym L.scans.comes) ∙ ap (λ l. is_over (run Start l)) same ∙ quiet_run (take k before) (quiet_take 0 k before C.quiet) in
    (viable_alive L.scans.viable, λ h d. true≢false (sym (ap is_over d) ∙ open-still))

pub lost_wrong : {x : Tracing} (t : List ℕ) (L : Lost (text_said t) x) → FirstWrong t (spot_of L.spot) (expected_of x.0.state)
unfolding bytes_said run
lost_wrong {x} t L =
    let q = x.0.state in
    let bs : List ℕ = bytes_of (text_said t) in
    let g : Reached q = subst Reached L.scans.comes (grounded_run (take L.offset bs)).known in
    let o = lost_open t L in
    let inside : L.offset < length bs = omega (arith, L.within, length-map (text_said t) (λ (x : Said). x.byte)) in
    record {
      offset = L.offset;
      place = place_dead L.scans inside L.dead;
      within = L.within;
      there = L.there;
      proper = proper_due q g;
      might = λ b B. expects q b g o (subst Alive (next b) (begins_alive _ B));
      may = λ b e. viable_begins _ (subst Viable (sym (next b)) (viable_after q b L.scans.viable (expected q b g o e)));
    }
  where
    next : (b : ℕ) → run Start (take L.offset (bytes_of (text_said t)) ++ b ∷ []) ≡ after x.0.state b
    next b = run_append Start (take L.offset (bytes_of (text_said t))) (b ∷ []) ∙ ap (λ z. after z b) L.scans.comes

pub lost_none : {x : Tracing} (t : List ℕ) → Lost (text_said t) x → (c : Case) → ¬ IsDesign t c
unfolding bytes_said
lost_none t L c I = let W = lost_wrong t L in omega (arith, case_past I W.place, W.within, length-map (text_said t) (λ (x : Said). x.byte))
