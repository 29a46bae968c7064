-- What bytes begin, and the place of refusal 8, by the machine.
--   over_case, case_over   bytes that lead to Over are a well-formed case, and the other way round
--   viable_begins, begins_alive   bytes begin a well-formed case exactly when they do not lead to Dead
--   scans_start, scans_turn, scans_begins   a scan from the front, over one byte more, and that its bytes begin a case
--   place_dead, place_end   the place is where a byte leads to Dead, or the end
--   scan_to          a scan that got as far as it was asked to
--   scan_place       a scan that was to go to the end stops at the place
--   run_byte         the state behind one byte more
-- Assumes nothing.
use mathlib.Core.Path.{◌≡◌, refl, sym, ap, subst, ◌∙◌}
use mathlib.Core.List.{List, [], ◌∷◌, ◌++◌}
use Prim.Native.Nat.{ℕ, suc, ◌+◌, ◌<◌, ◌≤◌, zero-le}
use native.Mathlib.Decide.{dec_le}
use native.Mathlib.Nat.{le_antisymm}
use native.Mathlib.Numerals.{add-one}
use native.Mathlib.Omega.{arith}
use lib.ListN.{length, get_or, take}
use lib.Seq.{take-suc}
use Rattle.meaning.specs.Case.{flat, Case, case_bytes, IsCase, Begins, Place}
use Rattle.scan.specs.declared.Head.{Head}
use Rattle.scan.specs.declared.State.{State}
use Rattle.scan.specs.declared.State.TheVariants.{Start, Over, Dead}
use Rattle.scan.specs.Machine.{after, run, Viable, Scans, ScanIs}
use Rattle.scan.proofs.Run.{Alive, viable_alive, run_append, run_alive, viable_after}
use Rattle.scan.proofs.Records.{last, parse, takes_case, case_takes, takes_end, viable_lives}

-- bytes that lead to Over are a well-formed case, and the other way round
pub over_case : {h : Head} (s : List ℕ) → run Start s ≡ Over h → (c : Case) × IsCase s c
unfolding case_bytes
over_case {h} s e =
    let r = parse (Over h) tt s e in
    let c = takes_case r.lead in
    (c.case, record { well_formed = c.well_formed; whole = r.bytes ∙ ap flat (sym c.are) })

pub case_over : {s : List ℕ} {c : Case} → IsCase s c → run Start s ≡ Over (last c)
unfolding case_bytes
case_over {s} {c} i = ap (run Start) i.whole ∙ takes_end (case_takes c i.well_formed) tt

-- beginnings
pub viable_begins : (s : List ℕ) → Viable (run Start s) → Begins s
viable_begins s g =
    let l = viable_lives _ g in
    let c = over_case (s ++ l.rest) (run_append Start s l.rest ∙ l.ends) in
    record { rest = l.rest; case = c.0; is = c.1 }

pub begins_alive : (s : List ℕ) → Begins s → Alive (run Start s)
begins_alive s b =
    run_alive (run Start s) b.rest (viable_alive (subst Viable (sym (case_over b.is) ∙ run_append Start s b.rest) tt))

-- a scan
pub scans_start : (s : List ℕ) → Scans s 0 Start
unfolding run
scans_start s = record { within = zero-le; comes = refl; viable = tt }

scans_begins : {s : List ℕ} {i : ℕ} {q : State} → Scans s i q → Begins (take i s)
scans_begins {s} {i} r = viable_begins (take i s) (subst Viable (sym r.comes) r.viable)

run_byte : (s : List ℕ) (i : ℕ) → i < length s → run Start (take (suc i) s) ≡ after (run Start (take i s)) (get_or s i 0)
unfolding run
run_byte s i h = ap (run Start) (take-suc s i 0 h) ∙ run_append Start (take i s) (get_or s i 0 ∷ [])

pub scans_turn : {s : List ℕ} {i : ℕ} {q z : State} → Scans s i q → i < length s → z ≡ after q (get_or s i 0) → Alive z → Scans s (i + 1) z
scans_turn {s} {i} {q} {z} r h e a =
    let comes : run Start (take (suc i) s) ≡ z = run_byte s i h ∙ ap (λ x. after x (get_or s i 0)) r.comes ∙ sym e in
    record {
      within = omega arith;
      comes = rw add-one comes;
      viable = subst Viable (sym e) (viable_after q (get_or s i 0) r.viable (λ d. a (e ∙ d)));
    }

pub place_dead : {s : List ℕ} {i : ℕ} {q : State} → Scans s i q → i < length s → after q (get_or s i 0) ≡ Dead → Place s i
place_dead {s} {i} r h e =
    record {
      within = r.within;
      before = scans_begins r;
      at_it = λ _ b. begins_alive (take (suc i) s) b (run_byte s i h ∙ ap (λ x. after x (get_or s i 0)) r.comes ∙ e);
    }

pub place_end : {s : List ℕ} {i : ℕ} {q : State} → Scans s i q → length s ≤ i → Place s i
place_end r h = record { within = r.within; before = scans_begins r; at_it = λ l. absurd (omega arith) }

pub scan_to : {s : List ℕ} {from to at : ℕ} {q : State} → ScanIs s from to at q → to ≤ at → Scans s to q
scan_to {s} {to = to} {q = q} S h =
    let e : _ ≡ to = le_antisymm S.near h in
    subst (λ i. Scans s i q) e S.reached

pub scan_place : {s : List ℕ} {from to at : ℕ} {q : State} → ScanIs s from to at q → length s ≤ to → Place s at
scan_place {to = to} {at = at} S h =
    elim (dec_le to at) [
      | yes l ↦ place_end S.reached (omega arith)
      | no l ↦ S.stop (omega arith)
    ]
