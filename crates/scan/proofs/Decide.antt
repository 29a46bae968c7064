-- The machine decides.
--   dead_or, over_or   a state is Dead or not, and Over or not
--   Scan s from to   how far a scan of s from `from` towards `to` gets, and in which state
--   scan_exists      from a state on to any offset there is a scan
--   case_or_place    any bytes are a well-formed case, or are none and have a place
-- Assumes nothing.
use mathlib.Core.Path.{◌≡◌, refl, sym, ap, ◌∙◌}
use mathlib.Core.Logic.{◌⊎◌, inl, inr, ⊎_elim}
use mathlib.Core.List.{List}
use Prim.Native.Nat.{ℕ, zero, suc, ◌+◌, ◌-◌, ◌<◌, ◌≤◌}
use native.Mathlib.Decide.{dec_le}
use native.Mathlib.Nat.{le_refl}
use native.Mathlib.Omega.{arith}
use lib.ListN.{length, get_or}
use lib.Seq.{take-length}
use Rattle.meaning.specs.Case.{Case, IsCase, Place}
use Rattle.meaning.proofs.Place.{case_past}
use Rattle.scan.specs.declared.Head.{Head}
use Rattle.scan.specs.declared.State.{State}
use Rattle.scan.specs.declared.State.TheVariants.{Start, Opening, Modulus, Size, Body, Letter, Entries, Over, Dead}
use Rattle.scan.specs.Machine.{after, run, Scans, ScanIs}
use Rattle.scan.proofs.Run.{Alive}
use Rattle.scan.proofs.Place.{over_case, case_over, scans_start, scans_turn, place_dead, place_end, scan_to}

-- a state is Dead or not, and Over or not
pub dead_or : (q : State) → (q ≡ Dead) ⊎ Alive q
dead_or Start = inr (λ e. let z : ◌≡◌ {A = ℕ} 0 1 = cc in omega arith)
dead_or Opening = inr (λ e. let z : ◌≡◌ {A = ℕ} 0 1 = cc in omega arith)
dead_or Modulus = inr (λ e. let z : ◌≡◌ {A = ℕ} 0 1 = cc in omega arith)
dead_or (Size p) = inr (λ e. let z : ◌≡◌ {A = ℕ} 0 1 = cc in omega arith)
dead_or (Body h) = inr (λ e. let z : ◌≡◌ {A = ℕ} 0 1 = cc in omega arith)
dead_or (Letter h) = inr (λ e. let z : ◌≡◌ {A = ℕ} 0 1 = cc in omega arith)
dead_or (Entries h bound left) = inr (λ e. let z : ◌≡◌ {A = ℕ} 0 1 = cc in omega arith)
dead_or (Over h) = inr (λ e. let z : ◌≡◌ {A = ℕ} 0 1 = cc in omega arith)
dead_or Dead = inl refl

pub over_or : (q : State) → ((h : Head) × (q ≡ Over h)) ⊎ ((h : Head) → q ≡ Over h → ⊥)
over_or Start = inr (λ k e. let z : ◌≡◌ {A = ℕ} 0 1 = cc in omega arith)
over_or Opening = inr (λ k e. let z : ◌≡◌ {A = ℕ} 0 1 = cc in omega arith)
over_or Modulus = inr (λ k e. let z : ◌≡◌ {A = ℕ} 0 1 = cc in omega arith)
over_or (Size p) = inr (λ k e. let z : ◌≡◌ {A = ℕ} 0 1 = cc in omega arith)
over_or (Body h) = inr (λ k e. let z : ◌≡◌ {A = ℕ} 0 1 = cc in omega arith)
over_or (Letter h) = inr (λ k e. let z : ◌≡◌ {A = ℕ} 0 1 = cc in omega arith)
over_or (Entries h bound left) = inr (λ k e. let z : ◌≡◌ {A = ℕ} 0 1 = cc in omega arith)
over_or (Over h) = inl (h, refl)
over_or Dead = inr (λ k e. let z : ◌≡◌ {A = ℕ} 0 1 = cc in omega arith)

-- where a scan got to
pub record Scan (s : List ℕ) (from to : ℕ) : Type 0 where
  pub at : ℕ
  pub state : State
  pub is : ScanIs s from to at state

-- no further, or over one byte and on
scan_stays : {s : List ℕ} {i to : ℕ} {q : State} → Scans s i q → i ≤ to → (i < to → Place s i) → Scan s i to
scan_stays S h P = record { at = _; state = _; is = record { reached = S; far = le_refl _; near = h; stop = P } }

scan_on : {s : List ℕ} {i to : ℕ} → Scan s (i + 1) to → Scan s i to
scan_on S = record { at = S.at; state = S.state; is = record { reached = S.is.reached; far = omega (arith, S.is.far); near = S.is.near; stop = S.is.stop } }

-- k bytes are to be scanned
scan_over : (k : ℕ) {s : List ℕ} {i to : ℕ} {q : State} → Scans s i q → i + k ≡ to → Scan s i to
scan_over zero S e = scan_stays S (omega arith) (λ l. absurd (omega arith))
scan_over (suc k) {s} {i} {to} {q} S e =
    elim (dec_le (length s) i) [
      | yes l ↦ scan_stays S (omega arith) (λ _. place_end S l)
      | no l ↦
          let less : i < length s = omega arith in
          ⊎_elim (λ d. scan_stays S (omega arith) (λ _. place_dead S less d)) (λ a. scan_on (scan_over k (scans_turn S less refl a) (omega arith)))
          (dead_or (after q (get_or s i 0)))
    ]

pub scan_exists : {s : List ℕ} {i to : ℕ} {q : State} → Scans s i q → i ≤ to → Scan s i to
scan_exists {i = i} {to = to} S h = scan_over (to - i) S (omega arith)

-- all bytes are scanned
decided : {s : List ℕ} {q : State} → Scans s (length s) q → ((c : Case) × IsCase s c) ⊎ ((k : ℕ) × ((c : Case) → ¬ IsCase s c) × Place s k)
decided {s} {q} S =
    let comes : run Start s ≡ q = ap (run Start) (sym (take-length s)) ∙ S.comes in
    ⊎_elim (λ o. inl (over_case s (comes ∙ o.1))) (λ n. inr (length s, (λ c j. n _ (sym comes ∙ case_over j)), place_end S (le_refl _))) (over_or q)

pub case_or_place : (s : List ℕ) → ((c : Case) × IsCase s c) ⊎ ((k : ℕ) × ((c : Case) → ¬ IsCase s c) × Place s k)
case_or_place s =
    let S = scan_exists {to = length s} (scans_start s) (omega arith) in
    elim (dec_le (length s) S.at) [
      | yes l ↦ decided (scan_to S.is l)
      | no l ↦ let P = S.is.stop (omega arith) in inr (S.at, (λ c i. omega (arith, case_past i P)), P)
    ]
