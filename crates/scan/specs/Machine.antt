-- How the code goes over a case file: a machine on bytes, whose state is what the rest of the file depends on. Nobody need believe it: proofs/ shows that
-- it finds what 01 asks for.
--   only t q         the state q where the test t passes, else Dead
--   begun p n        what is kept right behind F
--   stale h m        what is kept behind another record, at the count m: no A may come any more
--   opened h         the state behind the letter of an R or a C record
--   sized, letter, entered   the state behind n, behind a letter, behind an entry
--   after q b        the state behind one more byte
--   run q t          the state behind the bytes t
--   Ranged h         p and n are above 0
--   Viable q         q can be continued: it is not Dead, and its p, n, bound and number of entries to come are above 0
--   Scans s i q      a scan of the first i bytes of s leads to the viable state q
--   ScanIs s from to at q   a scan from `from` on got to `at` in the state q: to `to`, or as far as s begins a case
-- Assumes nothing.
use Rattle.std.specs.Prelude.{◌≡◌, Bool, true, false, List, [], ◌∷◌, ℕ, ◌+◌, ◌-◌, ◌<◌, ◌≤◌, length, take, leb, ltb, eqb}
use Rattle.algebra.specs.Field.{pick}
use Rattle.meaning.specs.Refusal.{is_prime}
use Rattle.meaning.specs.Case.{Place, radix}
use Rattle.meaning.specs.Bounds.{most_candidates, widest}
use Rattle.scan.specs.declared.Head.{Head}
use Rattle.scan.specs.declared.State.{State}
use Rattle.scan.specs.declared.State.TheVariants.{Start, Opening, Modulus, Size, Body, Letter, Entries, Over, Dead}

abbrev pub only : Bool → State → State
only t q = pick t q Dead

abbrev pub begun : ℕ → ℕ → Head
begun p n = record { p = p; n = n; count = 0; fresh = true }

abbrev pub stale : Head → ℕ → Head
stale h m = record { p = h.p; n = h.n; count = m; fresh = false }

abbrev pub opened : Head → State
opened h = Entries (stale h (h.count + 1)) h.p h.n

unfoldable pub sized : ℕ → ℕ → State
sized p n = only (leb 1 n) (only (leb n widest) (Body (begun p n)))

unfoldable pub letter : Head → ℕ → State
letter h b =
    pick (eqb b 65) (only h.fresh (Entries (stale h h.count) radix 2))
    (pick (eqb b 82) (only (ltb h.count h.n) (opened h))
    (only (leb h.n h.count)
    (pick (eqb b 67) (only (ltb h.count (h.n + most_candidates)) (opened h))
    (only (eqb b 69) (Over (stale h h.count))))))

unfoldable pub entered : Head → ℕ → ℕ → ℕ → State
entered h bound left b = only (ltb b bound) (pick (leb left 1) (Body h) (Entries h bound (left - 1)))

unfoldable pub after : State → ℕ → State
after Start b = only (eqb b 255) Opening
after Opening b = only (eqb b 70) Modulus
after Modulus b = only (is_prime b) (Size b)
after (Size p) b = sized p b
after (Body h) b = only (eqb b 255) (Letter h)
after (Letter h) b = letter h b
after (Entries h bound left) b = entered h bound left b
after (Over h) b = Dead
after Dead b = Dead

unfoldable pub run : State → List ℕ → State
run q [] = q
run q (b ∷ t) = run (after q b) t

abbrev pub Ranged : Head → Type 0
Ranged h = (0 < h.p) × (1 ≤ h.n)

abbrev pub Viable : State → Type 0
Viable Start = Unit {0}
Viable Opening = Unit {0}
Viable Modulus = Unit {0}
Viable (Size p) = is_prime p ≡ true
Viable (Body h) = Ranged h
Viable (Letter h) = Ranged h
Viable (Entries h bound left) = Ranged h × ((0 < bound) × (1 ≤ left))
Viable (Over h) = Unit {0}
Viable Dead = ⊥

pub record Scans (s : List ℕ) (i : ℕ) (q : State) : Type 0 where
  pub within : i ≤ length s
  pub comes : run Start (take i s) ≡ q
  pub viable : Viable q

pub record ScanIs (s : List ℕ) (from to at : ℕ) (q : State) : Type 0 where
  pub reached : Scans s at q
  pub far : from ≤ at
  pub near : at ≤ to
  pub stop : at < to → Place s at
