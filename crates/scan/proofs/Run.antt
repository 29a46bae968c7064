-- The machine that goes over the bytes: runs one after another, what a test lets through, and that a viable state is followed by a viable one or by Dead.
--   Alive q          q is not Dead
--   run_append, run_dead, run_alive   a run over two lists; from Dead; what is alive behind more bytes was alive before them
--   only_alive       what is alive behind a test has passed it
--   viable_alive, viable_after   a viable state is alive, and so is what follows it unless it is Dead
--   entries_run, entries_small   as many entries as are to come, each below the bound, lead behind the record, and nothing else does
-- Assumes nothing.
use mathlib.Core.Path.{◌≡◌, refl, ap, subst, ◌∙◌}
use mathlib.Core.Bool.{Bool, true, false}
use mathlib.Core.List.{List, [], ◌∷◌, ◌++◌}
use Prim.Native.Nat.{ℕ, ◌+◌, ◌-◌, ◌<◌, ◌≤◌}
use native.Mathlib.Omega.{arith}
use lib.ListN.{length}
use lib.Dec.{leb, ltb, eqb, lit<, lit≤}
use borrow.Author.Tests.{leb-true, leb-false, ltb-true, lt-ltb, le-leb, lt-leb}
use Rattle.meaning.specs.Bytes.{Small}
use Rattle.meaning.specs.Bounds.{most_candidates, widest}
use Rattle.meaning.specs.Refusal.{is_prime}
use Rattle.meaning.proofs.Refusal.{prime_positive}
use Rattle.scan.specs.declared.Head.{Head}
use Rattle.scan.specs.declared.State.{State}
use Rattle.scan.specs.declared.State.TheVariants.{Start, Opening, Modulus, Size, Body, Letter, Entries, Over, Dead}
use Rattle.algebra.proofs.Field.{pick_each}
use Rattle.scan.specs.Machine.{only, opened, sized, letter, entered, after, run, Ranged, Viable}

abbrev pub Alive : State → Type 0
Alive q = q ≡ Dead → ⊥

pub viable_alive : {q : State} → Viable q → Alive q
viable_alive g e = subst Viable e g

pub run_append : (q : State) (t u : List ℕ) → run q (t ++ u) ≡ run (run q t) u
unfolding run
run_append q [] u = refl
run_append q (b ∷ t) u = run_append (after q b) t u

pub run_dead : (t : List ℕ) → run Dead t ≡ Dead
unfolding run after
run_dead [] = refl
run_dead (b ∷ t) = run_dead t

-- what is alive behind more bytes was alive before them
pub run_alive : (q : State) (t : List ℕ) → Alive (run q t) → Alive q
run_alive q t h e = h (ap (λ x. run x t) e ∙ run_dead t)

-- what is alive behind a test has passed it
pub only_alive : (t : Bool) (q : State) (l : List ℕ) → Alive (run (only t q) l) → (t ≡ true) × Alive (run q l)
only_alive true q l h = (refl, h)
only_alive false q l h = absurd (h (run_dead l))

-- a state that is viable unless it is Dead
abbrev Sane : State → Type 0
Sane q = Alive q → Viable q

only_sane : (t : Bool) {q : State} → (t ≡ true → Sane q) → Sane (only t q)
only_sane t h = pick_each Sane t h (λ _ d. absurd (d refl))

letter_sane : (h : Head) (b : ℕ) → Ranged h → Sane (letter h b)
unfolding letter
letter_sane h b g =
    let o : Sane (opened h) = λ _. (g, g) in
    pick_each Sane (eqb b 65) (λ _. only_sane h.fresh (λ _ _. (g, (lit< tt, lit≤ tt))))
    (λ _. pick_each Sane (eqb b 82) (λ _. only_sane (ltb h.count h.n) (λ _. o))
    (λ _. only_sane (leb h.n h.count)
    (λ _. pick_each Sane (eqb b 67) (λ _. only_sane (ltb h.count (h.n + most_candidates)) (λ _. o)) (λ _. only_sane (eqb b 69) (λ _ _. tt)))))

entered_sane : (h : Head) (bound left b : ℕ) → Ranged h → Sane (entered h bound left b)
unfolding entered
entered_sane h bound left b g =
    only_sane (ltb b bound)
    (λ e. pick_each Sane (leb left 1) (λ _ _. g) (λ f _. (g, (omega (arith, ltb-true b bound e), omega (arith, leb-false left 1 f)))))

pub viable_after : (q : State) (b : ℕ) → Viable q → Alive (after q b) → Viable (after q b)
unfolding after sized
viable_after Start b g = only_sane (eqb b 255) (λ _ _. tt)
viable_after Opening b g = only_sane (eqb b 70) (λ _ _. tt)
viable_after Modulus b g = only_sane (is_prime b) (λ e _. e)
viable_after (Size p) b g = only_sane (leb 1 b) (λ e. only_sane (leb b widest) (λ _ _. (prime_positive p g, leb-true 1 b e)))
viable_after (Body h) b g = only_sane (eqb b 255) (λ _ _. g)
viable_after (Letter h) b g = letter_sane h b g
viable_after (Entries h bound left) b g = entered_sane h bound left b g.0
viable_after (Over h) b g = λ d. absurd (d refl)
viable_after Dead b g = absurd g

-- entries: a list of as many as are still to come, each below the bound, leads behind the record
entered_last : (h : Head) (bound left b : ℕ) → b < bound → left ≤ 1 → entered h bound left b ≡ Body h
unfolding entered
entered_last h bound left b i k = rw (lt-ltb b bound i, le-leb left 1 k)

entered_more : (h : Head) (bound left b : ℕ) → b < bound → 1 < left → entered h bound left b ≡ Entries h bound (left - 1)
unfolding entered
entered_more h bound left b i k = rw (lt-ltb b bound i, lt-leb left 1 k)

pub entries_run : (h : Head) (bound left : ℕ) (l t : List ℕ) → 1 ≤ left → length l ≡ left → Small bound l
    → run (Entries h bound left) (l ++ t) ≡ run (Body h) t
unfolding run after
entries_run h bound left [] t i e s = absurd (omega arith)
entries_run h bound left (x ∷ []) t i e s = ap (λ q. run q t) (entered_last h bound left x s.0 (omega arith))
entries_run h bound left (x ∷ y ∷ l) t i e s =
    ap (λ q. run q (y ∷ l ++ t)) (entered_more h bound left x s.0 (omega arith))
    ∙ entries_run h bound (left - 1) (y ∷ l) t (omega arith) (omega arith) s.1

-- and nothing else does
entered_below : (h : Head) (bound left b : ℕ) (l : List ℕ) → Alive (run (entered h bound left b) l) → b < bound
unfolding entered
entered_below h bound left b l a = ltb-true b bound (only_alive (ltb b bound) _ l a).0

pub entries_small : (h : Head) (bound left : ℕ) (l : List ℕ) → length l ≡ left → Alive (run (Entries h bound left) l) → Small bound l
unfolding run after
entries_small h bound left [] e a = tt
entries_small h bound left (x ∷ []) e a = (entered_below h bound left x [] a, tt)
entries_small h bound left (x ∷ y ∷ l) e a =
    let b = entered_below h bound left x (y ∷ l) a in
    let i : Alive (run (Entries h bound (left - 1)) (y ∷ l)) = subst (λ q. Alive (run q (y ∷ l))) (entered_more h bound left x b (omega arith)) a in
    (b, entries_small h bound (left - 1) (y ∷ l) (omega arith) i)
