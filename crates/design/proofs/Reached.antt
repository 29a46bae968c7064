-- What is known of a state of the scan that was reached, and what may come in it.
--   Primed h, Reached q   its p is a prime, an A record may come only where no row has come yet, and entries are below that prime or are halves
--   Grounded q, grounded_run   so it is behind any bytes
--   expects, expected   just the bytes that are expected keep a state alive, but behind E
--   proper_due       and what is expected is proper
-- Assumes nothing.
use mathlib.Core.Path.{◌≡◌, refl, sym, ap, subst, ◌∙◌}
use mathlib.Core.Bool.{Bool, true, false, ◌||◌, cond, true≢false, false≢true, and-eq-true_iff}
use mathlib.Core.Logic.{◌⊎◌, inl, inr, ⊎_elim}
use mathlib.Core.List.{List, [], ◌∷◌}
use Prim.Native.Nat.{ℕ, ◌+◌, ◌-◌, ◌<◌}
use lib.Dec.{leb, ltb, eqb}
use borrow.Author.Tests.{leb-true, ltb-false, eqb-true, eqb-false, le-leb, lt-ltb, le-ltb}
use Rattle.algebra.proofs.Field.{pick_each}
use Rattle.meaning.specs.Bounds.{widest, most_candidates}
use Rattle.meaning.specs.Refusal.{is_prime}
use Rattle.meaning.specs.Case.{radix}
use Rattle.meaning.specs.Design.{Proper, fits, entry_below, allowance, allowance_or_row, word_row, candidate_or_end, text_end}
use Rattle.scan.specs.declared.Head.{Head}
use Rattle.scan.specs.declared.State.{State}
use Rattle.scan.specs.declared.State.TheVariants.{Start, Opening, Modulus, Size, Body, Letter, Entries, Over, Dead}
use Rattle.scan.specs.Machine.{only, begun, stale, opened, sized, letter, entered, after, run}
use Rattle.scan.proofs.Run.{Alive}
use Rattle.spelling.specs.Trace.{is_dead}
use Rattle.design.specs.Expecting.{expected_of}

abbrev pub Primed : Head → Type 0
Primed h = (is_prime h.p ≡ true) × (h.fresh ≡ true → h.count < h.n)

abbrev pub Reached : State → Type 0
Reached Start = Unit {0}
Reached Opening = Unit {0}
Reached Modulus = Unit {0}
Reached (Size p) = is_prime p ≡ true
Reached (Body h) = Primed h
Reached (Letter h) = Primed h
Reached (Entries h bound left) = Primed h × ((bound ≡ radix) ⊎ (is_prime bound ≡ true))
Reached (Over h) = Unit {0}
Reached Dead = Unit {0}

-- the same as a record, so that a state behind tests is read off its type
pub record Grounded (q : State) : Type 0 where
  pub known : Reached q

grounded : (q : State) → Reached q → Grounded q
grounded q g = record { known = g }

only_grounded : (t : Bool) {q : State} → (t ≡ true → Grounded q) → Grounded (only t q)
only_grounded t h = pick_each Grounded t h (λ _. grounded Dead tt)

letter_grounded : (h : Head) (b : ℕ) → Primed h → Grounded (letter h b)
unfolding letter
letter_grounded h b g =
    let o : Grounded (opened h) = grounded (opened h) ((g.0, λ f. absurd (false≢true f)), inr g.0) in
    pick_each Grounded (eqb b 65) (λ _. only_grounded h.fresh (λ _. grounded (Entries (stale h h.count) radix 2) ((g.0, λ f. absurd (false≢true f)), inl refl)))
    (λ _. pick_each Grounded (eqb b 82) (λ _. only_grounded (ltb h.count h.n) (λ _. o))
    (λ _. only_grounded (leb h.n h.count)
    (λ _. pick_each Grounded (eqb b 67) (λ _. only_grounded (ltb h.count (h.n + most_candidates)) (λ _. o))
    (λ _. only_grounded (eqb b 69) (λ _. grounded (Over (stale h h.count)) tt)))))

grounded_after : (q : State) (b : ℕ) → Reached q → Grounded (after q b)
unfolding after sized entered
grounded_after Start b g = only_grounded (eqb b 255) (λ _. grounded Opening tt)
grounded_after Opening b g = only_grounded (eqb b 70) (λ _. grounded Modulus tt)
grounded_after Modulus b g = only_grounded (is_prime b) (λ e. grounded (Size b) e)
grounded_after (Size p) b g =
    only_grounded (leb 1 b) (λ e. only_grounded (leb b widest) (λ _. grounded (Body (begun p b)) (g, λ _. leb-true 1 b e)))
grounded_after (Body h) b g = only_grounded (eqb b 255) (λ _. grounded (Letter h) g)
grounded_after (Letter h) b g = letter_grounded h b g
grounded_after (Entries h bound left) b g =
    only_grounded (ltb b bound) (λ _. pick_each Grounded (leb left 1) (λ _. grounded (Body h) g.0) (λ _. grounded (Entries h bound (left - 1)) g))
grounded_after (Over h) b g = grounded Dead tt
grounded_after Dead b g = grounded Dead tt

grounded_from : (q : State) (t : List ℕ) → Grounded q → Grounded (run q t)
unfolding run
grounded_from q [] g = g
grounded_from q (b ∷ t) g = grounded_from (after q b) t (grounded_after q b g.known)

pub grounded_run : (t : List ℕ) → Grounded (run Start t)
grounded_run t = grounded_from Start t (grounded Start tt)

-- just what is expected keeps a state alive
only-passed : (t : Bool) (q : State) → Alive (only t q) → t ≡ true
only-passed true q a = refl
only-passed false q a = absurd (a refl)

only_keeps : (t : Bool) (q : State) → t ≡ true → Alive q → Alive (only t q)
only_keeps t q e a = subst (λ s. Alive (only s q)) (sym e) a

-- something may come: behind E nothing does
abbrev pub Open : State → Type 0
Open q = Alive q × ((h : Head) → q ≡ Over h → ⊥)

only_inner : (t : Bool) (q : State) → Alive (only t q) → Alive q
only_inner true q a = a
only_inner false q a = absurd (a refl)

alive_from : (q : State) → is_dead q ≡ false → Alive q
unfolding is_dead
alive_from q f e = true≢false (sym (ap is_dead e) ∙ f)

-- the numbers behind a word
entry-fits : (bound b : ℕ) (s : Bool) → eqb bound radix ≡ s → ltb b bound ≡ fits (cond s allowance (entry_below bound)) b
unfolding fits
entry-fits bound b true e = ap (ltb b) (eqb-true bound radix e)
entry-fits bound b false e = refl

either : {P : Type 0} (a b : Bool) → (a ≡ true → P) → (b ≡ true → P) → (a || b) ≡ true → P
either true b f g e = f refl
either false b f g e = g e

-- the words where a line begins: behind A only where none of the other records has come, R up to n of them, then C and E
module _ (h : Head) where
  word_due : {x y z : Bool} → ltb h.count h.n ≡ x → h.fresh ≡ y → ltb h.count (h.n + most_candidates) ≡ z
      → expected_of (Letter h) ≡ cond x (cond y allowance_or_row word_row) (cond z candidate_or_end text_end)
  unfolding expected_of
  word_due e f g = λ i. cond (e i) (cond (f i) allowance_or_row word_row) (cond (g i) candidate_or_end text_end)

  rows_come : leb h.n h.count ≡ true → ltb h.count h.n ≡ false
  rows_come e = le-ltb h.count h.n (leb-true h.n h.count e)

  rows_over : ltb h.count h.n ≡ false → leb h.n h.count ≡ true
  rows_over e = le-leb h.n h.count (ltb-false h.count h.n e)

  letter_expects : (b : ℕ) → Primed h → Alive (letter h b) → fits (expected_of (Letter h)) b ≡ true
  unfolding letter fits
  letter_expects b g a = go (eqb b 65) (eqb b 82) (eqb b 67) h.fresh (ltb h.count (h.n + most_candidates)) refl refl refl refl refl
    where
      go : (r s t y z : Bool) → eqb b 65 ≡ r → eqb b 82 ≡ s → eqb b 67 ≡ t → h.fresh ≡ y → ltb h.count (h.n + most_candidates) ≡ z
          → fits (expected_of (Letter h)) b ≡ true
      go true s t true z e f k u w = rw (word_due (lt-ltb h.count h.n (g.1 u)) u w, e)
      go true s t false z e f k u w = absurd (false≢true (sym u ∙ only-passed h.fresh _ (rw e at a)))
      go false true t true z e f k u w = rw (word_due (only-passed (ltb h.count h.n) _ (rw (e, f) at a)) u w, e, f)
      go false true t false z e f k u w = rw (word_due (only-passed (ltb h.count h.n) _ (rw (e, f) at a)) u w, f)
      go false false true y true e f k u w = rw (word_due (rows_come (only-passed (leb h.n h.count) _ (rw (e, f) at a))) u w, k)
      go false false true y false e f k u w =
          absurd (false≢true (sym w ∙ only-passed _ _ (rw k at (only_inner (leb h.n h.count) _ (rw (e, f) at a)))))
      go false false false y true e f k u w =
          let i = rw (e, f) at a in
          let m = only-passed (eqb b 69) _ (rw k at (only_inner (leb h.n h.count) _ i)) in
          rw (word_due (rows_come (only-passed (leb h.n h.count) _ i)) u w, k, m)
      go false false false y false e f k u w =
          let i = rw (e, f) at a in
          let m = only-passed (eqb b 69) _ (rw k at (only_inner (leb h.n h.count) _ i)) in
          rw (word_due (rows_come (only-passed (leb h.n h.count) _ i)) u w, m)

  -- each letter where it may come
  at_A : h.fresh ≡ true → Alive (letter h 65)
  unfolding letter is_dead
  at_A f = only_keeps h.fresh _ f (alive_from (Entries (stale h h.count) radix 2) refl)

  at_R : ltb h.count h.n ≡ true → Alive (letter h 82)
  unfolding letter is_dead
  at_R e = only_keeps (ltb h.count h.n) _ e (alive_from (opened h) refl)

  at_C : leb h.n h.count ≡ true → ltb h.count (h.n + most_candidates) ≡ true → Alive (letter h 67)
  unfolding letter is_dead
  at_C e f = only_keeps (leb h.n h.count) _ e (only_keeps (ltb h.count (h.n + most_candidates)) _ f (alive_from (opened h) refl))

  at_E : leb h.n h.count ≡ true → Alive (letter h 69)
  unfolding letter is_dead
  at_E e = only_keeps (leb h.n h.count) _ e (alive_from (Over (stale h h.count)) refl)

  at_letter : (b k : ℕ) → eqb b k ≡ true → Alive (letter h k) → Alive (letter h b)
  at_letter b k e a = subst (λ c. Alive (letter h c)) (sym (eqb-true b k e)) a

  letter_expected : (b : ℕ) → fits (expected_of (Letter h)) b ≡ true → Alive (letter h b)
  unfolding fits
  letter_expected b e = go (ltb h.count h.n) h.fresh (ltb h.count (h.n + most_candidates)) refl refl refl
    where
      go : (x y z : Bool) → ltb h.count h.n ≡ x → h.fresh ≡ y → ltb h.count (h.n + most_candidates) ≡ z → Alive (letter h b)
      go true true z i j k =
          either (eqb b 65) (eqb b 82) (λ m. at_letter b 65 m (at_A j)) (λ m. at_letter b 82 m (at_R i)) (rw (word_due i j k) at e)
      go true false z i j k = at_letter b 82 (rw (word_due i j k) at e) (at_R i)
      go false y true i j k =
          let l = rows_over i in
          either (eqb b 67) (eqb b 69) (λ m. at_letter b 67 m (at_C l k)) (λ m. at_letter b 69 m (at_E l)) (rw (word_due i j k) at e)
      go false y false i j k = at_letter b 69 (rw (word_due i j k) at e) (at_E (rows_over i))

pub expects : (q : State) (b : ℕ) → Reached q → Open q → Alive (after q b) → fits (expected_of q) b ≡ true
unfolding after sized entered expected_of fits
expects Start b g o a = only-passed (eqb b 255) Opening a
expects Opening b g o a = only-passed (eqb b 70) Modulus a
expects Modulus b g o a = only-passed (is_prime b) (Size b) a
expects (Size p) b g o a =
    let i = only_inner (leb 1 b) _ a in
    (and-eq-true_iff (leb 1 b) (leb b widest)).1 (only-passed (leb 1 b) _ a, only-passed (leb b widest) _ i)
expects (Body h) b g o a = only-passed (eqb b 255) (Letter h) a
expects (Letter h) b g o a = letter_expects h b g a
expects (Entries h bound left) b g o a = sym (entry-fits bound b (eqb bound radix) refl) ∙ only-passed (ltb b bound) _ a
expects (Over h) b g o a = absurd (o.1 h refl)
expects Dead b g o a = absurd (a refl)

pub expected : (q : State) (b : ℕ) → Reached q → Open q → fits (expected_of q) b ≡ true → Alive (after q b)
unfolding after sized entered expected_of fits is_dead
expected Start b g o e = only_keeps (eqb b 255) Opening e (alive_from Opening refl)
expected Opening b g o e = only_keeps (eqb b 70) Modulus e (alive_from Modulus refl)
expected Modulus b g o e = only_keeps (is_prime b) (Size b) e (alive_from (Size b) refl)
expected (Size p) b g o e =
    let (x, y) = (and-eq-true_iff (leb 1 b) (leb b widest)).0 e in
    only_keeps (leb 1 b) _ x (only_keeps (leb b widest) (Body (begun p b)) y (alive_from (Body (begun p b)) refl))
expected (Body h) b g o e = only_keeps (eqb b 255) (Letter h) e (alive_from (Letter h) refl)
expected (Letter h) b g o e = letter_expected h b e
expected (Entries h bound left) b g o e =
    only_keeps (ltb b bound) _ (entry-fits bound b (eqb bound radix) refl ∙ e)
    (pick_each Alive (leb left 1) (λ _. alive_from (Body h) refl) (λ _. alive_from (Entries h bound (left - 1)) refl))
expected (Over h) b g o e = absurd (o.1 h refl)
expected Dead b g o e = absurd (o.0 refl)

-- what is expected is proper
pub proper_due : (q : State) → Reached q → Proper (expected_of q)
unfolding expected_of
proper_due Start g = tt
proper_due Opening g = tt
proper_due Modulus g = tt
proper_due (Size p) g = tt
proper_due (Body h) g = tt
proper_due (Letter h) g = go (ltb h.count h.n) h.fresh (ltb h.count (h.n + most_candidates))
  where
    go : (x y z : Bool) → Proper (cond x (cond y allowance_or_row word_row) (cond z candidate_or_end text_end))
    go true true z = tt
    go true false z = tt
    go false y true = tt
    go false y false = tt
proper_due (Entries h bound left) g = go (eqb bound radix) refl
  where
    go : (x : Bool) → eqb bound radix ≡ x → Proper (cond x allowance (entry_below bound))
    go true e = tt
    go false e = ⊎_elim (λ r. absurd (eqb-false bound radix e r)) (λ p. p) g.1
proper_due (Over h) g = tt
proper_due Dead g = tt
