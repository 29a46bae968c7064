-- One byte more, as the code tests it.
--   step_stays     behind a wrong byte nothing changes
--   step-lost      a byte that begins no case
--   step-held, step_full   one that begins a case, with room for it and without
-- Assumes nothing.
use mathlib.Core.Path.{◌≡◌, refl, sym, ap, ◌∙◌}
use mathlib.Core.Bool.{true, false}
use mathlib.Core.List.{List}
use Rattle.std.specs.Prelude.{is_some}
use Prim.Native.Nat.{ℕ, ◌+◌, ◌<◌, ◌≤◌}
use lib.ListN.{length, set}
use borrow.Author.Tests.{lt-ltb, le-ltb}
use Rattle.meaning.specs.Design.{Spot, Said, said}
use Rattle.scan.specs.declared.State.{State}
use Rattle.scan.specs.declared.State.TheVariants.{Start, Opening, Modulus, Size, Body, Letter, Entries, Over, Dead}
use Rattle.scan.specs.Machine.{after}
use Rattle.spelling.specs.declared.Trace.{Trace}
use Rattle.spelling.specs.Trace.{is_dead, kept, lost, step}

dead_is : {q : State} → q ≡ Dead → is_dead q ≡ true
unfolding is_dead
dead_is e = ap is_dead e

alive_is : (q : State) → (q ≡ Dead → ⊥) → is_dead q ≡ false
unfolding is_dead
alive_is Start a = refl
alive_is Opening a = refl
alive_is Modulus a = refl
alive_is (Size p) a = refl
alive_is (Body h) a = refl
alive_is (Letter h) a = refl
alive_is (Entries h bound left) a = refl
alive_is (Over h) a = refl
alive_is Dead a = absurd (a refl)

pub step_stays : (t : Trace) (o : List ℕ) (x : Said) → is_some t.wrong ≡ true → (t, o) ≡ step (t, o) x
unfolding step
step_stays t o x e = rw e

pub step-lost : (t : Trace) (o : List ℕ) (p : Spot) (b : ℕ) {q : State} → is_some t.wrong ≡ false → q ≡ after t.state b → q ≡ Dead
    → (lost t p, o) ≡ step (t, o) (said p b)
unfolding step
step-lost t o p b e f d = rw (e, dead_is (sym f ∙ d))

pub step-held : (t : Trace) (o : List ℕ) (p : Spot) (b : ℕ) {q : State} → is_some t.wrong ≡ false → q ≡ after t.state b → (q ≡ Dead → ⊥)
    → t.count < length o → (kept t q (t.count + 1), set o t.count b) ≡ step (t, o) (said p b)
unfolding step
step-held t o p b e f a h = rw (e, alive_is (after t.state b) (λ d. a (f ∙ d)), lt-ltb t.count (length o) h, f)

pub step_full : (t : Trace) (o : List ℕ) (p : Spot) (b : ℕ) {q : State} → is_some t.wrong ≡ false → q ≡ after t.state b → (q ≡ Dead → ⊥)
    → length o ≤ t.count → (kept t q t.count, o) ≡ step (t, o) (said p b)
unfolding step
step_full t o p b e f a h = rw (e, alive_is (after t.state b) (λ d. a (f ∙ d)), le-ltb t.count (length o) h, f)
