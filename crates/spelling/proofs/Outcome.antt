-- What going over bytes comes to: they all begin a case, and are in the buffer; or there is a first one that does not, and its spot was kept.
--   bytes_of xs      the bytes of xs, without their spots
--   Held bs o x     bs begin a case, and x holds them, behind a start with the buffer o
--   Lost xs x       one of xs begins no case, and x has its spot
--   Comes o xs x    the one or the other
--   steps_come      so it comes
--   steps_append    bytes one after another
-- Assumes nothing.
use mathlib.Core.Path.{◌≡◌, refl, sym, ap, ap₂, subst, ◌∙◌}
use mathlib.Core.Bool.{true}
use mathlib.Core.Logic.{◌⊎◌, inl, inr, ⊎_elim}
use mathlib.Core.List.{List, [], ◌∷◌, ◌++◌, map, map-append, append_assoc, append-nil}
use Rattle.std.specs.Prelude.{None, Some, is_some}
use Prim.Native.Nat.{ℕ, suc, ◌+◌, ◌<◌, ◌≤◌}
use native.Mathlib.Numerals.{add-one}
use native.Mathlib.Omega.{arith}
use lib.ListN.{length, get_or, set, take, drop, length-append, length-drop, length-map}
use lib.Seq.{take_at, get_or_at, set_split, take-append_seam, drop-append-add, drop-drop}
use Rattle.meaning.specs.Bytes.{write}
use Rattle.meaning.specs.Case.{longest_case}
use Rattle.meaning.specs.Design.{Said, said, spot_at, no_byte}
use Rattle.meaning.proofs.Written.{write_size}
use Rattle.meaning.proofs.LongFile.{begins_short}
use Rattle.scan.specs.declared.State.{State}
use Rattle.scan.specs.declared.State.TheVariants.{Start, Dead}
use Rattle.scan.specs.Machine.{after, run, Viable, Scans}
use Rattle.scan.proofs.Run.{Alive, run_append, viable_after}
use Rattle.scan.proofs.Place.{viable_begins}
use Rattle.scan.proofs.Decide.{dead_or}
use Rattle.spelling.specs.declared.Spot.{Spot as CodeSpot}
use Rattle.spelling.specs.Trace.{spot_of, Tracing, step, steps, started}
use Rattle.spelling.proofs.Steps.{step_stays, step-lost, step-held}

abbrev pub bytes_of : List Said → List ℕ
bytes_of xs = map (λ (x : Said). x.byte) xs

pub record Held (bs o : List ℕ) (x : Tracing) : Type 0 where
  pub calm : x.0.wrong ≡ None
  pub comes : run Start bs ≡ x.0.state
  pub viable : Viable x.0.state
  pub counted : x.0.count ≡ length bs
  pub buffer : x.1 ≡ write bs o

pub record Lost (xs : List Said) (x : Tracing) : Type 0 where
  pub spot : CodeSpot
  pub told : x.0.wrong ≡ Some spot
  pub offset : ℕ
  pub within : offset < length xs
  pub scans : Scans (bytes_of xs) offset x.0.state
  pub dead : after x.0.state (get_or (bytes_of xs) offset 0) ≡ Dead
  pub there : (get_or xs offset (said (spot_at 0 0) no_byte)).spot ≡ spot_of spot

abbrev pub Comes : List ℕ → List Said → Tracing → Type 0
Comes o xs x = Held (bytes_of xs) o x ⊎ Lost xs x

pub held_start : (o : List ℕ) → Held [] o (started, o)
unfolding run write
held_start o = record { calm = refl; comes = refl; viable = tt; counted = refl; buffer = refl }

-- one byte more in the buffer
write_more : (bs o : List ℕ) (b : ℕ) → length bs < length o → set (write bs o) (length bs) b ≡ write (bs ++ b ∷ []) o
unfolding write
write_more bs o b h =
    let rest : List ℕ = drop (length bs) o in
    let k : length (bs ++ rest) ≡ length o = length-append bs rest ∙ (omega (arith, length-drop (length bs) o)) in
    let sum : suc (length bs) ≡ length bs + 1 = sym (add-one (length bs)) in
    let back : drop (suc (length bs)) (bs ++ rest) ≡ drop (length (bs ++ b ∷ [])) o =
    ap (λ j. drop j (bs ++ rest)) sum ∙ drop-append-add bs rest 1 ∙ drop-drop 1 (length bs) o ∙ ap (λ j. drop j o) (sym (length-append bs (b ∷ []))) in
    set_split (bs ++ rest) (length bs) b (omega (arith, k))
    ∙ ap₂ (λ f t. f ++ b ∷ t) (take-append_seam bs rest) back ∙ sym (append_assoc bs (b ∷ []) _)

steps_stay : (x : Tracing) (xs : List Said) → is_some x.0.wrong ≡ true → steps x xs ≡ x
unfolding steps
steps_stay x [] e = refl
steps_stay x (y ∷ ys) e = ap (λ z. steps z ys) (sym (step_stays x.0 x.1 y e)) ∙ steps_stay x ys e

pub steps_append : (x : Tracing) (xs ys : List Said) → steps x (xs ++ ys) ≡ steps (steps x xs) ys
unfolding steps
steps_append x [] ys = refl
steps_append x (y ∷ xs) ys = steps_append (step x y) xs ys

held-lost : {o : List ℕ} {x : Tracing} (xs ys : List Said) (y : Said) → Held (bytes_of xs) o x → after x.0.state y.byte ≡ Dead
    → Lost (xs ++ y ∷ ys) (step x y)
held-lost {o} {x} xs ys y H d =
    let t = x.0 in
    let e : bytes_of (xs ++ y ∷ ys) ≡ bytes_of xs ++ y.byte ∷ bytes_of ys = map-append (λ (z : Said). z.byte) xs (y ∷ ys) in
    let k = length-map xs (λ (z : Said). z.byte) in
    let long = length-append xs (y ∷ ys) in
    subst (Lost (xs ++ y ∷ ys)) (step-lost t x.1 y.spot y.byte (ap is_some H.calm) refl d) (record {
      spot = record { line = y.spot.line; cell = y.spot.cell };
      told = refl;
      offset = length xs;
      within = omega (arith, long);
      scans = record {
        within = omega (arith, length-map (xs ++ y ∷ ys) (λ (z : Said). z.byte), long);
        comes = ap (λ l. run Start (take (length xs) l)) e ∙ ap (run Start) (take_at (bytes_of xs) _ (length xs) k) ∙ H.comes;
        viable = H.viable;
      };
      dead = ap (λ l. after t.state (get_or l (length xs) 0)) e ∙ ap (after t.state) (get_or_at (bytes_of xs) y.byte (bytes_of ys) 0 (length xs) k) ∙ d;
      there = ap (λ (z : Said). z.spot) (get_or_at xs y ys (said (spot_at 0 0) no_byte) (length xs) refl);
    })

held_turn : {o : List ℕ} {x : Tracing} (xs : List Said) (y : Said) → longest_case ≤ length o → Held (bytes_of xs) o x → Alive (after x.0.state y.byte)
    → Held (bytes_of (xs ++ y ∷ [])) o (step x y)
unfolding run
held_turn {o} {x} xs y l H a =
    let t = x.0 in
    let e : bytes_of (xs ++ y ∷ []) ≡ bytes_of xs ++ y.byte ∷ [] = map-append (λ (z : Said). z.byte) xs (y ∷ []) in
    let q : State = after t.state y.byte in
    let comes : run Start (bytes_of xs ++ y.byte ∷ []) ≡ q = run_append Start (bytes_of xs) (y.byte ∷ []) ∙ ap (λ z. after z y.byte) H.comes in
    let viable = viable_after t.state y.byte H.viable a in
    let more : List ℕ = bytes_of xs ++ y.byte ∷ [] in
    let short = begins_short more (viable_begins more (subst Viable (sym comes) viable)) in
    let long = length-append (bytes_of xs) (y.byte ∷ []) in
    let room : length (bytes_of xs) < length o = omega (arith, short, long) in
    let size = ap length H.buffer ∙ write_size (bytes_of xs) o (omega (arith, room)) in
    subst (Held (bytes_of (xs ++ y ∷ [])) o) (step-held t x.1 y.spot y.byte (ap is_some H.calm) refl a (omega (arith, H.counted, room, size))) (record {
      calm = H.calm;
      comes = ap (run Start) e ∙ comes;
      viable = viable;
      counted = omega (arith, H.counted, ap length e, long);
      buffer = ap₂ (λ u k. set u k y.byte) H.buffer H.counted ∙ write_more (bytes_of xs) o y.byte room ∙ ap (λ l. write l o) (sym e);
    })

pub steps_come : {o : List ℕ} (x : Tracing) (xs ys : List Said) → longest_case ≤ length o → Held (bytes_of xs) o x → Comes o (xs ++ ys) (steps x ys)
unfolding steps run
steps_come {o} x xs [] l H = inl (subst (λ zs. Held (bytes_of zs) o x) (sym (append-nil xs)) H)
steps_come {o} x xs (y ∷ ys) l H =
    ⊎_elim
    (λ d. inr (subst (Lost (xs ++ y ∷ ys)) (sym (steps_stay (step x y) ys (ap is_some (held-lost xs ys y H d).told))) (held-lost xs ys y H d)))
    (λ a. subst (λ zs. Comes o zs (steps (step x y) ys)) (append_assoc xs (y ∷ []) ys) (steps_come (step x y) (xs ++ y ∷ []) ys l (held_turn xs y l H a)))
    (dead_or (after x.0.state y.byte))
