-- Demands 2 and 3 of the call's answers and buffers: for any answers that the contract of the stand permits.
--   Answered ..        what an answer says: the input is within the bounds, and the stand is that of the polynomial in the buffer
--   answer_room, answer_stand   an answered call: buffers long enough, the stand of the polynomial in them
--   answer_minimal, answer_short              demand 2
--   answer_more, answer_reordered             demand 3, its first two sentences
--   calls_bounded, calls_again, calls_few     what is known of each run of calls
--   call_join          a run, and one from its last call on, are one run
--   calls_end          demand 3, its last sentence: a run ends in proved within n − d additions, and every run does
-- Assumes nothing.
use mathlib.Core.Path.{◌≡◌, refl, sym, ap, subst, ◌∙◌}
use mathlib.Core.List.{List, ◌++◌, Perm}
use Prim.Native.Nat.{ℕ, zero, suc, ◌+◌, ◌-◌, ◌≤◌, suc-le-suc}
use native.Mathlib.Nat.{le_refl}
use native.Mathlib.Numerals.{unary_clauses}
use native.Mathlib.Omega.{arith}
use lib.ListN.{length, take}
use Rattle.algebra.specs.Poly.{coef, act, ◌∣◌}
use Rattle.algebra.specs.Orders.{KillsEvery}
use Rattle.algebra.proofs.Row.{below_more}
use Rattle.meaning.specs.Bytes.{row, times, byte_rows, rows, e, bytes}
use Rattle.meaning.specs.Bounds.{Sound, SoundRows}
use Rattle.meaning.specs.Polynomial.{IsMinimal}
use Rattle.meaning.specs.Stand.{Standing, proved, short, Outcome, IsStand, witness_row, FirstUnsent}
use Rattle.meaning.specs.Calls.{Answer, given, StandCall}
use Rattle.meaning.proofs.Bytes.{row_bytes, poly_of-coef}
use Rattle.meaning.proofs.Refusal.{stand_sound, sound_stand}
use Rattle.meaning.proofs.Standing.{stand_resp}
use Rattle.meaning.proofs.Written.{written_front}
use Rattle.meaning.proofs.Unique.{witness_only}
use Rattle.meaning.proofs.Degrees.{stand_degree}
use Rattle.promises.specs.Run.{stand_of}
use Rattle.promises.specs.Additions.{FromBounds, added, Run, start, more, AfterAdditions}
use Rattle.promises.specs.CallRun.{Buffers, shown, LongEnough, CallRun, first, again, EndsProved, CallsEnd}
use Rattle.meaning.proofs.Called.{called_given}
use Rattle.promises.proofs.Calls.{stand_exists}
use Rattle.promises.proofs.Demand2.{proved_minimal, minimal_proved, short_witness}
use Rattle.promises.proofs.Demand3.{more_divides, more_keeps, reordered, additions_bounded, run-next}

record Answered (p n : ℕ) (m cs : List ℕ) (a : ℕ) (r : Outcome) (new : Buffers) : Type 0 where
  sound : Sound p n m
  list : SoundRows p n cs
  stand : IsStand p n m cs a r (shown p n new)
  polynomial : take (suc n) new.0 ≡ bytes (suc n) (coef (shown p n new))
  image : take n new.1 ≡ bytes n (witness_row (times p n m) (shown p n new) r.standing r.witness)

answered : {p n : ℕ} {m cs : List ℕ} {a : ℕ} {old new : Buffers} {r : Outcome} → StandCall p n m cs a old (given r) new → Answered p n m cs a r new
answered {p} {n} {m} {cs} {a} {old} {new} {r} A =
    let (q, R) = called_given A in
    let K = stand_sound p n m cs old.0 old.1 q in
    let f = R.poly in
    let w = (written_front (suc n) (suc n) (coef f) old.0 (le_refl _) R.polynomial).0 in
    let d = stand_degree K.0.prime n m cs a r f R.stand in
    let c = sym (poly_of-coef p _ ∙ ap (row p) w ∙ row_bytes (suc n) (coef f) (below_more (suc-le-suc d) R.stand.common.monic.above)) in
    record {
      sound = K.0;
      list = K.1;
      stand = stand_resp f (shown p n new) c R.stand;
      polynomial = w ∙ ap (bytes (suc n)) c;
      image = (written_front n n _ old.1 (le_refl _) R.witness).0 ∙ ap (bytes n) (witness_only (times p n m) f (shown p n new) c r.standing r.witness);
    }

-- of one answered call
module _ {p n : ℕ} {m cs : List ℕ} {a : ℕ} {old new : Buffers} {r : Outcome} (A : StandCall p n m cs a old (given r) new) where
  -- the buffers are long enough, and the polynomial in the buffer is the stand's
  pub answer_room : LongEnough n old
  answer_room =
      let K = stand_sound p n m cs old.0 old.1 (called_given A).0 in
      (K.2, K.3)

  pub answer_stand : IsStand p n m cs a r (shown p n new)
  answer_stand = (answered A).stand

  -- demand 2: proved exactly when the polynomial in the buffer is the minimal polynomial
  pub answer_minimal : (r.standing ≡ proved → IsMinimal p n m r.degree (shown p n new)) × (KillsEvery n (times p n m) (shown p n new) → r.standing ≡ proved)
  answer_minimal = (proved_minimal answer_stand, minimal_proved answer_stand)

  -- else short, with the first unit row that it does not send to zero, and that row's image in the witness buffer
  pub answer_short : r.standing ≡ short
      → FirstUnsent (times p n m) n (shown p n new) r.witness × (take n new.1 ≡ bytes n (act (times p n m) (shown p n new) (e r.witness)))
  answer_short q = (short_witness answer_stand q, rw q at (answered A).image)

-- demand 3, first sentence: more rows behind, a larger allowance, or both
pub answer_more : {p n : ℕ} {m cs : List ℕ} {a b : ℕ} {old new old' new' : Buffers} {r s : Outcome} (ds : List ℕ) → a ≤ b
    → StandCall p n m cs a old (given r) new → StandCall p n m (cs ++ ds) b old' (given s) new'
    → (shown p n new ∣ shown p n new') × (r.standing ≡ proved → (s.standing ≡ proved) × (r.degree ≡ s.degree) × (take (suc n) new.0 ≡ take (suc n) new'.0))
answer_more {n} ds le A B =
    let C = answered A in
    let D = answered B in
    let P = C.sound.prime in
    let z = C.sound.some_size in (
      more_divides ds P z C.list.whole le C.stand D.stand,
      λ q. let k = more_keeps ds P z C.list.whole le C.stand D.stand q in
          (k.0, k.1, C.polynomial ∙ ap (bytes (suc n)) k.2 ∙ sym D.polynomial),
    )

-- second sentence: another sequence of the rows, where all are taken
pub answer_reordered : {p n : ℕ} {m cs ds : List ℕ} {a : ℕ} {old new old' new' : Buffers} {r s : Outcome} → Perm (byte_rows n cs) (byte_rows n ds)
    → StandCall p n m cs a old (given r) new → StandCall p n m ds a old' (given s) new' → r.taken ≡ length (rows p n cs)
    → (s ≡ r) × (take (suc n) new'.0 ≡ take (suc n) new.0) × (take n new'.1 ≡ take n new.1) × (s.taken ≡ length (rows p n ds))
answer_reordered {p} {n} {m} {new = new} {new' = new'} {s = s} π A B h =
    let C = answered A in
    let D = answered B in
    let X = times p n m in
    let f = shown p n new in
    let g = shown p n new' in
    let (same, c, all) = reordered C.sound.prime π C.stand D.stand h in
    let w = witness_only X g f c s.standing s.witness ∙ ap (λ (o : Outcome). witness_row X f o.standing o.witness) same in
    (same, D.polynomial ∙ ap (bytes (suc n)) c ∙ sym C.polynomial, D.image ∙ ap (bytes n) w ∙ sym C.image, all)

-- third sentence: a run of calls is a run
call_run : {p n : ℕ} {m cs : List ℕ} {a : ℕ} {r : Outcome} {k : ℕ} {ds : List ℕ} {s : Outcome} → CallRun p n m a cs r k ds s → Run p n m a cs r k ds s
call_run (first old new A) = start _ (answered A).stand
call_run (again old new R q A) = more _ (call_run R) q (answered A).stand

call_sound : {p n : ℕ} {m cs : List ℕ} {a : ℕ} {r : Outcome} {k : ℕ} {ds : List ℕ} {s : Outcome} → CallRun p n m a cs r k ds s → Sound p n m × SoundRows p n cs
call_sound (first old new A) = ((answered A).sound, (answered A).list)
call_sound (again old new R q A) = call_sound R

-- of a run within the bounds of the last sentence
module _ {p n : ℕ} {m cs ds : List ℕ} {a k : ℕ} {r s : Outcome} (F : FromBounds n cs a) (R : CallRun p n m a cs r k ds s) where
  -- each call is bounded as promised
  pub calls_bounded : AfterAdditions p n r k ds s
  calls_bounded =
      let (A, B) = call_sound R in
      additions_bounded A B F (call_run R)

  -- and after a short answer so is the next
  calls_next : s.standing ≡ short → AfterAdditions p n r (suc k) (added p n ds s) (stand_of p n m (added p n ds s) a)
  calls_next q =
      let (A, B) = call_sound R in
      additions_bounded A B F (run-next A.prime (call_run R) q)

  -- a short answer can be followed by a call that is not refused, whatever the buffers hold
  pub calls_again : s.standing ≡ short → {old new : Buffers} → LongEnough n old → {x : Answer Outcome} → StandCall p n m (added p n ds s) a old x new
      → (t : Outcome) × (x ≡ given t)
  calls_again q {old} l A =
      let t = A.result (sound_stand p n m (added p n ds s) old.0 old.1 (call_sound R).0 (calls_next q).sound l.0 l.1) in
      (t.0, t.1)

  -- and no run has more than n − d additions, d the first degree: so a run that goes on while the answer is short ends in proved
  calls_few : (k ≤ n - r.degree) × (k ≡ n - r.degree → s.standing ≡ proved)
  calls_few = (omega (arith, calls_bounded), λ c. go c s.standing refl)
    where
      go : k ≡ n - r.degree → (t : Standing) → s.standing ≡ t → s.standing ≡ proved
      go c proved q = q
      go c short q = absurd (omega (arith, calls_next q))

-- the last call of a run: a run of no additions, and its buffers
call_last : {p n : ℕ} {m cs ds : List ℕ} {a k : ℕ} {r s : Outcome} → CallRun p n m a cs r k ds s → CallRun p n m a ds s zero ds s
call_last (first old new A) = first old new A
call_last (again old new R q A) = first old new A

call_room : {p n : ℕ} {m cs ds : List ℕ} {a k : ℕ} {r s : Outcome} → CallRun p n m a cs r k ds s → (old : Buffers) × LongEnough n old
call_room (first old new A) = (old, answer_room A)
call_room (again old new R q A) = (old, answer_room A)

-- a run, and one from its last call on, are one run
call_join : {p n : ℕ} {m cs ds : List ℕ} {a k : ℕ} {r s : Outcome} {j : ℕ} {es : List ℕ} {t : Outcome} → CallRun p n m a cs r k ds s → CallRun p n m a ds s j es t
    → CallRun p n m a cs r (k + j) es t
call_join R (first old new A) = simp unary_clauses R
call_join R (again old new T q A) = simp unary_clauses (again old new (call_join R T) q A)

-- a run that ends in proved, with one addition before it
ends_before : {p n : ℕ} {m cs ds : List ℕ} {a i j : ℕ} {r s : Outcome} → CallRun p n m a cs r 1 ds s → j + 1 ≤ i
    → EndsProved p n m a ds s j → EndsProved p n m a cs r i
ends_before R l E =
    record { additions = 1 + E.additions; list = E.list; last = E.last; run = call_join R E.run; ended = E.ended; few = omega (arith, E.few) }

-- the last sentence as one: from a first call that is answered, within those bounds, a run ends in proved within n − d additions, and every run does
pub calls_end : {p n : ℕ} {m cs : List ℕ} {a : ℕ} {old new : Buffers} {r : Outcome} → FromBounds n cs a → StandCall p n m cs a old (given r) new
    → CallsEnd p n m a cs r
calls_end {p} {n} {m} {cs} {a} {old} {new} {r} F A =
    record {
      some_run = simp unary_clauses at (finishes (first old new A));
      few = λ R. (calls_few F R).0;
      full = λ R. (calls_few F R).1;
      next = next;
      unrefused = λ R q lent left l x C. calls_again F R q l C;
      finishes = finishes;
    }
  where
    next : {k : ℕ} {ds : List ℕ} {s : Outcome} → CallRun p n m a cs r k ds s → s.standing ≡ short → (lent : Buffers) → LongEnough n lent
        → (t : Outcome) × (left : Buffers) × StandCall p n m (added p n ds s) a lent (given t) left
    next {ds = ds} {s = s} R q lent l =
        let (x, left, C) = stand_exists p n m (added p n ds s) a lent in
        let (t, y) = calls_again F R q l C in
        (t, left, subst (λ z. StandCall p n m (added p n ds s) a lent z left) y C)

    -- the next call, behind the run and behind its last call alone
    onward : {k : ℕ} {ds : List ℕ} {s : Outcome} → CallRun p n m a cs r k ds s → s.standing ≡ short
        → (t : Outcome) × CallRun p n m a cs r (suc k) (added p n ds s) t × CallRun p n m a ds s 1 (added p n ds s) t
    onward R q =
        let (lent, l) = call_room R in
        let (t, left, C) = next R q lent l in
        (t, again lent left R q C, again lent left (call_last R) q C)

    ended : {k : ℕ} {ds : List ℕ} {s : Outcome} → CallRun p n m a cs r k ds s → (t : Standing) → s.standing ≡ t
        → (t ≡ short → EndsProved p n m a ds s (n - r.degree - k)) → EndsProved p n m a ds s (n - r.degree - k)
    ended {ds = ds} {s = s} R proved q f = record { additions = 0; list = ds; last = s; run = call_last R; ended = q; few = omega arith }
    ended R short q f = f refl

    -- j bounds the additions to come
    go : (j : ℕ) {k : ℕ} {ds : List ℕ} {s : Outcome} → CallRun p n m a cs r k ds s → n - r.degree ≤ k + j
        → EndsProved p n m a ds s (n - r.degree - k)
    go zero {s = s} R l = ended R s.standing refl (λ q. absurd (omega (arith, (calls_few F (onward R q).1).0)))
    go (suc j) {s = s} R l =
        ended R s.standing refl (λ q.
        let (t, T, one) = onward R q in
        ends_before one (omega (arith, (calls_few F T).0)) (go j T (omega arith)))

    finishes : {k : ℕ} {ds : List ℕ} {s : Outcome} → CallRun p n m a cs r k ds s → EndsProved p n m a ds s (n - r.degree - k)
    finishes R = go n R (omega arith)
