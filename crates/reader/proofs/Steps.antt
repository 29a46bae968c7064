-- The steps of a reader, one after another (01: "Each step hands back the next record if it lies wholly before any such place, else gives 8; a step after `E`
-- says end, or gives 8 where bytes follow.").
--   step_exists      there is an answer at any offset; `step_unique`: there is one
--   moved_unique     so is there one for the reader
--   handed_next      a step that hands out a record hands out the next one
--   next-step        and the next record is handed out by a step
--   handed_length    how many bytes were handed out
--   handed_compare   of what is handed out and the first records of a case that s holds, one begins the other
--   handed_case      what is handed out of a case are its first records
--   front_next       a record of a case is next behind the records before it, where s holds it and them
--   handed_stuck     where there is neither a next record nor the end, there is no case
--   steps_case       of a case the steps hand out its records, in their order, and then say that it is over, again and again
--   steps_refused    of what is none they hand out records, and then say the place, again and again; no record is left that lies before it
--   ends_no_next        where the steps end no record is next
--   steps_all        they hand out all records that s holds from its front on
-- Assumes nothing.
use mathlib.Core.Path.{◌≡◌, refl, sym, ap, subst, ◌∙◌}
use mathlib.Core.Logic.{◌⊎◌, ⊎_elim}
use mathlib.Core.List.{List, [], ◌∷◌, ◌++◌, append_assoc, append-nil}
use Rattle.std.specs.Prelude.{Option, None, Some, Result, Ok, Err}
use Rattle.std.proofs.lemmas.Option.{none-some, same_Some}
use Prim.Native.Nat.{ℕ, zero, suc, ◌+◌, ◌≤◌}
use native.Mathlib.Decide.{dec_le}
use native.Mathlib.Nat.{le_refl, le_antisymm}
use native.Mathlib.Omega.{arith}
use lib.ListN.{length, take, drop, length-append, take-append-drop}
use lib.Seq.{length-take-le}
use Rattle.meaning.specs.Case.{Record, record_bytes, flat, Case, records, case_bytes, WellFormed, IsCase, Place, BeginsWith}
use Rattle.meaning.proofs.Flat.{record_long, flat_one, front_shorter, case_front}
use Rattle.meaning.proofs.Place.{place_past}
use Rattle.scan.specs.declared.State.{State}
use Rattle.scan.specs.declared.State.TheVariants.{Start, Over}
use Rattle.scan.specs.Machine.{run, Viable, Scans}
use Rattle.scan.proofs.Records.{Takes, takes_append, takes_split, takes_end, takes_viable, case_takes, last}
use Rattle.scan.proofs.Records.Takes.{stays, takes}
use Rattle.scan.proofs.Place.{scans_start, scan_to, scan_place, viable_begins}
use Rattle.scan.proofs.Compare.{takes_compare, over_last}
use Rattle.scan.proofs.Decide.{over_or, scan_exists}
use Rattle.reader.specs.declared.Step.{Step}
use Rattle.reader.specs.declared.Step.TheVariants as step
use Rattle.reader.specs.declared.Stepped.{Stepped}
use Rattle.reader.specs.declared.Ahead.{Ahead}
use Rattle.reader.specs.declared.Reader.{Reader}
use Rattle.reader.specs.Step.{entries_in, record_with, record_of, NextRecord, Ended, StepIs, stepped_to, Handed, Ends, Stops, Moved}
use Rattle.reader.specs.Step.StepIs.{hands, over, refuses}
use Rattle.reader.specs.Step.Handed.{at_front, more}
use Rattle.reader.specs.Look.{record_at}
use Rattle.reader.proofs.Look.{peek_far}
use Rattle.reader.proofs.Stepping.{next_within, next-passed, next_standing, next_peeked, step_refused}
use Rattle.reader.proofs.Stepping.{step_hands, step_over, step_early, step_cut, step_stops, step_nothing, step_unique}

-- there is an answer
answer_ahead : {s : List ℕ} {at : ℕ} {q : State} (a : Option Ahead) → Scans s at q → (at ≡ length s → ⊥) → record_at q at (drop at s) ≡ a → (r : Stepped) × StepIs s at r
answer_ahead {s} {at} {q} (Some a) S f h =
    let Z = scan_exists S (peek_far q (drop at s) h) in
    elim (dec_le a.next Z.at) [
      | yes l ↦ (stepped_to (Ok a.step) at a.next, step_hands S h (scan_to Z.is l))
      | no l ↦ (stepped_to (Err Z.at) at at, step_stops S f h (Z.is.stop (omega arith)) (omega arith))
    ]
answer_ahead {s} {at} None S f h =
    let Z = scan_exists S S.within in
    (stepped_to (Err Z.at) at at, step_nothing S f h (scan_place Z.is (le_refl _)))

answer_end : {s : List ℕ} {at : ℕ} {q : State} → Scans s at q → at ≡ length s → (r : Stepped) × StepIs s at r
answer_end {s} {at} {q} S e =
    ⊎_elim (λ o. (stepped_to (Ok step.Over) at at, step_over S o.1 e)) (λ n. (stepped_to (Err at) at at, step_cut S e n)) (over_or q)

answer_at : {s : List ℕ} {at : ℕ} {q : State} → Scans s at q → (r : Stepped) × StepIs s at r
answer_at {s} {at} {q} S =
    elim (dec_le (length s) at) [
      | yes l ↦ answer_end S (le_antisymm S.within l)
      | no l ↦ answer_ahead (record_at q at (drop at s)) S (λ e. omega arith) refl
    ]

pub step_exists : (s : List ℕ) (at : ℕ) → (r : Stepped) × StepIs s at r
step_exists s at =
    let Z = scan_exists {to = at} (scans_start s) (omega arith) in
    elim (dec_le at Z.at) [
      | yes l ↦ answer_at (scan_to Z.is l)
      | no l ↦ (stepped_to (Err Z.at) at at, step_early (Z.is.stop (omega arith)) (omega arith))
    ]

pub moved_unique : {q a b : Reader} {x y : Stepped} → Moved q a x → Moved q b y → (a ≡ b) × (x ≡ y)
moved_unique {a = a} {b = b} {x = x} {y = y} m n =
    let same : x ≡ y = step_unique m.step n.step in
    let src : a.src ≡ b.src = m.same ∙ sym n.same in
    let at : a.at ≡ b.at = m.place ∙ ap (λ (r : Stepped). r.next.at) same ∙ sym n.place in
    (λ i. record { src = src i; at = at i }, same)

-- what one step hands out
handed_next : {s : List ℕ} {at : ℕ} {x : Record} {r : Stepped} → StepIs s at r → record_of s r ≡ Some x
    → NextRecord s at x × (r.next.at ≡ at + length (record_bytes x))
handed_next {s} {at} {x} {r} (hands y N h d e) k =
    let same : y ≡ x = same_Some _ _ (sym h ∙ k) in
    (subst (NextRecord s at) same N, e ∙ ap (λ z. at + length (record_bytes z)) same)
handed_next {s} {r = r} (over E h d e) k = absurd (none-some _ (ap (record_with (entries_in s r)) (sym h) ∙ k))
handed_next {s} {r = r} (refuses j n m P h d e) k = absurd (none-some _ (ap (record_with (entries_in s r)) (sym (step_refused r.step j h)) ∙ k))

-- what is handed out is what the next record is
next-step : {s : List ℕ} {at : ℕ} {x : Record} → NextRecord s at x → (r : Stepped) × StepIs s at r × (record_of s r ≡ Some x) × (r.next.at ≡ at + length (record_bytes x))
next-step {s} {at} {x} N =
    let P = next_peeked N refl in
    (stepped_to (Ok P.said) at P.next, hands x N P.is refl P.behind, P.is, P.behind)

-- the records lead where the bytes do
record Led (s : List ℕ) (xs : List Record) (at : ℕ) : Type 0 where
  bytes : flat xs ≡ take at s
  within : at ≤ length s
  state : State
  lead : Takes Start xs state
  comes : run Start (take at s) ≡ state

led_next : {s : List ℕ} {xs : List Record} {at e : ℕ} {x : Record} → Led s xs at → NextRecord s at x → e ≡ at + length (record_bytes x)
    → Led s (xs ++ (x ∷ [])) e
led_next {s} {xs} {at} {e} {x} A N h =
    let S = next_standing N in
    let bytes : flat (xs ++ (x ∷ [])) ≡ take e s =
    flat_one xs x ∙ ap (λ t. t ++ record_bytes x) (A.bytes ∙ next-passed N) ∙ sym N.holds ∙ ap (λ j. take j s) (sym h) in
    let same : A.state ≡ S.state = sym A.comes ∙ S.comes in
    let lead : Takes Start (xs ++ (x ∷ [])) S.behind = takes_append (subst (Takes Start xs) same A.lead) (takes S.fits stays) in
    record {
      bytes = bytes;
      within = omega (arith, next_within N);
      state = S.behind;
      lead = lead;
      comes = ap (run Start) (sym bytes) ∙ takes_end lead tt;
    }

handed_led : {s : List ℕ} {xs : List Record} {at : ℕ} → Handed s xs at → Led s xs at
unfolding flat run
handed_led at_front = record { bytes = refl; within = omega arith; state = Start; lead = stays; comes = refl }
handed_led (more r H S h) =
    let n = handed_next S h in
    led_next (handed_led H) n.0 n.1

pub handed_length : {s : List ℕ} {xs : List Record} {at : ℕ} → Handed s xs at → at ≡ length (flat xs)
handed_length {s} {xs} {at} H = let A = handed_led H in sym (length-take-le at s A.within) ∙ ap length (sym A.bytes)

-- records that s holds from its front on, and that begin a case, are in front of what is handed out, or the other way round
pub handed_compare : {s : List ℕ} {xs : List Record} {at : ℕ} {c : Case} (ys zs : List Record) → Handed s xs at → WellFormed c → records c ≡ ys ++ zs
    → BeginsWith s ys → ((ws : List Record) × (ys ≡ xs ++ ws)) ⊎ ((ws : List Record) × (xs ≡ ys ++ ws))
handed_compare {s} {xs} {at} {c} ys zs H w e h =
    let A = handed_led H in
    let T = takes_split ys (subst (λ rs. Takes Start rs (Over (last c))) e (case_takes c w)) in
    let k : ℕ = length (flat ys) in
    takes_compare (drop at s) (drop k s) tt A.lead T.1
    (ap (λ t. t ++ drop at s) A.bytes ∙ take-append-drop at s ∙ sym (take-append-drop k s) ∙ ap (λ t. t ++ drop k s) h)

pub handed_case : {s : List ℕ} {xs : List Record} {at : ℕ} {c : Case} → Handed s xs at → IsCase s c
    → (ys : List Record) × (records c ≡ xs ++ ys) × (at ≡ length (flat xs))
unfolding case_bytes
handed_case {s} {xs} {at} {c} H i =
    ⊎_elim (λ l. (l.0, l.1, handed_length H))
    (λ l.
    let none_left : l.0 ≡ [] =
    over_last (records c) l.0 (case_takes c i.well_formed) (subst (λ rs. Takes Start rs (handed_led H).state) l.1 (handed_led H).lead) tt in
    ([], sym (l.1 ∙ ap (λ ws. records c ++ ws) none_left ∙ append-nil (records c)) ∙ sym (append-nil xs), handed_length H))
    (handed_compare (records c) [] H i.well_formed (sym (append-nil (records c))) (case_front i (records c) [] (sym (append-nil (records c)))))

-- a record of a case, behind records that s holds from its front on, is next where s holds it too
front_next : {s : List ℕ} {c : Case} (xs ys : List Record) (x : Record) → WellFormed c → records c ≡ xs ++ (x ∷ ys)
    → BeginsWith s (xs ++ (x ∷ [])) → NextRecord s (length (flat xs)) x
front_next {s} {c} xs ys x w e h =
    let size : length (flat xs) + length (record_bytes x) ≡ length (flat (xs ++ (x ∷ []))) = sym (ap length (flat_one xs x) ∙ length-append (flat xs) (record_bytes x)) in
    record {
      case = c;
      well_formed = w;
      passed = xs;
      to_come = ys;
      listed = e;
      begins = refl;
      holds = ap (λ j. take j s) size ∙ h ∙ flat_one xs x;
    }

stuck : {s : List ℕ} {c : Case} (xs ys : List Record) → IsCase s c → records c ≡ xs ++ ys → ((x : Record) → ¬ NextRecord s (length (flat xs)) x)
    → ¬ Ended s (length (flat xs)) → ⊥
unfolding case_bytes
stuck {s} {c} xs [] i e N E =
    E (record { case = c; is = i; length_of = ap (λ l. length (flat l)) (sym (e ∙ append-nil xs)) ∙ ap length (sym i.whole) })
stuck {s} {c} xs (y ∷ ys) i e N E = N y (front_next xs ys y i.well_formed e (case_front i (xs ++ (y ∷ [])) ys (e ∙ sym (append_assoc xs (y ∷ []) ys))))

pub handed_stuck : {s : List ℕ} {xs : List Record} {at : ℕ} {c : Case} → Handed s xs at → ((x : Record) → ¬ NextRecord s at x) → ¬ Ended s at
    → IsCase s c → ⊥
handed_stuck {s} {xs} H N E i =
    let b = handed_case H i in
    stuck xs b.0 i b.1 (λ x n. N x (subst (λ j. NextRecord s j x) (sym b.2) n)) (λ n. E (subst (Ended s) (sym b.2) n))

-- the steps of a case
handed_more : {s : List ℕ} {xs : List Record} {x : Record} → Handed s xs (length (flat xs)) → NextRecord s (length (flat xs)) x
    → Handed s (xs ++ (x ∷ [])) (length (flat (xs ++ (x ∷ []))))
handed_more {s} {xs} {x} H N =
    let r = next-step N in
    let size : r.0.next.at ≡ length (flat (xs ++ (x ∷ []))) = r.3 ∙ sym (ap length (flat_one xs x) ∙ length-append (flat xs) (record_bytes x)) in
    subst (Handed s (xs ++ (x ∷ []))) size (more r.0 H r.1 r.2)

handed_records : {s : List ℕ} {c : Case} → IsCase s c → (ys xs : List Record) → records c ≡ xs ++ ys → Handed s xs (length (flat xs))
    → Handed s (records c) (length (flat (records c)))
handed_records {s} {c} i [] xs e H = subst (λ rs. Handed s rs (length (flat rs))) (sym (e ∙ append-nil xs)) H
handed_records {s} {c} i (y ∷ ys) xs e H =
    let f : records c ≡ (xs ++ (y ∷ [])) ++ ys = e ∙ sym (append_assoc xs (y ∷ []) ys) in
    handed_records i ys (xs ++ (y ∷ [])) f (handed_more H (front_next xs ys y i.well_formed e (case_front i (xs ++ (y ∷ [])) ys f)))

pub steps_case : {s : List ℕ} {c : Case} → IsCase s c → Ends s (records c) (Ok step.Over)
unfolding case_bytes flat
steps_case {s} {c} i =
    let at : ℕ = length (flat (records c)) in
    let said : StepIs s at (stepped_to (Ok step.Over) at at) = over (record { case = c; is = i; length_of = ap length (sym i.whole) }) refl refl refl in
    record { at = at; handed = handed_records i (records c) [] refl at_front; says = said; every = λ r S. step_unique S said }

-- where the steps end no record is next
ends_no_next : {s : List ℕ} {xs : List Record} {e : Result Step ℕ} (E : Ends s xs e) (x : Record) → ¬ NextRecord s E.at x
ends_no_next E x N =
    let r = next-step N in
    let stays : r.0.next.at ≡ E.at = ap (λ (y : Stepped). y.next.at) (E.every r.0 r.1) in
    omega (arith, r.3, record_long x)

pub steps_all : {s : List ℕ} {xs : List Record} {e : Result Step ℕ} {c : Case} → Ends s xs e → WellFormed c → (ys zs : List Record) → records c ≡ ys ++ zs
    → BeginsWith s ys → (ws : List Record) × (xs ≡ ys ++ ws)
steps_all {s} {xs} E w ys zs e h = ⊎_elim (λ l. go l.0 l.1) (λ l. l) (handed_compare ys zs E.handed w e h)
  where
    go : (ws : List Record) → ys ≡ xs ++ ws → (us : List Record) × (xs ≡ ys ++ us)
    go [] f = ([], sym (f ∙ append-nil xs) ∙ sym (append-nil ys))
    go (v ∷ ws) f =
        let one = front_shorter s (xs ++ (v ∷ [])) ws (subst (BeginsWith s) (f ∙ sym (append_assoc xs (v ∷ []) ws)) h) in
        let next = front_next xs (ws ++ zs) v w (e ∙ ap (λ rs. rs ++ zs) f ∙ append_assoc xs (v ∷ ws) zs) one in
        absurd (ends_no_next E v (subst (λ j. NextRecord s j v) (sym (handed_length E.handed)) next))

-- the steps of what is no case
handed_before : {s : List ℕ} {xs : List Record} {at k : ℕ} → Handed s xs at → Place s k → at ≤ k
handed_before {s} {at = at} {k = k} H P =
    let A = handed_led H in
    place_past s k at P A.within (viable_begins (take at s) (subst Viable (sym A.comes) (takes_viable A.lead tt)))

steps_stop : {s : List ℕ} {xs : List Record} {at k : ℕ} → Handed s xs at → Place s k → ((x : Record) → ¬ NextRecord s at x) → ¬ Ended s at → Stops s k
steps_stop {s} {xs} {at} {k} H P n m =
    let said : StepIs s at (stepped_to (Err k) at at) = refuses k n m P refl refl refl in
    record {
      handed = xs;
      ends = record { at = at; handed = H; says = said; every = λ r S. step_unique S said };
      before = handed_before H P;
      none_left = n;
    }

module _ {s : List ℕ} {k : ℕ} (n : (c : Case) → ¬ IsCase s c) (P : Place s k) where
  -- one step, and what follows where it hands out a record
  steps_on : {xs : List Record} {at : ℕ} {r : Stepped} → Handed s xs at → StepIs s at r
      → ((x : Record) → NextRecord s at x → r.next.at ≡ at + length (record_bytes x) → Handed s (xs ++ (x ∷ [])) r.next.at → Stops s k) → Stops s k
  steps_on {r = r} H (hands x N h d e) f = f x N e (more r H (hands x N h d e) h)
  steps_on H (over E h d e) f = absurd (n E.case E.is)
  steps_on H (refuses j m l Q h d e) f = steps_stop H P m l

  -- j bytes are left at the most
  steps_go : (j : ℕ) {xs : List Record} {at : ℕ} → Handed s xs at → length s ≤ at + j → Stops s k
  steps_go zero {at = at} H h = steps_on H (step_exists s at).1 (λ x N e G. absurd (omega (arith, next_within N, record_long x)))
  steps_go (suc j) {at = at} H h = steps_on H (step_exists s at).1 (λ x N e G. steps_go j G (omega (arith, record_long x)))

  pub steps_refused : Stops s k
  steps_refused = steps_go (length s) at_front (omega arith)
