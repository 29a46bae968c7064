-- Reading a whole file: what is held of the records handed out so far, and how it ends.
--   Underway s m cs v at   the steps up to the offset `at` handed out records, and v, m and cs hold what they come to
--   step_less              a step that hands out a record, neither Over nor refused, leaves fewer bytes
--   underway_start         at the front nothing is held
--   underway_noting        a record that is handed out can be noted
--   underway_turn          behind it the records handed out are one more
--   underway_over, underway_refused   the answer where the case is over, and where a step is refused
-- Assumes nothing.
use mathlib.Core.Path.{◌≡◌, refl, sym, ap, subst, ◌∙◌}
use mathlib.Core.List.{List, [], ◌∷◌, ◌++◌, flatten}
use Rattle.std.specs.Prelude.{Option, Some, Ok, Err}
use Rattle.std.proofs.lemmas.Option.{none-some}
use Prim.Native.Nat.{ℕ, ◌+◌, ◌-◌, ◌<◌}
use native.Mathlib.Omega.{arith}
use lib.ListN.{length, replicate, length-replicate}
use Rattle.meaning.specs.Case.{Record, record_bytes, default_allowance}
use Rattle.meaning.proofs.Flat.{record_long}
use Rattle.meaning.proofs.Written.{zeros_padded}
use Rattle.meaning.specs.Bounds.{matrix_room, candidate_room}
use Rattle.reader.specs.declared.Step.{Step}
use Rattle.reader.specs.declared.Step.TheVariants as step
use Rattle.reader.specs.declared.Stepped.{Stepped}
use Rattle.casefile.specs.declared.Numbers.{Numbers}
use Rattle.reader.specs.Step.{entries_in, record_with, record_of, refusal_of, NextRecord, StepIs, Handed}
use Rattle.reader.specs.Step.StepIs.{hands, over, refuses}
use Rattle.reader.specs.Step.Handed.{at_front, more}
use Rattle.casefile.specs.Gathered.{gathered, noted_all, Stored, Noting, Noted}
use Rattle.casefile.specs.Reading.{ReadIs}
use Rattle.casefile.specs.Reading.ReadIs.{reads, refuses as no_case}
use Rattle.reader.proofs.Stepping.{next_within, step_refused}
use Rattle.reader.proofs.Steps.{handed_stuck}
use Rattle.casefile.proofs.Gathered.{gathered_more, starts_room}
use Rattle.casefile.proofs.Handed.{handed_starts, handed_all}

pub record Underway (s m cs : List ℕ) (v : Numbers) (at : ℕ) : Type 0 where
  pub records : List Record
  pub handed : Handed s records at
  pub holds : Stored (gathered records) v m cs
  pub matrix_size : length m ≡ matrix_room
  pub candidate_size : length cs ≡ candidate_room

pub underway_start : (s : List ℕ) {at : ℕ} → at ≡ 0
    → Underway s (replicate matrix_room 0) (replicate candidate_room 0) (record { case = record { p = 0; n = 0; allowance = default_allowance; count = 0 }; rows = 0 }) at
unfolding noted_all flatten default_allowance
underway_start s e = record {
  records = [];
  handed = subst (Handed s []) (sym e) at_front;
  holds = record { modulus = refl; order = refl; allowance = refl; rows = refl; count = refl; matrix = zeros_padded matrix_room; candidates = zeros_padded candidate_room };
  matrix_size = length-replicate {A = ℕ} matrix_room 0;
  candidate_size = length-replicate {A = ℕ} candidate_room 0;
}

-- what a step says that hands out a record
record GivesOut (s : List ℕ) (at : ℕ) (r : Stepped) : Type 0 where
  next : Record
  hands_out : record_of s r ≡ Some next
  is_next : NextRecord s at next
  behind : r.next.at ≡ at + length (record_bytes next)

step_gives : {s : List ℕ} {at : ℕ} {r : Stepped} {y : Step} → StepIs s at r → r.step ≡ Ok y → (y ≡ step.Over → ⊥) → GivesOut s at r
step_gives (hands x N e f k) h o = record { next = x; hands_out = e; is_next = N; behind = k }
step_gives {y = y} (over E e f k) h o = let same : Ok y ≡ Ok step.Over = sym h ∙ e in absurd (o cc)
step_gives {r = r} {y = y} (refuses k N E P e f g) h o = let same : Ok y ≡ Err k = sym h ∙ step_refused r.step k e in cc

pub step_less : {s : List ℕ} {at : ℕ} {r : Stepped} {y : Step} → StepIs s at r → r.step ≡ Ok y → (y ≡ step.Over → ⊥)
    → length s - r.next.at < length s - at
step_less S h o = let x = step_gives S h o in omega (arith, x.behind, record_long x.next, next_within x.is_next)

module _ {s m cs : List ℕ} {v : Numbers} {at : ℕ} {r : Stepped} {y : Step} (P : Underway s m cs v at) (S : StepIs s at r) (h : r.step ≡ Ok y)
    (o : y ≡ step.Over → ⊥) where
  pub underway_noting : Noting s r v m cs
  underway_noting =
      let x = step_gives S h o in
      record {
        values = gathered P.records;
        next = x.next;
        hands = x.hands_out;
        holds = P.holds;
        room = starts_room P.records x.next (handed_starts P.handed x.is_next);
        matrix_size = P.matrix_size;
        candidate_size = P.candidate_size;
      }

  pub underway_turn : {m' cs' : List ℕ} {v' : Numbers} {e : ℕ} → e ≡ r.next.at → Noted s r v m cs v' m' cs' → length m' ≡ length m
      → length cs' ≡ length cs → Underway s m' cs' v' e
  unfolding underway_noting
  underway_turn {m'} {cs'} {v'} q N k l =
      let x = step_gives S h o in
      record {
        records = P.records ++ (x.next ∷ []);
        handed = subst (Handed s _) (sym q) (more r P.handed S x.hands_out);
        holds = subst (λ c. Stored c v' m' cs') (sym (gathered_more P.records x.next)) (N underway_noting);
        matrix_size = k ∙ P.matrix_size;
        candidate_size = l ∙ P.candidate_size;
      }

-- how reading ends
pub underway_over : {s m cs : List ℕ} {v : Numbers} {at : ℕ} {r : Stepped} → Underway s m cs v at → StepIs s at r → r.step ≡ Ok step.Over
    → ReadIs s (record { answer = Ok v.case; matrix = m; candidates = cs })
underway_over {s} {r = r} P (hands x N f g k) e = absurd (none-some _ (ap (record_with (entries_in s r)) (sym e) ∙ f))
underway_over {s} {m} {cs} {v} P (over E f g k) e =
    let H : Stored E.case v m cs = subst (λ c. Stored c v m cs) (handed_all P.handed E) P.holds in
    reads E.case E.is (four H.modulus H.order H.allowance H.count) H.matrix H.candidates
  where
    four : {p n a k q o b l : ℕ} → p ≡ q → n ≡ o → a ≡ b → k ≡ l
        → ◌≡◌ {A = Option (ℕ × ℕ × ℕ × ℕ)} (Some (p, n, a, k)) (Some (q, o, b, l))
    four e f g h = λ i. Some (e i, f i, g i, h i)
underway_over P (refuses k N E Q f g h) e = absurd (none-some _ (ap refusal_of (sym e) ∙ f))

pub underway_refused : {s m cs : List ℕ} {v : Numbers} {at k : ℕ} {r : Stepped} → Underway s m cs v at → StepIs s at r → r.step ≡ Err k
    → ReadIs s (record { answer = Err k; matrix = replicate matrix_room 0; candidates = replicate candidate_room 0 })
underway_refused {s} {r = r} P (hands x N f g k) e = absurd (none-some _ (ap (record_with (entries_in s r)) (sym e) ∙ f))
underway_refused P (over E f g k) e = absurd (none-some _ (ap refusal_of (sym f ∙ e)))
underway_refused {k = j} P (refuses k N E Q f g h) e =
    no_case k (λ c i. handed_stuck P.handed N E i) Q (sym (ap refusal_of e) ∙ f) refl refl
