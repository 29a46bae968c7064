-- Runs of the code's own answers, and runs of calls: each is one of the other kind.
--   stood_outcome   what a call gives, some answer of the code says
--   proved_counts   an answer that says proved is `Proved`
--   run_calls       a run of the code's answers is a run of calls: none of its answers is a refusal
--   stood_turn      a run of the code's answers over one more call
--   calls_run       a run of calls is a run of the code's answers
--   ends_stood      and one that ends in proved ends in `Proved`
-- Assumes nothing.
use mathlib.Core.Path.{◌≡◌, refl, sym, ap, ◌∙◌, subst}
use mathlib.Core.List.{List, ◌++◌}
use Rattle.std.specs.Prelude.{Result, Ok, Err}
use Prim.Native.Nat.{ℕ, suc}
use Rattle.meaning.specs.Bytes.{times, bytes, e}
use Rattle.meaning.specs.Stand.{Standing, proved, short, Tested, Outcome}
use Rattle.meaning.specs.Calls.{given, StandCall}
use Rattle.meaning.proofs.Unique.{outcome_path}
use Rattle.promises.specs.Additions.{FromBounds, added}
use Rattle.promises.specs.CallRun.{Buffers, shown, LongEnough, CallRun, first, again, EndsProved}
use Rattle.promises.proofs.Answers.{answer_stand, answer_room, calls_again}
use Rattle.reasons.specs.Reasons.{as_refusal}
use Rattle.reasons.specs.declared.Reason.{Reason}
use Rattle.calls.specs.Answers.{stood_of}
use Rattle.answers.specs.Runs.{StoodRun, stood_first, stood_again, StoodProved}
use Rattle.calls.specs.declared.Counts.{Counts}
use Rattle.calls.specs.declared.Stood.{Stood}
use Rattle.calls.specs.declared.Stood.TheVariants as stood
use Rattle.meaning.proofs.Called.{refused_given}
use Rattle.answers.proofs.Unique.{given_only, proved_short}

-- what the call gives, some answer of the code says
stood_outcome : {p n : ℕ} {m cs : List ℕ} {a : ℕ} {old new : Buffers} {o : Outcome} → StandCall p n m cs a old (given o) new
    → (r : Result Stood Reason) × (stood_of r ≡ given o)
stood_outcome {p} {n} {m} {new = new} {o = o} A = go o.standing refl
  where
    c : Counts
    c = record { degree = o.degree; taken = o.taken; spent = o.spent }

    go : (t : Standing) → o.standing ≡ t → (r : Result Stood Reason) × (stood_of r ≡ given o)
    go proved q =
        let T = subst (λ t. Tested (times p n m) n (shown p n new) t o.witness) q (answer_stand A).tested in
        (Ok (stood.Proved c), ap given (outcome_path _ o (sym q) refl refl refl (sym T.1)))
    go short q = (Ok (stood.Short c o.witness), ap given (outcome_path _ o (sym q) refl refl refl refl))

-- an answer that gives a proved outcome is `Proved`
pub proved_counts : (s : Result Stood Reason) (u : Outcome) → stood_of s ≡ given u → u.standing ≡ proved → (c : Counts) × (s ≡ Ok (stood.Proved c))
proved_counts (Ok (stood.Proved c)) u z q = (c, refl)
proved_counts (Ok (stood.Short c w)) u z q = absurd (proved_short (sym (ap (λ o. o.standing) (given_only _ u z) ∙ q)))
proved_counts (Err j) u z q = absurd (refused_given (as_refusal j) u z)

-- a run from a first answer r, which gives the outcome o
module _ {p n : ℕ} {m cs : List ℕ} {a : ℕ} {r : Result Stood Reason} {o : Outcome} (g : stood_of r ≡ given o) where
  -- a run of the code's answers is a run of calls: none of them is a refusal
  pub run_calls : FromBounds n cs a → {k : ℕ} {ds : List ℕ} {s : Result Stood Reason} → StoodRun p n m a cs r k ds s
      → (u : Outcome) × (stood_of s ≡ given u) × CallRun p n m a cs o k ds u
  unfolding added
  run_calls F (stood_first old new A) = (o, g, first old new (subst (λ x. StandCall p n m cs a old x new) g A))
  run_calls F (stood_again {k = k} {ds = ds} {w = w} old new R l A) =
      let (u, q, C) = run_calls F R in
      let D = subst (λ x. CallRun p n m a cs o k ds x) (sym (given_only _ u q)) C in
      let (v, z) = calls_again F D refl l A in
      (v, z, again old new D refl (subst (λ x. StandCall p n m (ds ++ bytes {p = p} n (e w)) a old x new) z A))

  -- a run of the code's answers over one more call
  stood_turn : (s t : Result Stood Reason) {k : ℕ} {ds : List ℕ} {u : Outcome} → stood_of s ≡ given u → u.standing ≡ short → StoodRun p n m a cs r k ds s
      → {old new : Buffers} → LongEnough n old → StandCall p n m (added p n ds u) a old (stood_of t) new → StoodRun p n m a cs r (suc k) (added p n ds u) t
  unfolding added
  stood_turn (Ok (stood.Proved c)) t {u = u} z q R l A = absurd (proved_short (ap (λ o. o.standing) (given_only _ u z) ∙ q))
  stood_turn (Ok (stood.Short c w)) t {k} {ds} {u} z q R {old} {new} l A =
      let y = ap (λ o. ds ++ bytes {p = p} n (e o.witness)) (given_only _ u z) in
      subst (λ l. StoodRun p n m a cs r (suc k) l t) y (stood_again old new R l (subst (λ l. StandCall p n m l a old (stood_of t) new) (sym y) A))
  stood_turn (Err j) t {u = u} z q R l A = absurd (refused_given (as_refusal j) u z)

  -- and a run of calls is one of the code's answers
  calls_run : {k : ℕ} {ds : List ℕ} {u : Outcome} → CallRun p n m a cs o k ds u → (s : Result Stood Reason) × (stood_of s ≡ given u) × StoodRun p n m a cs r k ds s
  calls_run (first old new A) = (r, g, stood_first old new (subst (λ x. StandCall p n m cs a old x new) (sym g) A))
  calls_run (again {ds = ds} {s = u} old new C q A) =
      let (s, z, R) = calls_run C in
      let (t, y) = stood_outcome A in
      (t, y, stood_turn s t z q R (answer_room A) (subst (λ x. StandCall p n m (added p n ds u) a old x new) (sym y) A))

  -- a run of calls that ends in proved is one of the code's answers that ends in `Proved`
  pub ends_stood : {j : ℕ} → EndsProved p n m a cs o j → StoodProved p n m a cs r j
  ends_stood E =
      let (s, z, R) = calls_run E.run in
      let (c, q) = proved_counts s E.last z E.ended in
      let T = subst (λ x. StoodRun p n m a cs r E.additions E.list x) q R in
      record { additions = E.additions; list = E.list; last = c; run = T; few = E.few }
