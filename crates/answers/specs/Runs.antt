-- The run of calls of demand 3's last sentence, of the code's own answers: call the stand; while it answers `Short`, append the unit row that it
-- reports and call again, with buffers that are long enough. Of each answer no more is known than what the contract of the call says.
--   StoodRun p n m a cs r k ds s    from the call on cs, answered r, k additions lead to the call on ds, answered s
--   StoodProved p n m a cs r j      a run from the call on cs, answered r, that ends in `Proved` after at most j additions
--   StoodEnd p n m a cs r d         what is promised of the runs from the call on cs, answered r with the degree d
-- Assumes nothing.
use Rattle.std.specs.Prelude.{◌≡◌, Result, Ok, Err, List, ◌++◌, ℕ, zero, suc, ◌-◌, ◌≤◌}
use Rattle.meaning.specs.Bytes.{e, bytes}
use Rattle.meaning.specs.Calls.{StandCall}
use Rattle.promises.specs.CallRun.{Buffers, LongEnough}
use Rattle.reasons.specs.declared.Reason.{Reason}
use Rattle.calls.specs.Answers.{stood_of}
use Rattle.calls.specs.declared.Counts.{Counts}
use Rattle.calls.specs.declared.Stood.{Stood}
use Rattle.calls.specs.declared.Stood.TheVariants as stood

pub data StoodRun (p n : ℕ) (m : List ℕ) (a : ℕ) (cs : List ℕ) (r : Result Stood Reason) : ℕ → List ℕ → Result Stood Reason → Type 0 where
  stood_first : (old new : Buffers) → StandCall p n m cs a old (stood_of r) new → StoodRun p n m a cs r zero cs r
  stood_again : {k : ℕ} {ds : List ℕ} {c : Counts} {w : ℕ} {t : Result Stood Reason} (old new : Buffers) → StoodRun p n m a cs r k ds (Ok (stood.Short c w))
      → LongEnough n old → StandCall p n m (ds ++ bytes {p = p} n (e w)) a old (stood_of t) new
      → StoodRun p n m a cs r (suc k) (ds ++ bytes {p = p} n (e w)) t

pub record StoodProved (p n : ℕ) (m : List ℕ) (a : ℕ) (cs : List ℕ) (r : Result Stood Reason) (j : ℕ) : Type 0 where
  pub additions : ℕ
  pub list : List ℕ
  pub last : Counts
  pub run : StoodRun p n m a cs r additions list (Ok (stood.Proved last))
  pub few : additions ≤ j

-- There is a run that ends in `Proved` within n − d additions. Every run that has been made so far has at most n − d additions, its last answer is no
-- refusal, and is `Proved` if it has as many; and from its last call on it is carried on to `Proved` within n − d additions in all.
pub record StoodEnd (p n : ℕ) (m : List ℕ) (a : ℕ) (cs : List ℕ) (r : Result Stood Reason) (d : ℕ) : Type 0 where
  pub some_run : StoodProved p n m a cs r (n - d)
  pub few : {k : ℕ} {ds : List ℕ} {s : Result Stood Reason} → StoodRun p n m a cs r k ds s → k ≤ n - d
  pub full : {k : ℕ} {ds : List ℕ} {s : Result Stood Reason} → StoodRun p n m a cs r k ds s → k ≡ n - d → (c : Counts) × (s ≡ Ok (stood.Proved c))
  pub unrefused : {k : ℕ} {ds : List ℕ} {s : Result Stood Reason} → StoodRun p n m a cs r k ds s → (q : Reason) → ¬ (s ≡ Err q)
  pub finishes : {k : ℕ} {ds : List ℕ} {s : Result Stood Reason} → StoodRun p n m a cs r k ds s → StoodProved p n m a ds s (n - d - k)
