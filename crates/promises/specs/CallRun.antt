-- The same run, of calls: each is the call of the stand with its own buffers, and its answer is read off them.
--   Buffers            what a polynomial buffer and a witness buffer hold
--   shown p n b        the polynomial in the first n + 1 bytes of the polynomial buffer
--   LongEnough n b     the buffers are as long as the call asks
--   CallRun p n m a cs r k ds s   from the call on cs, answered r, k additions lead to the call on ds, answered s
--   EndsProved p n m a cs r j     a run from the call on cs, answered r, that ends in proved after at most j additions
--   CallsEnd p n m a cs r         what is promised of the runs from the call on cs, answered r: one ends in proved, and every one does
-- Assumes nothing.
use Rattle.std.specs.Prelude.{◌≡◌, List, ℕ, zero, suc, ◌+◌, ◌-◌, ◌≤◌, length, take}
use Rattle.algebra.specs.Poly.{Poly}
use Rattle.meaning.specs.Bytes.{poly_of}
use Rattle.meaning.specs.Stand.{proved, short, Outcome}
use Rattle.meaning.specs.Calls.{Answer, given, StandCall}
use Rattle.promises.specs.Additions.{added}

abbrev pub Buffers : Type 0
Buffers = List ℕ × List ℕ

abbrev pub shown : (p n : ℕ) → Buffers → Poly p
shown p n b = poly_of p (take (suc n) b.0)

abbrev pub LongEnough : ℕ → Buffers → Type 0
LongEnough n b = (n + 1 ≤ length b.0) × (n ≤ length b.1)

pub data CallRun (p n : ℕ) (m : List ℕ) (a : ℕ) (cs : List ℕ) (r : Outcome) : ℕ → List ℕ → Outcome → Type 0 where
  first : (old new : Buffers) → StandCall p n m cs a old (given r) new → CallRun p n m a cs r zero cs r
  again : {k : ℕ} {ds : List ℕ} {s t : Outcome} (old new : Buffers) → CallRun p n m a cs r k ds s → s.standing ≡ short
      → StandCall p n m (added p n ds s) a old (given t) new → CallRun p n m a cs r (suc k) (added p n ds s) t

pub record EndsProved (p n : ℕ) (m : List ℕ) (a : ℕ) (cs : List ℕ) (r : Outcome) (j : ℕ) : Type 0 where
  pub additions : ℕ
  pub list : List ℕ
  pub last : Outcome
  pub run : CallRun p n m a cs r additions list last
  pub ended : last.standing ≡ proved
  pub few : additions ≤ j

-- d is the first degree, the one in r. There is a run that ends in proved within n − d additions. Every run, as far as it has been made, has at most
-- n − d additions, and its answer is proved if it has as many. If that is short, the next call is not refused: with any buffers that are long enough
-- there is a result, and whatever is answered is one. And from its last call on, short or proved, the run goes on to proved, within n − d additions
-- in all.
pub record CallsEnd (p n : ℕ) (m : List ℕ) (a : ℕ) (cs : List ℕ) (r : Outcome) : Type 0 where
  pub some_run : EndsProved p n m a cs r (n - r.degree)
  pub few : {k : ℕ} {ds : List ℕ} {s : Outcome} → CallRun p n m a cs r k ds s → k ≤ n - r.degree
  pub full : {k : ℕ} {ds : List ℕ} {s : Outcome} → CallRun p n m a cs r k ds s → k ≡ n - r.degree → s.standing ≡ proved
  pub next : {k : ℕ} {ds : List ℕ} {s : Outcome} → CallRun p n m a cs r k ds s → s.standing ≡ short → (old : Buffers) → LongEnough n old
      → (t : Outcome) × (new : Buffers) × StandCall p n m (added p n ds s) a old (given t) new
  pub unrefused : {k : ℕ} {ds : List ℕ} {s : Outcome} → CallRun p n m a cs r k ds s → s.standing ≡ short → (old new : Buffers) → LongEnough n old
      → (x : Answer Outcome) → StandCall p n m (added p n ds s) a old x new → (t : Outcome) × (x ≡ given t)
  pub finishes : {k : ℕ} {ds : List ℕ} {s : Outcome} → CallRun p n m a cs r k ds s → EndsProved p n m a ds s (n - r.degree - k)
