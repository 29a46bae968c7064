-- The run of calls of demand 3's last sentence: call the stand; while it is short, append the reported unit row and call again.
--   FromBounds n cs a         the first list cs and the allowance a, within the bounds of that sentence: at most 64 rows, and 8,192 or more
--   added p n ds s            the list ds with the unit row that s reports behind it
--   Run p n m a cs r k ds s   from the list cs, answered by r, k additions lead to the list ds, answered by s
--   AfterAdditions p n r k ds s        what is promised of each such list and answer
--   RunProved p n m a cs r      what is promised in the end
-- Assumes nothing.
use Rattle.std.specs.Prelude.{◌≡◌, List, ◌++◌, ℕ, zero, suc, ◌+◌, ◌-◌, ◌/◌, ◌≤◌, length}
use Rattle.algebra.specs.Poly.{Poly}
use Rattle.meaning.specs.Bytes.{rows, e, bytes}
use Rattle.meaning.specs.Bounds.{widest, most_candidates, full_allowance, SoundRows}
use Rattle.meaning.specs.Stand.{proved, short, Outcome, IsStand}

-- there is room for a unit row at each place behind the first list, and the allowance pays for every list
pub record FromBounds (n : ℕ) (cs : List ℕ) (a : ℕ) : Type 0 where
  pub few : length cs / n ≤ most_candidates - widest
  pub paid : full_allowance ≤ a

unfoldable pub added : (p n : ℕ) → List ℕ → Outcome → List ℕ
added p n ds s = ds ++ bytes {p = p} n (e s.witness)

pub data Run (p n : ℕ) (m : List ℕ) (a : ℕ) (cs : List ℕ) (r : Outcome) : ℕ → List ℕ → Outcome → Type 0 where
  start : (f : Poly p) → IsStand p n m cs a r f → Run p n m a cs r zero cs r
  more : {k : ℕ} {ds : List ℕ} {s t : Outcome} (f : Poly p) → Run p n m a cs r k ds s → s.standing ≡ short
      → IsStand p n m (added p n ds s) a t f → Run p n m a cs r (suc k) (added p n ds s) t

-- what holds after k additions: each has raised the degree, which never passes n; the list is within the bounds of the call, and all of it is taken
pub record AfterAdditions (p n : ℕ) (r : Outcome) (k : ℕ) (ds : List ℕ) (s : Outcome) : Type 0 where
  pub risen : r.degree + k ≤ s.degree
  pub bounded : s.degree ≤ n
  pub sound : SoundRows p n ds
  pub all_taken : s.taken ≡ length (rows p n ds)

-- at most n − d additions reach proved, d the first degree
pub record RunProved (p n : ℕ) (m : List ℕ) (a : ℕ) (cs : List ℕ) (r : Outcome) : Type 0 where
  pub additions : ℕ
  pub list : List ℕ
  pub last : Outcome
  pub run : Run p n m a cs r additions list last
  pub reached : last.standing ≡ proved
  pub few : additions ≤ n - r.degree
