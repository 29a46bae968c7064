-- Demand 2: the polynomial is the least that sends the taken rows to zero; it is marked proved exactly when it is the minimal polynomial,
-- and else the witness is the first unit row that it does not send to zero.
--   polynomial_least     it is the least monic polynomial that sends every taken row to zero
--   polynomial_divides   it divides whatever sends M to zero
--   proved_minimal       where it is marked proved, it is the minimal polynomial
--   minimal_proved       where it sends M to zero, it is marked proved
--   short_witness        where it is marked short, the witness is the first unit row that it does not send to zero
-- Assumes nothing.
use mathlib.Core.Path.{◌≡◌, refl, subst}
use mathlib.Core.List.{List}
use Prim.Native.Nat.{ℕ, suc, ◌<◌, ◌≤◌}
use native.Mathlib.Omega.{arith}
use lib.ListN.{take}
use Rattle.algebra.specs.Row.{S, unit}
use Rattle.algebra.specs.Poly.{Poly, ◌∣◌, Least, Kills}
use Rattle.algebra.specs.Orders.{AllBelow, KillsAll, KillsEvery}
use Rattle.algebra.proofs.Poly.{least_divides}
use Rattle.algebra.proofs.Orders.{kills_all_ideal, kills_every_all, least_minimal, below_take}
use Rattle.meaning.specs.Bytes.{times, rows, e}
use Rattle.meaning.specs.Polynomial.{IsMinimal}
use Rattle.meaning.specs.Stand.{Standing, proved, short, Outcome, IsStand, FirstUnsent}
use Rattle.meaning.proofs.Bytes.{times_linear, e_below, rows_below}
use Rattle.meaning.proofs.Degrees.{stand-least}

-- the unit rows e(1), .., e(n) are those at the places below n
e-units : {p : ℕ} (X : S p → S p) (n : ℕ) (f : Poly p) → ((i : ℕ) → 1 ≤ i → i ≤ n → Kills X (e i) f) → (i : ℕ) → i < n → Kills X (unit i) f
unfolding e
e-units X n f h i l = subst (λ j. Kills X (unit j) f) (omega arith) (h (suc i) (omega arith) l)

taken_below : (p n : ℕ) (cs : List ℕ) (t : ℕ) → AllBelow n (take t (rows p n cs))
taken_below p n cs t = below_take n t (rows p n cs) (rows_below p n cs)

-- all of these of one stand
module _ {p n : ℕ} {m cs : List ℕ} {a : ℕ} {r : Outcome} {f : Poly p} (A : IsStand p n m cs a r f) where
  -- the lcm of the taken rows' orders is the least monic polynomial that sends every taken row to zero
  pub polynomial_least : Least (KillsAll (times p n m) (take r.taken (rows p n cs))) r.degree f
  polynomial_least = stand-least n m cs a r f A

  -- it divides whatever sends M to zero
  pub polynomial_divides : (g : Poly p) → KillsEvery n (times p n m) g → f ∣ g
  polynomial_divides g h =
      let vs = take r.taken (rows p n cs) in
      least_divides (kills_all_ideal (times_linear p n m) vs) polynomial_least g
      (kills_every_all (times p n m) n vs (taken_below p n cs r.taken) g h)

  -- proved: F sends M to zero, and no nonzero polynomial of lower degree does
  pub proved_minimal : r.standing ≡ proved → IsMinimal p n m r.degree f
  proved_minimal q =
      let t = rw q at A.tested in
      let vs = take r.taken (rows p n cs) in
      least_minimal (times_linear p n m) n vs (taken_below p n cs r.taken) polynomial_least (e-units _ n f t.0)

  -- and only then
  pub minimal_proved : KillsEvery n (times p n m) f → r.standing ≡ proved
  minimal_proved h = go r.standing refl
    where
      go : (s : Standing) → r.standing ≡ s → r.standing ≡ proved
      go proved q = q
      go short q = let t = rw q at A.tested in absurd (t.unsent (h (e r.witness) (e_below n _ t.from t.to)))

  -- short: the witness is the first unit row that F does not send to zero
  pub short_witness : r.standing ≡ short → FirstUnsent (times p n m) n f r.witness
  short_witness q = rw q at A.tested
