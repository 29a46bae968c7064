-- `calls::stand` meets its contract: where the refusal is none, the inputs are sound; the rows taken and their lcm come from `taken`, its test from
-- `witness`, and the polynomial and the witness's image are put to the front of their buffers. Assumes nothing.
use mathlib.Core.Path.{◌≡◌, sym}
use native.Mathlib.Omega.{arith}
use borrow.Author.Rules.{rules}
use lib.ListN.{length, take, length-take}
use Rattle.algebra.proofs.Orders.{below_take}
use Rattle.meaning.specs.Bytes.{rows}
use Rattle.meaning.specs.Bounds.{widest}
use Rattle.meaning.specs.Stand.{proved, short}
use Rattle.meaning.proofs.Bytes.{rows_below}
use Rattle.meaning.proofs.Called.{given_by}
use Rattle.calls.proofs.Laws.{stand_told, stand-written}
use Rattle.calls.proofs.stand.Goals as goal

-- F is the least polynomial that sends the taken rows to zero
pub witness-witness-requires-clause-killing : goal.witness-witness-requires-clause-killing
witness-witness-requires-clause-killing c =
    let x = c.args in
    let t = c.take_rows-gathered.result.taken in
    let G = c.take_rows-gathered.ensures.gathered in
    record {
      good = G.good;
      killed = take t (rows x.p x.n x.cs.now);
      sized = below_take x.n t (rows x.p x.n x.cs.now) (rows_below x.p x.n x.cs.now);
      least = G.least;
    }

pub put-requires-2 : goal.put-requires-2
put-requires-2 c =
    let S = stand_told _ _ _ _ _ _ c.in_ok-of_stand.ensures in
    let most = S.0.size in
    let long : length c.witness_row-row.result ≡ widest = search rules in
    simp length-take (omega (arith, S.3))

pub returns-in-None : goal.returns-in-None
returns-in-None c =
    let S = stand_told _ _ _ _ _ _ c.in_ok-of_stand.ensures in
    let row = rw c.in-None.is at c.witness_row-row.ensures in
    given_by (sym c.in_ok-of_stand.ensures)
    (stand-written proved 0 c.take_rows-gathered.ensures.gathered c.in-None.ensures S.0.size c.put.ensures row c.put-2.ensures)

pub returns-in-Some : goal.returns-in-Some
returns-in-Some c =
    let S = stand_told _ _ _ _ _ _ c.in_ok-of_stand.ensures in
    let row = rw c.in-Some.is at c.witness_row-row.ensures in
    given_by (sym c.in_ok-of_stand.ensures)
    (stand-written short c.in-Some.i c.take_rows-gathered.ensures.gathered c.in-Some.ensures S.0.size c.put.ensures row c.put-2.ensures)
