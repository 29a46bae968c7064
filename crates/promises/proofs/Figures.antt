-- P1 to P11 hold of the definitions: the functions of Run, which give what the definitions ask for on every input, are run on the table.
--   figures          every figure of the table holds
-- Assumes nothing.
use mathlib.Core.Path.{◌≡◌, refl, ap, ap₂, ◌∙◌}
use mathlib.Core.Bool.{Bool, true}
use mathlib.Core.List.{List, [], ◌∷◌, map}
use Rattle.std.specs.Prelude.{Option}
use Prim.Native.Nat.{ℕ, suc}
use Rattle.algebra.specs.Field.{fp, 𝟘, 𝟙, ◌⊕◌, ◌⊗◌, neg, is_zero}
use Rattle.algebra.specs.InverseOrZero.{inv_or_𝟘, inv_or_𝟘-steps}
use Rattle.algebra.specs.Row.{unit, 0ᵥ, ◌+ᵥ◌, ◌·ᵥ◌, comb}
use Rattle.algebra.specs.Poly.{Poly, coef, poly, ◌⊞◌, ◌⊡◌, ◌⊠◌, act}
use Rattle.algebra.specs.Gcd.{size, head, monic, divide_turn, divide, gcd-steps, gcd, lcm, lcms}
use Rattle.algebra.specs.Echelon.{lead, deeper, clear, reduce}
use Rattle.algebra.specs.Orders.{WithDegree, Alike, units, product}
use Rattle.algebra.specs.Spin.{long, clip, tail, clip_kept, new_kept, spin, spin_over, order_of, keep, chain}
use Rattle.algebra.proofs.Alike.{alike_elim, alike_length, alike_product}
use Rattle.meaning.specs.Bytes.{tab, row, row_at, byte_rows, rows, times, bytes, e}
use Rattle.meaning.specs.Stand.{sum, Outcome, standing_of}
use Rattle.meaning.specs.Period.{longest}
use Rattle.meaning.specs.Refusal.{is_prime, all_below}
use Rattle.promises.specs.Figures.{Columns, Figure, asked, written, columns, FigureHolds, AllHold, table}
use Rattle.meaning.proofs.Refusal.{is_prime_prime}
use Rattle.meaning.proofs.Unique.{stand-only, chain-only, period_only, witness_only}
use Rattle.promises.specs.Run.{taken_of, witness_of, orders_of, stand_orders, stand_taken, stand_poly, stand_witness, stand_of, chain_of}
use Rattle.promises.specs.Run.{same, same_rows, first_power, next_power, period_from, period_of}
use Rattle.promises.proofs.Found.{stand_found, chain_found, period_found}

alike_written : {p : ℕ} (os qs : List (WithDegree p)) → Alike os qs → map written os ≡ map written qs
unfolding written
alike_written = alike_elim (λ os qs. map written os ≡ map written qs) refl (λ o q os qs d c r. ap₂ ◌∷◌ (ap₂ (λ d s. bytes (suc d) s) d c) r)

module _ (g : Figure) where
  open g use {p, n, m, cs, a, shows}

  -- the columns depend on the polynomial and the stages through their coefficients only
  columns-only : (r s : Outcome) (f k : Poly p) (st ss : List (WithDegree p)) (t u : Option ℕ) → r ≡ s → coef f ≡ coef k → Alike st ss → t ≡ u
      → columns g r f st t ≡ columns g s k ss u
  unfolding columns
  columns-only r s f k st ss t u q h c d = λ i. record {
    standing = (q i).standing;
    poly = bytes (suc (q i).degree) (h i);
    taken = asked shows.taken (q i).taken;
    spent = asked shows.spent (q i).spent;
    witness = asked shows.witness (q i).witness;
    image = asked shows.image (bytes n (witness_only (times p n m) f k h (q i).standing (q i).witness i));
    count = asked shows.count (alike_length st ss c i);
    stages = asked shows.stages (alike_written st ss c i);
    product = asked shows.product (bytes (suc n) (alike_product st ss c i));
    period = asked shows.period (d i);
  }

  -- the test of p, and the columns that the functions give; and what both should be
  run : Bool × Columns
  run = (is_prime p, columns g (stand_of p n m cs a) (stand_poly p n m cs a) (chain_of p n m cs) (period_of p n m))

  claim : Bool × Columns
  claim = (true, shows)

  run_holds : run ≡ claim → FigureHolds g
  unfolding run claim
  run_holds q =
      let P = (is_prime_prime p (ap (λ x. x.0) q)).0 in
      let A = stand_found P n m cs a in
      let C = chain_found P n m cs in
      let T = period_found p n m in
      record {
        outcome = stand_of p n m cs a;
        poly = stand_poly p n m cs a;
        stages = chain_of p n m cs;
        period = period_of p n m;
        stand_holds = A;
        chain_holds = C;
        period_holds = T;
        only = λ r f st t B D U.
            let s = stand-only P n m cs a r _ f _ B A in
            columns-only r _ f _ st _ t _ s.0 s.1 (chain-only P n m cs st _ D C) (period_only p n m t (period_of p n m) U T)
            ∙ ap (λ x. x.1) q;
      }

runs_hold : (gs : List Figure) → map run gs ≡ map claim gs → AllHold gs
runs_hold [] q = tt
runs_hold (g ∷ gs) q = (run_holds g (cc), runs_hold gs (cc))

table_runs : map run table ≡ map claim table
unfolding run claim is_prime all_below fp inv_or_𝟘 inv_or_𝟘-steps 𝟘 𝟙 ◌⊕◌ ◌⊗◌ neg is_zero unit 0ᵥ ◌+ᵥ◌ ◌·ᵥ◌ comb act coef poly ◌⊞◌ ◌⊡◌ ◌⊠◌ size head
    monic divide_turn divide gcd-steps gcd lcm lcms lead deeper clear reduce units product long clip tail clip_kept new_kept spin spin_over
    order_of keep chain tab row row_at byte_rows rows times bytes e sum longest table written columns taken_of witness_of standing_of orders_of
    stand_orders stand_taken stand_poly stand_witness stand_of chain_of same same_rows first_power next_power period_from period_of
table_runs = refl

pub figures : AllHold table
figures = runs_hold table table_runs
