-- The figures P1 to P11 (01, "Figures to hold it to"), as one table, and what it claims of the definitions.
--   Columns        what a figure shows; a column that 01 leaves open is none
--   Figure         an input with its columns
--   asked q x      x, where the figure gives that column
--   written o      the coefficients of a polynomial up to the leading 1
--   columns g ..   what the definitions give, in the columns of the figure g
--   FigureHolds g        whatever the definitions permit for the input of g shows what g shows; and they permit something
--   AllHold        every figure of a table holds
--   figure, stand, chained   a figure from its columns
--   P1, P2, P3, P4, P5, P6, P7, P8, P9, P10, P11, table   the figures, with 01's words for each
-- Assumes nothing.
use Rattle.std.specs.Prelude.{◌≡◌, List, [], ◌∷◌, map, ℕ, suc, length}
use Rattle.std.specs.Prelude.{Option, None, Some}
use Rattle.algebra.specs.Poly.{Poly, coef}
use Rattle.algebra.specs.Orders.{WithDegree, product}
use Rattle.meaning.specs.Bytes.{times, bytes}
use Rattle.meaning.specs.Stand.{Standing, proved, short, Outcome, IsStand, witness_row}
use Rattle.meaning.specs.Chain.{IsChain}
use Rattle.meaning.specs.Period.{IsPeriod}

pub record Columns : Type 0 where
  pub standing : Standing
  pub poly : List ℕ
  pub taken : Option ℕ
  pub spent : Option ℕ
  pub witness : Option ℕ
  pub image : Option (List ℕ)
  pub count : Option ℕ
  pub stages : Option (List (List ℕ))
  pub product : Option (List ℕ)
  pub period : Option (Option ℕ)

pub record Figure : Type 0 where
  pub p : ℕ
  pub n : ℕ
  pub m : List ℕ
  pub cs : List ℕ
  pub a : ℕ
  pub shows : Columns

abbrev pub asked : {A : Type 0} → Option A → A → Option A
asked None x = None
asked (Some y) x = Some x

-- a polynomial with its degree, up to the leading 1
unfoldable pub written : {p : ℕ} → WithDegree p → List ℕ
written o = bytes (suc o.deg) (coef o.poly)

unfoldable pub columns : (g : Figure) → Outcome → Poly g.p → List (WithDegree g.p) → Option ℕ → Columns
columns g r f st t =
    record {
      standing = r.standing;
      poly = bytes (suc r.degree) (coef f);
      taken = asked g.shows.taken r.taken;
      spent = asked g.shows.spent r.spent;
      witness = asked g.shows.witness r.witness;
      image = asked g.shows.image (bytes g.n (witness_row (times g.p g.n g.m) f r.standing r.witness));
      count = asked g.shows.count (length st);
      stages = asked g.shows.stages (map written st);
      product = asked g.shows.product (bytes (suc g.n) (coef (product st)));
      period = asked g.shows.period t;
    }

pub record FigureHolds (g : Figure) : Type 0 where
  pub outcome : Outcome
  pub poly : Poly g.p
  pub stages : List (WithDegree g.p)
  pub period : Option ℕ
  pub stand_holds : IsStand g.p g.n g.m g.cs g.a outcome poly
  pub chain_holds : IsChain g.p g.n g.m g.cs stages
  pub period_holds : IsPeriod g.p g.n g.m period
  pub only : (r : Outcome) (f : Poly g.p) (st : List (WithDegree g.p)) (t : Option ℕ)
      → IsStand g.p g.n g.m g.cs g.a r f → IsChain g.p g.n g.m g.cs st → IsPeriod g.p g.n g.m t
      → columns g r f st t ≡ g.shows

abbrev pub AllHold : List Figure → Type 0
AllHold [] = Unit {0}
AllHold (g ∷ gs) = FigureHolds g × AllHold gs

abbrev pub figure : ℕ → ℕ → List ℕ → List ℕ → ℕ → Columns → Figure
figure p n m cs a s = record { p = p; n = n; m = m; cs = cs; a = a; shows = s }

-- the columns of the stand: standing, F, taken, spent, witness, image
abbrev pub stand : Standing → List ℕ → Option ℕ → Option ℕ → Option ℕ → Option (List ℕ) → Columns
stand s f t k w v =
    record {
      standing = s;
      poly = f;
      taken = t;
      spent = k;
      witness = w;
      image = v;
      count = None;
      stages = None;
      product = None;
      period = None;
    }

-- and beside them those of chain and period: number of stages, stages, product, period
abbrev pub chained : Option ℕ → Option (List (List ℕ)) → Option (List ℕ) → Option (Option ℕ) → Columns → Columns
chained c st pr t s =
    record {
      standing = s.standing;
      poly = s.poly;
      taken = s.taken;
      spent = s.spent;
      witness = s.witness;
      image = s.image;
      count = c;
      stages = st;
      product = pr;
      period = t;
    }

-- 2, [0], none, 9: short, F = 1, taken 0, spent 0, witness 1, image 1
abbrev pub P1 : Figure
P1 = figure 2 1 (0 ∷ []) [] 9 (stand short (1 ∷ []) (Some 0) (Some 0) (Some 1) (Some (1 ∷ [])))

-- 2, [0], (0)(1), 0: short, F = 1, taken 1, spent 0, witness 1
abbrev pub P2 : Figure
P2 = figure 2 1 (0 ∷ []) (0 ∷ 1 ∷ []) 0 (stand short (1 ∷ []) (Some 1) (Some 0) (Some 1) None)

-- 2, [0], (1), 1: proved, 0 1
abbrev pub P3 : Figure
P3 = figure 2 1 (0 ∷ []) (1 ∷ []) 1 (stand proved (0 ∷ 1 ∷ []) None None None None)

-- 3, [0 1 | 2 0], (1,0), 1: short, F = 1, taken 0, witness 1, image 1 0
abbrev pub P4 : Figure
P4 = figure 3 2 (0 ∷ 1 ∷ 2 ∷ 0 ∷ []) (1 ∷ 0 ∷ []) 1 (stand short (1 ∷ []) (Some 0) None (Some 1) (Some (1 ∷ 0 ∷ [])))

-- the same, 2: proved, 1 0 1, spent 2
abbrev pub P5 : Figure
P5 = figure 3 2 (0 ∷ 1 ∷ 2 ∷ 0 ∷ []) (1 ∷ 0 ∷ []) 2 (stand proved (1 ∷ 0 ∷ 1 ∷ []) None (Some 2) None None)

-- 5, identity n=2, (1,0), 9: proved, 4 1; chain 4 1 twice, product 1 3 1; period 1
abbrev pub P6 : Figure
P6 =
    figure 5 2 (1 ∷ 0 ∷ 0 ∷ 1 ∷ []) (1 ∷ 0 ∷ []) 9
    (chained (Some 2) (Some ((4 ∷ 1 ∷ []) ∷ (4 ∷ 1 ∷ []) ∷ [])) (Some (1 ∷ 3 ∷ 1 ∷ [])) (Some (Some 1))
    (stand proved (4 ∷ 1 ∷ []) None None None None))

-- 3, [1 0 | 0 2], (1,0)(1,0), 9: short, 2 1, taken 2, spent 2, witness 2, image 0 1
abbrev pub P7 : Figure
P7 =
    figure 3 2 (1 ∷ 0 ∷ 0 ∷ 2 ∷ []) (1 ∷ 0 ∷ 1 ∷ 0 ∷ []) 9
    (stand short (2 ∷ 1 ∷ []) (Some 2) (Some 2) (Some 2) (Some (0 ∷ 1 ∷ [])))

-- the same M, (1,0)(0,1), 9: proved, 2 0 1, spent 2; period 2
abbrev pub P8 : Figure
P8 =
    figure 3 2 (1 ∷ 0 ∷ 0 ∷ 2 ∷ []) (1 ∷ 0 ∷ 0 ∷ 1 ∷ []) 9
    (chained None None None (Some (Some 2)) (stand proved (2 ∷ 0 ∷ 1 ∷ []) None (Some 2) None None))

-- the same M, (1,1)(0,0), 1: short, F = 1, taken 0
abbrev pub P9 : Figure
P9 = figure 3 2 (1 ∷ 0 ∷ 0 ∷ 2 ∷ []) (1 ∷ 1 ∷ 0 ∷ 0 ∷ []) 1 (stand short (1 ∷ []) (Some 0) None None None)

-- 2, [0 1 | 0 0], (0,1), 9: short, 0 1, witness 1, image 0 1; two stages 0 1; product 0 0 1; period none
abbrev pub P10 : Figure
P10 =
    figure 2 2 (0 ∷ 1 ∷ 0 ∷ 0 ∷ []) (0 ∷ 1 ∷ []) 9
    (chained (Some 2) (Some ((0 ∷ 1 ∷ []) ∷ (0 ∷ 1 ∷ []) ∷ [])) (Some (0 ∷ 0 ∷ 1 ∷ [])) (Some None)
    (stand short (0 ∷ 1 ∷ []) None None (Some 1) (Some (0 ∷ 1 ∷ []))))

-- the same M, (1,0), 9: proved, 0 0 1; one stage
abbrev pub P11 : Figure
P11 =
    figure 2 2 (0 ∷ 1 ∷ 0 ∷ 0 ∷ []) (1 ∷ 0 ∷ []) 9 (chained (Some 1) None None None (stand proved (0 ∷ 0 ∷ 1 ∷ []) None None None None))

unfoldable pub table : List Figure
table = P1 ∷ P2 ∷ P3 ∷ P4 ∷ P5 ∷ P6 ∷ P7 ∷ P8 ∷ P9 ∷ P10 ∷ P11 ∷ []
