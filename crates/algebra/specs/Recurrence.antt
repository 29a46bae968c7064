-- Recurrences of a sequence. That of the factors c(1) to c(L) is the polynomial C = 1 + c(1)·x + .. + c(L)·x^L: from L on, `act shift C s j`, the
-- coefficient of C·s at j, is s(j) + c(1)·s(j-1) + .. + c(L)·s(j-L).
--   Silent C s from to   C·s is zero from `from` on and below `to`
--   Feeds L C s k     C is a recurrence of length L that fits the first k places of s
--   Shortest L C s k  and no shorter one does
--   Ready L U s k     U is what a failure at place k is mended with: the last recurrence that was given up, moved up to where its failure is at k, and
--                     divided by how much it failed; zero as long as L is 0
--   Register L C U s k   the state of Berlekamp and Massey's pass behind k symbols
-- Assumes nothing.
use Rattle.std.specs.Prelude.{◌≡◌, ℕ, suc, ◌+◌, ◌<◌, ◌≤◌}
use Rattle.algebra.specs.Field.{𝟘, 𝟙}
use Rattle.algebra.specs.Row.{S, Below, shift}
use Rattle.algebra.specs.Poly.{Poly, coef, act}

abbrev pub Silent : {p : ℕ} → Poly p → S p → ℕ → ℕ → Type 0
Silent C s from to = (j : ℕ) → from ≤ j → j < to → act shift C s j ≡ 𝟘

pub record Feeds {p : ℕ} (L : ℕ) (C : Poly p) (s : S p) (k : ℕ) : Type 0 where
  pub one : coef C 0 ≡ 𝟙
  pub degree : Below (suc L) (coef C)
  pub silent : Silent C s L k

pub record Shortest {p : ℕ} (L : ℕ) (C : Poly p) (s : S p) (k : ℕ) : Type 0 where
  pub feeds : Feeds L C s k
  pub least : (M : ℕ) (D : Poly p) → Feeds M D s k → L ≤ M

-- with e for k + 1 − L, the length that follows L
pub record Ready {p : ℕ} (L : ℕ) (U : Poly p) (s : S p) (k : ℕ) : Type 0 where
  pub next : ℕ
  pub sum : L + next ≡ suc k
  pub none : coef U 0 ≡ 𝟘
  pub degree : Below (suc next) (coef U)
  pub silent : Silent U s next k
  pub one : 0 < L → act shift U s k ≡ 𝟙

pub record Register {p : ℕ} (L : ℕ) (C U : Poly p) (s : S p) (k : ℕ) : Type 0 where
  pub shortest : Shortest L C s k
  pub ready : Ready L U s k
