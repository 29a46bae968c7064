-- What the tests of the program tell.
--   test_prime     the modulus is a prime up to 251
--   test_small     where no entry is bad, all are below the modulus
--   test_nonzero   a polynomial whose size is not 0 is not zero
--   test_monic     a polynomial whose leading coefficient is 1 is monic
--   test_room      two monic polynomials whose degrees, less that of their gcd, come to 64 at most have a common multiple of such a degree
-- Assumes nothing.
use mathlib.Core.Path.{◌≡◌, sym, ap, subst, ◌∙◌}
use mathlib.Core.Bool.{Bool, true}
use Prim.Native.Nat.{ℕ, ◌+◌, ◌<◌, ◌≤◌}
use native.Mathlib.Omega.{arith}
use mathlib.Core.List.{List}
use lib.ListN.{get_or}
use Rattle.std.specs.Prelude.{None}
use Rattle.algebra.specs.Field.{Prime, fp}
use Rattle.algebra.specs.Row.{0ᵥ, Monic}
use Rattle.algebra.specs.Poly.{coef, ◌⊠◌}
use Rattle.algebra.specs.Gcd.{size}
use Rattle.algebra.proofs.Field.{fp_one}
use Rattle.algebra.proofs.Poly.{monic_not_zero}
use Rattle.algebra.proofs.Gcd.{gcd_from_divisors, lcm_by_gcd, size_none}
use Rattle.meaning.specs.Bytes.{Small}
use Rattle.meaning.specs.Entry.{first_bad}
use Rattle.meaning.specs.Refusal.{is_prime}
use Rattle.meaning.specs.Bounds.{largest_prime, coefficients}
use Rattle.meaning.proofs.Entry.{first_bad_none}
use Rattle.meaning.proofs.Refusal.{is_prime_prime}
use Rattle.poly.specs.declared.Polynomial.{Polynomial}
use Rattle.poly.specs.Polynomial.{po, Good}
use Rattle.division.specs.Division.{IsGcd, Room}
use Rattle.poly.proofs.Laws.{good_at, good_below, good_size_own}

pub test_prime : {b : Bool} (p : ℕ) → b ≡ is_prime p → b ≡ true → Prime p × (p ≤ largest_prime)
test_prime p e t = is_prime_prime p (sym e ∙ t)

pub test_small : {p q : ℕ} (l : List ℕ) → q ≡ p → first_bad q l ≡ None → Small p l
test_small l e none = subst (λ p. Small p l) e (first_bad_none _ l none)

pub test_nonzero : {p n : ℕ} {f : Polynomial} → Good p f → n ≡ size (po f.p f) → ¬ (n ≡ 0) → ¬ (coef (po p f) ≡ 0ᵥ)
test_nonzero {p} {f = f} G e n z = n (good_size_own G e ∙ size_none (po p f) z)

pub test_monic : {p : ℕ} {f : Polynomial} → Good p f → get_or f.c f.deg 0 ≡ 1 → Monic f.deg (coef (po p f))
test_monic {p} {f} G e = record { top = good_at G f.deg ∙ ap (fp p) e ∙ fp_one p; above = good_below G }

pub test_room : {p : ℕ} {f g h : Polynomial} → Good p f → Good p g → Monic f.deg (coef (po p f)) → Monic g.deg (coef (po p g))
    → IsGcd p (po p f) (po p g) h → f.deg + g.deg < coefficients + h.deg → Room p (po p f) (po p g)
test_room {p} {f} {g} {h} F _ M N H l =
    let P = F.prime in
    let some : ¬ ((coef (po p f) ≡ 0ᵥ) × (coef (po p g) ≡ 0ᵥ)) = λ z. monic_not_zero P f.deg (coef (po p f)) M z.0 in
    let G = gcd_from_divisors P (po p f) (po p g) (po p h) h.deg some (H.monic some) H.left H.right H.greatest in
    let (q, e) = H.right in
    let (d, sum, L) = lcm_by_gcd P (po p f) (po p g) (po p h) q f.deg g.deg h.deg M N G e in
    record { degree = d; multiple = po p f ⊠ q; fits = omega arith; monic = L.monic; left = L.member.0; right = L.member.1 }
