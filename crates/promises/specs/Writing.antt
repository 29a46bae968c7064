-- What a case that was written has.
--   HasValues c p n m cs a   the values of the case c are these, and it has an A record
-- Assumes nothing.
use Rattle.std.specs.Prelude.{◌≡◌, List, ℕ}
use Rattle.std.specs.Prelude.{Some}
use Rattle.meaning.specs.Case.{Case, allowance_of, matrix_bytes, candidate_bytes}
use Rattle.meaning.specs.Writing.{halves_of}

pub record HasValues (c : Case) (p n : ℕ) (m cs : List ℕ) (a : ℕ) : Type 0 where
  pub prime : c.p ≡ p
  pub size : c.n ≡ n
  pub matrix : matrix_bytes c ≡ m
  pub candidates : candidate_bytes c ≡ cs
  pub allowance : allowance_of c ≡ a
  pub with_record : c.allowance ≡ Some (halves_of a)
