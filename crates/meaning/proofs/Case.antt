-- A well-formed case is within the bounds, so no call refuses it.
--   flatten_length, flatten_small   rows one after another: their length, and that their entries are below p
--   rows_of_split                    rows in front of rows, each part by itself
--   case_sound, case_sound_rows     the matrix and the candidates of a well-formed case
-- Assumes nothing.
use mathlib.Core.Path.{◌≡◌, sym, ap, ◌∙◌}
use mathlib.Core.List.{List, [], ◌∷◌, ◌++◌, flatten}
use Prim.Native.Nat.{ℕ, ◌*◌}
use native.Mathlib.Nat.{zero-mul, suc-mul, div-eq_of_eq-mul_left}
use native.Mathlib.Omega.{arith}
use lib.ListN.{length, length-append}
use Rattle.meaning.specs.Bytes.{Small}
use Rattle.meaning.specs.Bounds.{Sound, SoundRows}
use Rattle.meaning.specs.Case.{Case, RowsOf, WellFormed, matrix_bytes, candidate_bytes}
use Rattle.meaning.proofs.Refusal.{is_prime_prime, small_append}

pub flatten_length : (p n : ℕ) (xs : List (List ℕ)) → RowsOf p n xs → length (flatten xs) ≡ length xs * n
unfolding flatten
flatten_length p n [] r = sym (zero-mul n)
flatten_length p n (x ∷ xs) r =
    let i = flatten_length p n xs r.1 in
    length-append x (flatten xs) ∙ (omega (arith, r.0.0, suc-mul (length xs) n))

flatten_small : (p n : ℕ) (xs : List (List ℕ)) → RowsOf p n xs → Small p (flatten xs)
unfolding flatten
flatten_small p n [] r = tt
flatten_small p n (x ∷ xs) r = small_append p x (flatten xs) r.0.1 (flatten_small p n xs r.1)

pub rows_of_split : (p n : ℕ) (xs ys : List (List ℕ)) → RowsOf p n (xs ++ ys) → RowsOf p n xs × RowsOf p n ys
rows_of_split p n [] ys r = (tt, r)
rows_of_split p n (x ∷ xs) ys r = let i = rows_of_split p n xs ys r.1 in ((r.0, i.0), i.1)

pub case_sound : (c : Case) → WellFormed c → Sound c.p c.n (matrix_bytes c)
case_sound c w =
    let P = is_prime_prime c.p w.prime in
    record {
      prime = P.0;
      most = P.1;
      some_size = w.least;
      size = w.most;
      matrix = flatten_length c.p c.n c.matrix w.rows ∙ ap (λ k. k * c.n) w.square;
      entries = flatten_small c.p c.n c.matrix w.rows;
    }

pub case_sound_rows : (c : Case) → WellFormed c → SoundRows c.p c.n (candidate_bytes c)
case_sound_rows c w =
    let q = flatten_length c.p c.n c.candidates w.listed in
    let d = div-eq_of_eq-mul_left w.least q in
    record {
      whole = q ∙ ap (λ k. k * c.n) (sym d);
      few = omega (arith, d, w.few);
      entries = flatten_small c.p c.n c.candidates w.listed;
    }
