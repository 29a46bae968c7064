-- How long a case is that was made of a text.
--   made_size   the length that the call answers is that of bytes at the front of the buffer
-- Assumes nothing.
use Rattle.std.proofs.Common.{◌≡◌, ℕ, ◌≤◌, List, length, sym, ap, ◌∙◌, subst, arith}
use Rattle.std.specs.Prelude.{Result, Ok}
use Rattle.std.proofs.lemmas.Option.{none-some}
use Rattle.meaning.specs.Case.{matrix_bytes, candidate_bytes, allowance_of}
use Rattle.meaning.specs.Writing.{WriteCall, case_written}
use Rattle.meaning.proofs.Called.{called_given}
use Rattle.meaning.proofs.Written.{write_covers}
use Rattle.reasons.specs.declared.Reason.{Reason}
use Rattle.reasons.specs.Reasons.{answer_of}
use Rattle.design.specs.declared.Mistake.{Mistake}
use Rattle.design.specs.Drawn.{MadeIs, made_case, made_none, unmade_of}

pub made_size : {t old new : List ℕ} {r : Result (Result ℕ Reason) Mistake} {x : Result ℕ Reason} {k : ℕ} → MadeIs t old r new → r ≡ Ok x → x ≡ Ok k
    → k ≤ length new
made_size {old = old} {new = new} {k = k} (made_case c w I e W) f g =
    let given : w ≡ Ok k = cc in
    let r = (called_given (subst (λ x. WriteCall c.p c.n (matrix_bytes c) (candidate_bytes c) (allowance_of c) old (answer_of x) new) given W)).1 in
    omega (arith, r.0, ap length r.1, write_covers (case_written c.p c.n (matrix_bytes c) (candidate_bytes c) (allowance_of c)) old)
made_size (made_none p e none_is A u h) f g = absurd (none-some _ (sym (ap unmade_of f) ∙ u))
