-- For every text one case, or one place of what is wrong, of the code's own answers.
--   unmade_only   what is told of a text that is no design is known by the spot and by what was expected
--   made_once     any two permitted answers and buffer contents are the same
-- Assumes nothing.
use mathlib.Core.Path.{◌≡◌, sym, ap, subst, ◌∙◌}
use mathlib.Core.List.{List}
use Rattle.std.specs.Prelude.{Some, Result, Ok, Err}
use Rattle.std.proofs.lemmas.Option.{none-some, same_Some}
use Prim.Native.Nat.{ℕ}
use Rattle.meaning.specs.Case.{allowance_of, matrix_bytes, candidate_bytes}
use Rattle.meaning.specs.Writing.{WriteCall}
use Rattle.meaning.specs.Design as meant
use Rattle.meaning.specs.Design.{Spot}
use Rattle.meaning.proofs.CaseBytes.{case_unique}
use Rattle.reasons.specs.Reasons.{answer_of}
use Rattle.reasons.specs.declared.Reason.{Reason}
use Rattle.design.specs.Drawn.{unmade_of, MadeIs, made_case, made_none}
use Rattle.design.specs.declared.Mistake.{Mistake}
use Rattle.design.proofs.Once.{mistake_only, first_only}
use Rattle.answers.proofs.Unique.{write_once}

unmade_only : {v w : Spot × meant.Expected} (a b : Result (Result ℕ Reason) Mistake) → unmade_of a ≡ Some v → unmade_of b ≡ Some w → v ≡ w → a ≡ b
unmade_only (Err x) (Err y) e f h = ap Err (mistake_only x y (same_Some _ _ (e ∙ ap Some h ∙ sym f)))
unmade_only (Err x) (Ok w) e f h = absurd (none-some _ f)
unmade_only (Ok w) b e f h = absurd (none-some _ e)

pub made_once : {t old x y : List ℕ} (r s : Result (Result ℕ Reason) Mistake) → MadeIs t old r x → MadeIs t old s y → (r ≡ s) × (x ≡ y)
made_once {t} {old} {x} {y} r s (made_case c w I e C) (made_case d v K f D) =
    let again = subst (λ c. WriteCall c.p c.n (matrix_bytes c) (candidate_bytes c) (allowance_of c) old (answer_of v) y) (case_unique K I) D in
    let (same, buffers) = write_once w v _ _ _ _ _ C again in
    (e ∙ ap Ok same ∙ sym f, buffers)
made_once r s (made_case c w I e C) (made_none q f none_is B u h) = absurd (none_is c I)
made_once r s (made_none p e none_is A v g) (made_case d w K f D) = absurd (none_is d K)
made_once r s (made_none p e none_is A v g) (made_none q f none-too B u h) =
    let (spot, thing) = first_only A B in
    (unmade_only r s v u (λ i. (spot i, thing i)), g ∙ sym h)
