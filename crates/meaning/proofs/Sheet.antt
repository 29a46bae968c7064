-- The lines of a sheet: a case has one list of them, and they can be read back from their bytes.
--   alike_stage_lines        alike stages print the same lines
--   stand_lines-only         the lines of a stand depend on the polynomial's coefficients only
--   sheet_lines_only         the lines of a sheet are the only ones
--   sheet_lines_wordy        their words have no digit and no newline
--   refused_wordy           nor has the one of a REFUSED line
-- Assumes nothing.
use mathlib.Core.Path.{◌≡◌, refl, sym, ap, ap₂, ◌∙◌}
use mathlib.Core.Bool.{Bool, true, false, ◌&&◌, ◌||◌, and-eq-true_iff}
use mathlib.Core.List.{List, [], ◌∷◌, ◌++◌, map}
use Rattle.std.specs.Prelude.{Option, None, Some}
use Prim.Native.Nat.{ℕ, suc}
use Prim.Native.String.{String}
use native.Mathlib.Omega.{arith}
use lib.Dec.{leb, eqb}
use borrow.Author.Tests.{leb-true, eqb-true}
use Rattle.algebra.specs.Field.{Prime}
use Rattle.algebra.specs.Row.{S}
use Rattle.algebra.specs.Poly.{Poly, coef}
use Rattle.algebra.specs.Orders.{WithDegree, Alike}
use Rattle.algebra.proofs.Act.{act-coef}
use Rattle.algebra.proofs.Alike.{alike_elim, alike_product}
use Rattle.meaning.specs.Ascii.{ascii}
use Rattle.meaning.specs.Bytes.{times, e, bytes}
use Rattle.meaning.specs.Stand.{Standing, proved, short, Outcome}
use Rattle.meaning.specs.Line.{Line}
use Rattle.meaning.specs.Print.{Each, Plain, Wordy}
use Rattle.meaning.specs.Sheet.{field_line, stand_lines, stage_line, chain_line, period_line, refused_line, SheetLines}
use Rattle.meaning.proofs.Unique.{stand-only, chain-only, period_only}

alike_stage_lines : {p : ℕ} (os qs : List (WithDegree p)) → Alike os qs → map stage_line os ≡ map stage_line qs
alike_stage_lines =
    alike_elim (λ os qs. map stage_line os ≡ map stage_line qs) refl
    (λ o q os qs d c r. ap₂ ◌∷◌ (λ i. record { word = "STAGE"; numbers = bytes (suc (d i)) (c i) }) r)

stand_lines-only : {p : ℕ} (n : ℕ) (X : S p → S p) (s : Standing) (r : Outcome) (f g : Poly p) → coef f ≡ coef g
    → stand_lines n X s r f ≡ stand_lines n X s r g
stand_lines-only n X proved r f g q = λ i.
    record { word = "STAND proved"; numbers = r.taken ∷ r.spent ∷ [] }
    ∷ record { word = "MINPOLY"; numbers = bytes (suc r.degree) (q i) }
    ∷ record { word = "WITNESS none"; numbers = [] }
    ∷ []
stand_lines-only n X short r f g q = λ i.
    record { word = "STAND short"; numbers = r.taken ∷ r.spent ∷ [] }
    ∷ record { word = "DIVISOR"; numbers = bytes (suc r.degree) (q i) }
    ∷ record { word = "WITNESS"; numbers = r.witness ∷ bytes n (act-coef X f g q (e r.witness) i) }
    ∷ []

pub sheet_lines_only : {p : ℕ} → Prime p → (n : ℕ) (m cs : List ℕ) (a : ℕ) (xs ys : List Line) → SheetLines p n m cs a xs → SheetLines p n m cs a ys → xs ≡ ys
sheet_lines_only {p} P n m cs a xs ys A B =
    let (same, q) = stand-only P n m cs a A.outcome B.outcome A.poly B.poly A.stand B.stand in
    let X = times p n m in
    let alike = chain-only P n m cs A.stages B.stages A.chain B.chain in
    let t = period_only p n m A.period B.period A.returns B.returns in
    let front = stand_lines-only n X A.outcome.standing A.outcome A.poly B.poly q
    ∙ ap (λ (r : Outcome). stand_lines n X r.standing r B.poly) same in
    let chained : chain_line n A.stages ≡ chain_line n B.stages = λ i. record { word = "CHAIN"; numbers = bytes (suc n) (alike_product A.stages B.stages alike i) } in
    A.lines
    ∙ ap (λ l. field_line p n ∷ l) (ap₂ ◌++◌ front (ap₂ ◌++◌ (alike_stage_lines A.stages B.stages alike) (ap₂ (λ x o. x ∷ period_line o ∷ []) chained t)))
    ∙ sym B.lines

-- a test for letters and spaces, which is run on the words
abbrev lettered : List ℕ → Bool
lettered [] = true
lettered (b ∷ l) = (leb 58 b || eqb 32 b) && lettered l

letter_plain : (b : ℕ) (t : Bool) → leb 58 b ≡ t → t || eqb 32 b ≡ true → Plain b
letter_plain b true q h = let l = leb-true 58 b q in (λ d. omega arith, λ n. omega arith)
letter_plain b false q h = let l = eqb-true 32 b h in (λ d. omega arith, λ n. omega arith)

lettered_plain : (l : List ℕ) → lettered l ≡ true → Each Plain l
lettered_plain [] h = tt
lettered_plain (b ∷ l) h = let t = (and-eq-true_iff (leb 58 b || eqb 32 b) (lettered l)).0 h in (letter_plain b (leb 58 b) refl t.0, lettered_plain l t.1)

word_plain : (w : String) → lettered (ascii w) ≡ true → Each Plain (ascii w)
word_plain w = lettered_plain (ascii w)

last_wordy : {p : ℕ} (n : ℕ) (st : List (WithDegree p)) (o : Option ℕ) → Wordy (chain_line n st ∷ period_line o ∷ [])
last_wordy n st None = (word_plain "CHAIN" refl, (word_plain "PERIOD none" refl, tt))
last_wordy n st (Some t) = (word_plain "CHAIN" refl, (word_plain "PERIOD" refl, tt))

stages_wordy : {p : ℕ} (st : List (WithDegree p)) (ys : List Line) → Wordy ys → Wordy (map stage_line st ++ ys)
stages_wordy [] ys h = h
stages_wordy (s ∷ st) ys h = (word_plain "STAGE" refl, stages_wordy st ys h)

stand_wordy : {p : ℕ} (n : ℕ) (X : S p → S p) (s : Standing) (r : Outcome) (f : Poly p) (ys : List Line) → Wordy ys → Wordy (stand_lines n X s r f ++ ys)
stand_wordy n X proved r f ys h = (word_plain "STAND proved" refl, (word_plain "MINPOLY" refl, (word_plain "WITNESS none" refl, h)))
stand_wordy n X short r f ys h = (word_plain "STAND short" refl, (word_plain "DIVISOR" refl, (word_plain "WITNESS" refl, h)))

pub sheet_lines_wordy : {p n : ℕ} {m cs : List ℕ} {a : ℕ} {xs : List Line} → SheetLines p n m cs a xs → Wordy xs
sheet_lines_wordy {p} {n} {m} A =
    let last = chain_line n A.stages ∷ period_line A.period ∷ [] in
    let stages = stages_wordy A.stages last (last_wordy n A.stages A.period) in
    rw A.lines
    (word_plain "FIELD" refl, stand_wordy n (times p n m) A.outcome.standing A.outcome A.poly (map stage_line A.stages ++ last) stages)

pub refused_wordy : (k : ℕ) → Wordy (refused_line k ∷ [])
refused_wordy k = (word_plain "REFUSED" refl, tt)
