-- For every text one answer: whatever two designs the contract permits are the same.
--   fits-only       what is expected is known by the bytes that fit it
--   first_only      there is one first thing that is wrong, and one thing was expected there
--   code_of, code_back   the code's name for what was expected is known by what it means
--   mistake_only    so is a mistake
--   design_once     so there is one answer, and one content of its matrix and its candidates
-- Assumes nothing.
use mathlib.Core.Path.{◌≡◌, refl, sym, ap, subst, ◌∙◌, fun_ext}
use mathlib.Core.Bool.{Bool, true, false, cond, false≢true}
use mathlib.Core.List.{List, [], ◌∷◌, ◌++◌}
use Rattle.std.specs.Prelude.{Some, Result, Ok, Err}
use Rattle.std.proofs.lemmas.Option.{none-some, same_Some}
use Prim.Native.Nat.{ℕ, zero, suc, ◌+◌, ◌-◌, ◌≤◌}
use native.Mathlib.Nat.{add-zero, add-suc}
use native.Mathlib.Omega.{arith}
use lib.ListN.{length, take, get_or}
use lib.Dec.{ltb, eqb}
use borrow.Author.Tests.{lt-ltb, le-ltb, ne_eqb}
use Rattle.meaning.specs.Refusal.{all_below, is_prime}
use Rattle.meaning.specs.Bytes.{padded}
use Rattle.meaning.specs.Bounds.{matrix_room, candidate_room}
use Rattle.meaning.specs.Case.{radix, Begins, allowance_of, matrix_bytes, candidate_bytes}
use Rattle.meaning.specs.Design as meant
use Rattle.meaning.specs.Design.{Spot, said, spot_at, no_byte, Proper, fits, FirstWrong, bytes_said, text_said}
use Rattle.meaning.specs.Design.{word_field, prime, size, entry_below, allowance, line_end, allowance_or_row, word_row, candidate_or_end, text_end}
use Rattle.meaning.proofs.Refusal.{is_prime_prime}
use Rattle.meaning.proofs.Place.{place_unique}
use Rattle.meaning.proofs.CaseBytes.{case_unique}
use Rattle.design.specs.declared.Expected.{Expected}
use Rattle.design.specs.declared.Expected.TheVariants as expected
use Rattle.casefile.specs.declared.Case.{Case as Numbers}
use Rattle.design.specs.declared.Mistake.{Mistake}
use Rattle.design.specs.declared.Design.{Design}
use Rattle.design.specs.Expecting.{expected_as}
use Rattle.design.specs.Drawn.{drawn_of, mistake_of, wrong_of, DesignIs, drawn_case, wrong_spot}

-- how many of the bytes below k fit
counted : (ℕ → Bool) → ℕ → ℕ
counted f zero = 0
counted f (suc k) = cond (f k) 1 0 + counted f k

-- below the bound all fit, and behind it none does
counted_below : (b k : ℕ) → k ≤ b → counted (λ x. ltb x b) k ≡ k
unfolding counted
counted_below b zero h = refl
counted_below b (suc k) h = let i = counted_below b k (omega arith) in rw (lt-ltb k b (omega arith)) (omega (arith, i))

counted_all : (b j : ℕ) → counted (λ x. ltb x b) (b + j) ≡ b
unfolding counted
counted_all b zero = ap (counted (λ x. ltb x b)) (add-zero b) ∙ counted_below b b (omega arith)
counted_all b (suc j) =
    let i = counted_all b j in
    ap (counted (λ x. ltb x b)) (add-suc b j) ∙ rw (le-ltb (b + j) b (omega arith)) (omega (arith, i))

-- what fits, told by some bytes: the mark; 0 and how many there are; 1; the primes; letters
told : (ℕ → Bool) → meant.Expected
told f =
    cond (f 255) line_end
    (cond (f 0) (cond (eqb (counted f 256) radix) allowance (entry_below (counted f 256)))
    (cond (f 1) size (cond (f 251) prime
    (cond (f 70) word_field (cond (f 65) allowance_or_row (cond (f 82) word_row (cond (f 67) candidate_or_end text_end)))))))

no_radix : (p : ℕ) → is_prime p ≡ true → p ≡ radix → ⊥
unfolding is_prime all_below
no_radix p w e = false≢true (ap is_prime (sym e) ∙ w)

entry_back : (p : ℕ) → is_prime p ≡ true → told (fits (entry_below p)) ≡ entry_below p
unfolding told fits
entry_back p w =
    let (P, most) = is_prime_prime p w in
    let sum : 256 ≡ p + (256 - p) = omega (arith, most) in
    let all : counted (λ b. ltb b p) 256 ≡ p = ap (counted (λ b. ltb b p)) sum ∙ counted_all p (256 - p) in
    rw (le-ltb 255 p (omega (arith, most)), lt-ltb 0 p (omega (arith, P.big)), all, ne_eqb p radix (no_radix p w))

told_back : (e : meant.Expected) → Proper e → told (fits e) ≡ e
unfolding told fits is_prime all_below
told_back word_field w = refl
told_back prime w = refl
told_back size w = refl
told_back (entry_below p) w = entry_back p w
told_back allowance w = rw (counted_all 128 128)
told_back line_end w = refl
told_back allowance_or_row w = refl
told_back word_row w = refl
told_back candidate_or_end w = refl
told_back text_end w = refl

pub fits-only : (e f : meant.Expected) → Proper e → Proper f → ((b : ℕ) → fits e b ≡ fits f b) → e ≡ f
fits-only e f v w h = sym (told_back e v) ∙ ap told (fun_ext h) ∙ told_back f w

-- one first thing that is wrong
bool_same : (a b : Bool) → (a ≡ true → b ≡ true) → (b ≡ true → a ≡ true) → a ≡ b
bool_same true true f g = refl
bool_same true false f g = sym (f refl)
bool_same false true f g = g refl
bool_same false false f g = refl

pub first_only : {t : List ℕ} {p q : Spot} {e f : meant.Expected} → FirstWrong t p e → FirstWrong t q f → (p ≡ q) × (e ≡ f)
first_only {t} {p} {q} {e} {f} A B =
    let k = place_unique (bytes_said t) A.offset B.offset A.place B.place in (
      sym A.there ∙ ap (λ i. (get_or (text_said t) i (said (spot_at 0 0) no_byte)).spot) k ∙ B.there,
      fits-only e f A.proper B.proper (λ b. bool_same (fits e b) (fits f b)
          (λ h. B.might b (subst (λ i. Begins (take i (bytes_said t) ++ b ∷ [])) k (A.may b h)))
          (λ h. A.might b (subst (λ i. Begins (take i (bytes_said t) ++ b ∷ [])) (sym k) (B.may b h)))),
    )

-- one answer: the code's cases are known by what they mean
unfoldable pub code_of : meant.Expected → Expected
code_of word_field = expected.Field
code_of prime = expected.Prime
code_of size = expected.Size
code_of (entry_below p) = expected.Entry p
code_of allowance = expected.Allowance
code_of line_end = expected.LineEnd
code_of allowance_or_row = expected.AllowanceOrRow
code_of word_row = expected.Row
code_of candidate_or_end = expected.CandidateOrEnd
code_of text_end = expected.TextEnd

pub code_back : (x : Expected) → code_of (expected_as x) ≡ x
unfolding code_of
code_back expected.Field = refl
code_back expected.Prime = refl
code_back expected.Size = refl
code_back (expected.Entry p) = refl
code_back expected.Allowance = refl
code_back expected.LineEnd = refl
code_back expected.AllowanceOrRow = refl
code_back expected.Row = refl
code_back expected.CandidateOrEnd = refl
code_back expected.TextEnd = refl

drawn_only : {v w : ℕ × ℕ × ℕ × ℕ} (a b : Result Numbers Mistake) → drawn_of a ≡ Some v → drawn_of b ≡ Some w → v ≡ w → a ≡ b
drawn_only (Ok x) (Ok y) e f h =
    let s = same_Some _ _ (e ∙ ap Some h ∙ sym f) in
    λ i. Ok (record { p = (s i).0; n = (s i).1; allowance = (s i).2; count = (s i).3 })
drawn_only (Ok x) (Err m) e f h = absurd (none-some _ f)
drawn_only (Err m) b e f h = absurd (none-some _ e)

pub mistake_only : (a b : Mistake) → mistake_of a ≡ mistake_of b → a ≡ b
mistake_only a b s =
    let same : a.expected ≡ b.expected = sym (code_back a.expected) ∙ ap (λ t. code_of t.1) s ∙ code_back b.expected in
    λ i. record { spot = record { line = (s i).0.line; cell = (s i).0.cell }; expected = same i }

wrong_only : {v w : Spot × meant.Expected} (a b : Result Numbers Mistake) → wrong_of a ≡ Some v → wrong_of b ≡ Some w → v ≡ w → a ≡ b
wrong_only (Err x) (Err y) e f h = ap Err (mistake_only x y (same_Some _ _ (e ∙ ap Some h ∙ sym f)))
wrong_only (Err x) (Ok v) e f h = absurd (none-some _ f)
wrong_only (Ok v) b e f h = absurd (none-some _ e)

pub design_once : {t : List ℕ} (r s : Design) → DesignIs t r → DesignIs t s → r ≡ s
design_once r s (drawn_case c I v m cs) (drawn_case d K w n ds) =
    let same = case_unique I K in
    let a = drawn_only r.answer s.answer v w (λ i. ((same i).p, (same i).n, allowance_of (same i), length (same i).candidates)) in
    let x = m ∙ ap (λ c. padded matrix_room (matrix_bytes c)) same ∙ sym n in
    let y = cs ∙ ap (λ c. padded candidate_room (candidate_bytes c)) same ∙ sym ds in
    λ i. record { answer = a i; matrix = x i; candidates = y i }
design_once r s (drawn_case c I v m cs) (wrong_spot q f none_is B w n ds) = absurd (none_is c I)
design_once r s (wrong_spot p e none_is A v m cs) (drawn_case d K w n ds) = absurd (none_is d K)
design_once r s (wrong_spot p e none_is A v m cs) (wrong_spot q f none-too B w n ds) =
    let (spot, thing) = first_only A B in
    let a = wrong_only r.answer s.answer v w (λ i. (spot i, thing i)) in
    let x = m ∙ sym n in
    let y = cs ∙ sym ds in
    λ i. record { answer = a i; matrix = x i; candidates = y i }
