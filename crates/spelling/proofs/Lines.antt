-- What a line and a text say, from what their pieces say.
--   blank_line, word_line   a line without cells, and one with a word and more
--   blank_said, line-said   what they say
--   line_end        where a line with cells ends
--   Reading x p i us y   what is left to say, the lines us from number i on behind the spot p, comes to y
--   text_start, lines_next, lines_last   before the first line, one line more, behind the last
--   end_line        a line ends in itself, or where the line before did
-- Assumes nothing.
use mathlib.Core.Path.{◌≡◌, refl, sym, ap, ap₂, subst, ◌∙◌}
use mathlib.Core.List.{List, [], ◌∷◌}
use Prim.Native.Nat.{ℕ, ◌+◌, ◌<◌, ◌≤◌}
use native.Mathlib.Numerals.{add-one}
use native.Mathlib.Omega.{arith}
use lib.ListN.{length, get_or, drop, drop_of_length-le}
use Rattle.meaning.specs.Design.{Spot, said, spot_at, separator_in, without_mark, cut_at, cells_of, cells_in, letter_of, cells_said, line_said, end_of}
use Rattle.meaning.specs.Design.{lines_said, text_said}
use Rattle.cells.specs.Cells.{used_part}
use Rattle.spelling.specs.Trace.{Tracing, step, steps}
use Rattle.spelling.proofs.Outcome.{steps_append}
use Rattle.spelling.proofs.Pieces.{pieces_turn}

pub blank_line : (s : ℕ) (l : List ℕ) {u : List ℕ} → u ≡ used_part s l → length u ≡ 0 → cells_in s l ≡ []
unfolding cells_in cells_of
blank_line s l {u = []} e h = ap (cells_of s) (sym e)
blank_line s l {u = x ∷ u} e h = absurd (omega arith)

pub word_line : (s : ℕ) (l : List ℕ) {u w : List ℕ} {ws : List (List ℕ)} → u ≡ used_part s l → ¬ (length u ≡ 0) → cut_at s (used_part s l) ≡ w ∷ ws → cells_in s l ≡ w ∷ ws
unfolding cells_in cells_of
word_line s l {u = []} e h c = absurd (h refl)
word_line s l {u = x ∷ u} e h c = ap (cells_of s) (sym e) ∙ ap (cut_at s) e ∙ c

pub blank_said : (x : Tracing) (before : Spot) (i : ℕ) {ws : List (List ℕ)} → ws ≡ [] → (x ≡ steps x (line_said before i ws)) × (before ≡ end_of before i ws)
unfolding line_said steps
blank_said x before i e = (ap (λ ws. steps x (line_said before i ws)) (sym e), ap (end_of before i) (sym e))

pub line-said : {m n z : Tracing} {b : ℕ} (x : Tracing) (before : Spot) (i : ℕ) {cells : List (List ℕ)} {w : List ℕ} {ws : List (List ℕ)} → cells ≡ w ∷ ws
    → b ≡ letter_of w → m ≡ step x (said before 255) → n ≡ step m (said (spot_at i 1) b) → z ≡ steps n (cells_said b i 2 ws)
    → z ≡ steps x (line_said before i cells)
unfolding line_said steps
line-said {m} {n} {z} {b} x before i {cells} {w} {ws} e l f g h =
    h ∙ ap (λ y. steps y (cells_said b i 2 ws)) (g ∙ ap (λ y. step y (said (spot_at i 1) b)) f)
    ∙ ap (λ c. steps (step (step x (said before 255)) (said (spot_at i 1) c)) (cells_said c i 2 ws)) l
    ∙ ap (λ v. steps x (line_said before i v)) (sym e)

pub line_end : {p : Spot} (before : Spot) (i : ℕ) {cells : List (List ℕ)} {w : List ℕ} {ws : List (List ℕ)} → cells ≡ w ∷ ws
    → p ≡ spot_at i (2 + length ws) → p ≡ end_of before i cells
line_end before i {w = w} {ws = ws} e f =
    let n : 2 + length ws ≡ length (w ∷ ws) + 1 = omega arith in
    f ∙ ap (spot_at i) n ∙ ap (end_of before i) (sym e)

-- lines, one after another
pub record Reading (x : Tracing) (s : ℕ) (p : Spot) (i : ℕ) (us : List (List ℕ)) (y : Tracing) : Type 0 where
  pub comes : steps x (lines_said s p i us) ≡ y

pub text_start : {s : ℕ} {body : List ℕ} (x : Tracing) (t : List ℕ) → s ≡ separator_in t → body ≡ without_mark t
    → Reading x s (spot_at 0 1) 1 (cut_at 10 body) (steps x (text_said t))
unfolding text_said
text_start x t e f = record { comes = ap₂ (λ b u. steps x (lines_said b (spot_at 0 1) 1 (cut_at 10 u))) e f }

lines_turn : {x y z : Tracing} {p q : Spot} {s i : ℕ} {us ls : List (List ℕ)} {l : List ℕ} → Reading x s p i us y → us ≡ l ∷ ls
    → z ≡ steps x (line_said p i (cells_in s l)) → q ≡ end_of p i (cells_in s l) → Reading z s q (i + 1) ls y
unfolding lines_said
lines_turn {x} {y} {z} {p} {q} {s} {i} {us} {ls} {l} R e f g = record {
  comes = (λ k. steps (f k) (lines_said s (g k) (add-one i k) ls)) ∙ sym (steps_append x (line_said p i (cells_in s l)) _)
      ∙ ap (λ u. steps x (lines_said s p i u)) (sym e) ∙ R.comes;
}

pub lines_next : {x y z : Tracing} {p q : Spot} {s i e : ℕ} {l : List ℕ} (us : List (List ℕ)) (k : ℕ) → Reading x s p i (drop k us) y
    → (k < length us) × (l ≡ get_or us k l) → e ≡ k + 1 → z ≡ steps x (line_said p i (cells_in s l)) → q ≡ end_of p i (cells_in s l)
    → Reading z s q (i + 1) (drop e us) y
lines_next {y = y} {z = z} {q = q} {s = s} {i = i} us k R h e f g =
    subst (λ n. Reading z s q (i + 1) (drop n us) y) (sym e) (lines_turn R (pieces_turn us k h) f g)

pub lines_last : {x y m n : Tracing} {p : Spot} {s i : ℕ} (us : List (List ℕ)) (k : ℕ) → Reading x s p i (drop k us) y → k ≡ length us → m ≡ step x (said p 255)
    → n ≡ step m (said (spot_at (p.line + 1) 1) 69) → n ≡ y
unfolding lines_said steps
lines_last {x} {y} {m} {n} {p} {s} {i} us k R h f g =
    let e : drop k us ≡ [] = drop_of_length-le us (omega arith) in
    g ∙ ap (λ t. step t (said (spot_at (p.line + 1) 1) 69)) f ∙ ap (λ k. step (step x (said p 255)) (said (spot_at k 1) 69)) (add-one p.line)
    ∙ ap (λ u. steps x (lines_said s p i u)) (sym e) ∙ R.comes

ended_in : {p : Spot} (before : Spot) (i : ℕ) (ws : List (List ℕ)) → p ≡ end_of before i ws → before.line ≤ i → p.line ≤ i
ended_in before i [] e h = omega (arith, ap (λ (p : Spot). p.line) e)
ended_in before i (w ∷ ws) e h = omega (arith, ap (λ (p : Spot). p.line) e)

pub end_line : {p : Spot} (before : Spot) (i s : ℕ) (l : List ℕ) → p ≡ end_of before i (cells_in s l) → before.line ≤ i → p.line ≤ i
end_line before i s l = ended_in before i (cells_in s l)
