-- A text and a line are gone through piece by piece.
--   cut_split       std's pieces of a list are the pieces of `Design`
--   length_cut      there is at most one more than the list is long
--   pieces_turn     the next piece, and those behind it
--   first_piece     the first piece of an iterator, and what it has left
--   Going y b i ws x cell   what is left to say, the cells ws from number `cell` on, comes to what all come to
--   going_next, going_end   one cell more, behind the last
-- Assumes nothing.
use mathlib.Core.Path.{◌≡◌, refl, sym, ap, ap₂, subst, ◌∙◌}
use mathlib.Core.Bool.{Bool, true, false, cond}
use mathlib.Core.List.{List, [], ◌∷◌, map}
use Prim.Native.Nat.{ℕ, suc, ◌+◌, ◌<◌, ◌≤◌}
use native.Mathlib.Numerals.{add-one}
use native.Mathlib.Omega.{arith}
use lib.ListN.{length, get_or, drop, drop_of_length-le}
use lib.Seq.{drop-cons}
use lib.Dec.{eqb}
use Rattle.std.specs.Prelude.{Option, None, Some}
use Rattle.std.specs.List.{slice_split, onto_first}
use Rattle.std.specs.Slice.Iter as slice
use Rattle.std.specs.Fn.{CalledAt}
use Rattle.std.specs.Iterator.{AlwaysYields, Yields}
use Rattle.std.proofs.lemmas.Iterator.{YieldsList}
use Rattle.std.proofs.lemmas.Iterator.Splits.{YieldsList-from_slice_split}
use Rattle.std.proofs.lemmas.Iterator.Consumers.{YieldsList-turn, YieldsList-end}
use denote.Param.Members.{Mut}
use denote.Ref.{Bor}
use Rattle.meaning.specs.Design.{said, spot_at, joined, cut_at, cell_bytes, cells_said}
use Rattle.spelling.specs.Trace.{Tracing, steps}
use Rattle.spelling.proofs.Outcome.{steps_append}

onto_joined : (x : ℕ) (ls : List (List ℕ)) → onto_first x ls ≡ joined x ls
unfolding joined
onto_joined x [] = refl
onto_joined x (l ∷ ls) = refl

pub cut_split : (b : ℕ) (s : List ℕ) → slice_split (λ x. eqb x b) s ≡ cut_at b s
unfolding cut_at
cut_split b [] = refl
cut_split b (x ∷ s) = ap₂ (cond (eqb x b)) (ap (λ ls. [] ∷ ls) (cut_split b s)) (onto_joined x (slice_split (λ y. eqb y b) s) ∙ ap (joined x) (cut_split b s))

length_joined : (x n : ℕ) (ls : List (List ℕ)) → 0 < n → length ls ≤ n → length (joined x ls) ≤ n
unfolding joined
length_joined x n [] h k = omega arith
length_joined x n (l ∷ ls) h k = omega arith

pub length_cut : (b : ℕ) (s : List ℕ) → length (cut_at b s) ≤ length s + 1
unfolding cut_at
length_cut b [] = omega arith
length_cut b (x ∷ s) = go (eqb x b) (length_cut b s)
  where
    go : (t : Bool) → length (cut_at b s) ≤ length s + 1 → length (cond t ([] ∷ cut_at b s) (joined x (cut_at b s))) ≤ suc (length s) + 1
    go true h = omega arith
    go false h = length_joined x (suc (length s) + 1) (cut_at b s) (omega arith) (omega arith)

pub pieces_turn : (L : List (List ℕ)) (k : ℕ) {w : List ℕ} → (k < length L) × (w ≡ get_or L k w) → drop k L ≡ w ∷ drop (k + 1) L
pieces_turn L k {w} (h, e) = drop-cons L k w h ∙ ap₂ ◌∷◌ (sym e) (ap (λ j. drop j L) (sym (add-one k)))

-- cells, one after another
pub record Going (y : Tracing) (b i : ℕ) (ws : List (List ℕ)) (x : Tracing) (j : ℕ) (vs : List (List ℕ)) : Type 0 where
  pub comes : steps x (cells_said b i j vs) ≡ steps y (cells_said b i 2 ws)
  pub counted : j + length vs ≡ 2 + length ws

going_turn : {y x z : Tracing} {b i j : ℕ} {ws us vs : List (List ℕ)} {w : List ℕ} → Going y b i ws x j us → us ≡ w ∷ vs
    → z ≡ steps x (map (said (spot_at i j)) (cell_bytes b w)) → Going y b i ws z (j + 1) vs
unfolding cells_said
going_turn {y} {x} {z} {b} {i} {j} {ws} {us} {vs} {w} G e f =
    record {
      comes = ap₂ (λ t k. steps t (cells_said b i k vs)) f (add-one j) ∙ sym (steps_append x (map (said (spot_at i j)) (cell_bytes b w)) _)
          ∙ ap (λ u. steps x (cells_said b i j u)) (sym e) ∙ G.comes;
      counted = omega (arith, G.counted, ap length e);
    }

pub going_next : {y x z : Tracing} {b i j e : ℕ} {ws : List (List ℕ)} {w : List ℕ} (k : ℕ) → Going y b i ws x j (drop k ws)
    → (k < length ws) × (w ≡ get_or ws k w) → e ≡ k + 1 → z ≡ steps x (map (said (spot_at i j)) (cell_bytes b w)) → Going y b i ws z (j + 1) (drop e ws)
going_next {y = y} {z = z} {b = b} {i = i} {j = j} {ws = ws} k G h e f =
    subst (λ n. Going y b i ws z (j + 1) (drop n ws)) (sym e) (going_turn G (pieces_turn ws k h) f)

pub going_end : {y x : Tracing} {b i j : ℕ} {ws : List (List ℕ)} (k : ℕ) → Going y b i ws x j (drop k ws) → k ≡ length ws
    → (x ≡ steps y (cells_said b i 2 ws)) × (j ≡ 2 + length ws)
unfolding cells_said steps
going_end {x = x} {b = b} {i = i} {j = j} {ws = ws} k G h =
    let e : drop k ws ≡ [] = drop_of_length-le ws (omega arith) in
    (ap (λ u. steps x (cells_said b i j u)) (sym e) ∙ G.comes, omega (arith, G.counted, ap length e))

-- std's pieces of a list, by a closure that tells the byte b
pub split_pieces : {F : Type 0} {s : _} (g : Mut F (Bor ℕ × Unit {0}) Bool) (b : ℕ) {f : F} {xs all : List ℕ} → slice.split_rest s ≡ xs
    → slice.split_done s ≡ false → slice.split_callee s ≡ f → xs ≡ all → ((x : ℕ) (r : Bool) (q : F) → CalledAt g f x r q → (q ≡ f) × (r ≡ eqb x b))
    → YieldsList (slice.split_steps g) (λ y. y.now) s (cut_at b all)
split_pieces {s = s} g b {xs = xs} e d f h k =
    subst (λ ws. YieldsList (slice.split_steps g) (λ x. x.now) s ws) (cut_split b xs ∙ ap (cut_at b) h) (YieldsList-from_slice_split {s = s} g (λ x. eqb x b) xs e d f k)

-- the first piece of an iterator, and what it has left behind it; where the next piece stands, and how many there were
module _ {S : Type 0} {steps : S → Option (Bor (List ℕ)) → S → Type 0} where
  go : (s t : S) (x : Bor (List ℕ)) (ls : List (List ℕ)) → steps s (Some x) t → AlwaysYields steps (λ y. y.now) s ls
      → (ls ≡ x.now ∷ drop 1 ls) × YieldsList steps (λ y. y.now) t (drop 1 ls)
  go s t x [] h Y = absurd (Y x t h)
  go s t x (l ∷ ls) h Y = let r = Y.1 x t h in (ap (λ z. z ∷ ls) (sym r.0), record { runs = r.1 })

  pub first_piece : {all : List (List ℕ)} (s t : S) (x : Bor (List ℕ)) → steps s (Some x) t → YieldsList steps (λ y. y.now) s all
      → (all ≡ x.now ∷ drop 1 all) × YieldsList steps (λ y. y.now) t (drop 1 all)
  first_piece {all = all} s t x h Y = go s t x all h Y.runs

  pub next_piece : {all : List (List ℕ)} {s : S} (xs : List (Bor (List ℕ))) (t u : S) (r : Option (Bor (List ℕ))) (x : Bor (List ℕ)) → Yields steps s xs t → r ≡ Some x → steps t r u
      → YieldsList steps (λ y. y.now) s all → (length xs < length all) × (x.now ≡ get_or all (length xs) x.now)
  next_piece xs t u r x y e h Y = YieldsList-turn Y xs t y r u x e h

  pub no_piece : {all : List (List ℕ)} {s : S} (xs : List (Bor (List ℕ))) (t u : S) (r : Option (Bor (List ℕ))) → Yields steps s xs t → r ≡ None → steps t r u
      → YieldsList steps (λ y. y.now) s all → length xs ≡ length all
  no_piece xs t u r y e h Y = (YieldsList-end Y xs t y r u e h).1
