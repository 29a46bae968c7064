-- A text says E at its end and nowhere else.
--   is_letter, is_over   the states in front of a letter, and behind E
--   letter_mark, over_letter   a letter comes behind a mark, and E is a letter
--   Quiet c bs       behind the byte c, no mark of bs is followed by the letter of E
--   quiet_run        so E does not come in bs
--   marked_end       where a mark and the letter of E begin a case, it is over
--   front_said        what lines say without the end
--   lines_end        the end of what lines say
--   front_quiet      in front of it E does not come
-- Assumes nothing.
use mathlib.Core.Path.{◌≡◌, refl, sym, ap, subst, ◌∙◌}
use mathlib.Core.Bool.{Bool, true, false, cond, false≢true}
use mathlib.Core.Logic.{◌⊎◌, ⊎_elim}
use mathlib.Core.List.{List, [], ◌∷◌, ◌++◌, map, map-append, append_assoc}
use Rattle.std.specs.Prelude.{Option, None, Some}
use Prim.Native.Nat.{ℕ, zero, suc, ◌+◌, ◌/◌, ◌%◌, ◌≤◌}
use native.Mathlib.Omega.{arith}
use lib.ListN.{take}
use lib.Dec.{leb, ltb, eqb}
use borrow.Author.Tests.{eqb-true, leb-true, ltb-true, le-ltb}
use Rattle.algebra.proofs.Field.{pick_each}
use Rattle.meaning.specs.Bounds.{widest, most_candidates, most_allowance}
use Rattle.meaning.specs.Refusal.{is_prime}
use Rattle.meaning.specs.Case.{radix}
use Rattle.meaning.specs.Ascii.{ascii}
use Rattle.meaning.specs.Design.{Spot, Said, said, spot_at, no_byte, same, number_in, byte_in, halves_in, cell_bytes, letter_of}
use Rattle.meaning.specs.Design.{cells_in, cells_said, line_said, end_of, lines_said}
use Rattle.meaning.proofs.Refusal.{is_prime_prime}
use Rattle.scan.specs.declared.Head.{Head}
use Rattle.scan.specs.declared.State.{State}
use Rattle.scan.specs.declared.State.TheVariants.{Start, Opening, Modulus, Size, Body, Letter, Entries, Over, Dead}
use Rattle.scan.specs.Machine.{only, sized, letter, entered, after, run}
use Rattle.scan.proofs.Run.{Alive}
use Rattle.spelling.proofs.Outcome.{bytes_of}
use Rattle.design.proofs.Reached.{Reached}

abbrev pub is_letter : State → Bool
is_letter Start = false
is_letter Opening = false
is_letter Modulus = false
is_letter (Size p) = false
is_letter (Body h) = false
is_letter (Letter h) = true
is_letter (Entries h bound left) = false
is_letter (Over h) = false
is_letter Dead = false

abbrev pub is_over : State → Bool
is_over Start = false
is_over Opening = false
is_over Modulus = false
is_over (Size p) = false
is_over (Body h) = false
is_over (Letter h) = false
is_over (Entries h bound left) = false
is_over (Over h) = true
is_over Dead = false

-- a letter comes behind a mark
record BehindMark (b : ℕ) (q : State) : Type 0 where
  mark : is_letter q ≡ true → b ≡ 255

no_letter : (b : ℕ) (q : State) → is_letter q ≡ false → BehindMark b q
no_letter b q e = record { mark = λ f. absurd (false≢true (sym e ∙ f)) }

only-behind : {b : ℕ} (t : Bool) {q : State} → (t ≡ true → BehindMark b q) → BehindMark b (only t q)
only-behind {b} t h = pick_each (BehindMark b) t h (λ _. no_letter b Dead refl)

letter_mark : (q : State) (b : ℕ) → BehindMark b (after q b)
unfolding after sized letter entered
letter_mark Start b = only-behind (eqb b 255) (λ _. no_letter b Opening refl)
letter_mark Opening b = only-behind (eqb b 70) (λ _. no_letter b Modulus refl)
letter_mark Modulus b = only-behind (is_prime b) (λ _. no_letter b (Size b) refl)
letter_mark (Size p) b = only-behind (leb 1 b) (λ _. only-behind (leb b widest) (λ _. no_letter b (Body _) refl))
letter_mark (Body h) b = only-behind (eqb b 255) (λ e. record { mark = λ _. eqb-true b 255 e })
letter_mark (Letter h) b =
    pick_each (BehindMark b) (eqb b 65) (λ _. only-behind h.fresh (λ _. no_letter b (Entries _ _ _) refl))
    (λ _. pick_each (BehindMark b) (eqb b 82) (λ _. only-behind (ltb h.count h.n) (λ _. no_letter b (Entries _ _ _) refl))
    (λ _. only-behind (leb h.n h.count)
    (λ _. pick_each (BehindMark b) (eqb b 67) (λ _. only-behind (ltb h.count (h.n + most_candidates)) (λ _. no_letter b (Entries _ _ _) refl))
    (λ _. only-behind (eqb b 69) (λ _. no_letter b (Over _) refl)))))
letter_mark (Entries h bound left) b =
    only-behind (ltb b bound) (λ _. pick_each (BehindMark b) (leb left 1) (λ _. no_letter b (Body h) refl) (λ _. no_letter b (Entries _ _ _) refl))
letter_mark (Over h) b = no_letter b Dead refl
letter_mark Dead b = no_letter b Dead refl

-- E is a letter
record EndsBy (q : State) (b : ℕ) (z : State) : Type 0 where
  ends : is_over z ≡ true → (is_letter q ≡ true) × (b ≡ 69)

no_end : (q : State) (b : ℕ) (z : State) → is_over z ≡ false → EndsBy q b z
no_end q b z e = record { ends = λ f. absurd (false≢true (sym e ∙ f)) }

only_ends : {q : State} {b : ℕ} (t : Bool) {z : State} → (t ≡ true → EndsBy q b z) → EndsBy q b (only t z)
only_ends {q} {b} t h = pick_each (EndsBy q b) t h (λ _. no_end q b Dead refl)

over_letter : (q : State) (b : ℕ) → EndsBy q b (after q b)
unfolding after sized letter entered
over_letter Start b = only_ends (eqb b 255) (λ _. no_end Start b Opening refl)
over_letter Opening b = only_ends (eqb b 70) (λ _. no_end Opening b Modulus refl)
over_letter Modulus b = only_ends (is_prime b) (λ _. no_end Modulus b (Size b) refl)
over_letter (Size p) b = only_ends (leb 1 b) (λ _. only_ends (leb b widest) (λ _. no_end (Size p) b (Body _) refl))
over_letter (Body h) b = only_ends (eqb b 255) (λ _. no_end (Body h) b (Letter h) refl)
over_letter (Letter h) b =
    let P : State → Type 0 = EndsBy (Letter h) b in
    let None : (k : Head) (bound left : ℕ) → P (Entries k bound left) = λ k bound left. no_end (Letter h) b (Entries k bound left) refl in
    pick_each P (eqb b 65) (λ _. only_ends h.fresh (λ _. None _ _ _))
    (λ _. pick_each P (eqb b 82) (λ _. only_ends (ltb h.count h.n) (λ _. None _ _ _))
    (λ _. only_ends (leb h.n h.count)
    (λ _. pick_each P (eqb b 67) (λ _. only_ends (ltb h.count (h.n + most_candidates)) (λ _. None _ _ _))
    (λ _. only_ends (eqb b 69) (λ e. record { ends = λ _. (refl, eqb-true b 69 e) })))))
over_letter (Entries h bound left) b =
    let q : State = Entries h bound left in
    only_ends (ltb b bound) (λ _. pick_each (EndsBy q b) (leb left 1) (λ _. no_end q b (Body h) refl) (λ _. no_end q b (Entries _ _ _) refl))
over_letter (Over h) b = no_end (Over h) b Dead refl
over_letter Dead b = no_end Dead b Dead refl

abbrev pub Quiet : ℕ → List ℕ → Type 0
Quiet c [] = Unit {0}
Quiet c (b ∷ bs) = (c ≡ 255 → b ≡ 69 → ⊥) × Quiet b bs

quiet_from : (q : State) (c : ℕ) (bs : List ℕ) → (is_letter q ≡ true → c ≡ 255) → is_over q ≡ false → Quiet c bs → is_over (run q bs) ≡ false
unfolding run
quiet_from q c [] m o u = o
quiet_from q c (b ∷ bs) m o u = quiet_from (after q b) b bs (letter_mark q b).mark (still (is_over (after q b)) refl) u.1
  where
    still : (t : Bool) → is_over (after q b) ≡ t → is_over (after q b) ≡ false
    still true e = let (l, k) = (over_letter q b).ends e in absurd (u.0 (m l) k)
    still false e = e

pub quiet_run : (bs : List ℕ) → Quiet 0 bs → is_over (run Start bs) ≡ false
quiet_run bs u = quiet_from Start 0 bs (λ e. absurd (false≢true e)) refl u

pub quiet_take : (c k : ℕ) (bs : List ℕ) → Quiet c bs → Quiet c (take k bs)
quiet_take c zero bs u = tt
quiet_take c (suc k) [] u = tt
quiet_take c (suc k) (b ∷ bs) u = (u.0, quiet_take b k bs u.1)

-- where a mark and the letter of E begin a case, it is over
no_entry : (h : Head) (bound left : ℕ) → (bound ≡ radix) ⊎ (is_prime bound ≡ true) → entered h bound left 255 ≡ Dead
unfolding entered
no_entry h bound left g =
    let small : bound ≤ 255 = ⊎_elim (λ e. omega (arith, e)) (λ e. omega (arith, (is_prime_prime bound e).1)) g in
    rw (le-ltb 255 bound small)

pub marked_end : (q : State) → Reached q → Alive (run q (255 ∷ 69 ∷ [])) → is_over (run q (255 ∷ 69 ∷ [])) ≡ true
unfolding run after sized letter entered is_prime
marked_end Start g a = absurd (a refl)
marked_end Opening g a = absurd (a refl)
marked_end Modulus g a = absurd (a refl)
marked_end (Size p) g a = absurd (a refl)
marked_end (Body h) g a = pick_each (λ z. Alive z → is_over z ≡ true) (leb h.n h.count) (λ _ _. refl) (λ _ d. absurd (d refl)) a
marked_end (Letter h) g a =
    absurd (a (ap (λ z. after z 69) (pick_each (λ z. z ≡ Dead) (leb h.n h.count) {a = Dead} {b = Dead} (λ _. refl) (λ _. refl))))
marked_end (Entries h bound left) g a = absurd (a (ap (λ z. after z 69) (no_entry h bound left g.1)))
marked_end (Over h) g a = absurd (a refl)
marked_end Dead g a = absurd (a refl)

-- what lines say without the end, and the end
unfoldable pub front_said : ℕ → Spot → ℕ → List (List ℕ) → List Said
front_said s before i [] = []
front_said s before i (l ∷ ls) = line_said before i (cells_in s l) ++ front_said s (end_of before i (cells_in s l)) (suc i) ls

pub record Ended (xs front : List Said) : Type 0 where
  pub mark : Spot
  pub last : Spot
  pub whole : xs ≡ front ++ (said mark 255 ∷ said last 69 ∷ [])

pub lines_end : (s : ℕ) (before : Spot) (i : ℕ) (ls : List (List ℕ)) → Ended (lines_said s before i ls) (front_said s before i ls)
unfolding lines_said front_said
lines_end s before i [] = record { mark = _; last = _; whole = refl }
lines_end s before i (l ∷ ls) =
    let E = lines_end s (end_of before i (cells_in s l)) (suc i) ls in
    let line : List Said = line_said before i (cells_in s l) in
    record { mark = E.mark; last = E.last; whole = ap (λ xs. line ++ xs) E.whole ∙ sym (append_assoc line _ _) }

-- no cell says a mark, and no word says one or the end
record Not (k b : ℕ) : Type 0 where
  other : b ≡ k → ⊥

cond_each : {A : Type 0} (P : A → Type 0) (t : Bool) {a b : A} → (t ≡ true → P a) → (t ≡ false → P b) → P (cond t a b)
cond_each P true h k = h refl
cond_each P false h k = k refl

letter_not : (w : List ℕ) (k : ℕ) → Not k 70 → Not k 65 → Not k 82 → Not k 67 → Not k 254 → Not k (letter_of w)
unfolding letter_of
letter_not w k f a r c n =
    cond_each (Not k) (same w (ascii "field")) (λ _. f) (λ _. cond_each (Not k) (same w (ascii "allowance")) (λ _. a)
    (λ _. cond_each (Not k) (same w (ascii "row")) (λ _. r) (λ _. cond_each (Not k) (same w (ascii "candidate")) (λ _. c) (λ _. n))))

letter_not_end : (w : List ℕ) → letter_of w ≡ 69 → ⊥
letter_not_end w =
    (letter_not w 69 (record { other = λ e. omega (arith, e) }) (record { other = λ e. omega (arith, e) }) (record { other = λ e. omega (arith, e) })
    (record { other = λ e. omega (arith, e) }) (record { other = λ e. omega (arith, e) })).other

letter_not_mark : (w : List ℕ) → letter_of w ≡ 255 → ⊥
letter_not_mark w =
    (letter_not w 255 (record { other = λ e. omega (arith, e) }) (record { other = λ e. omega (arith, e) }) (record { other = λ e. omega (arith, e) })
    (record { other = λ e. omega (arith, e) }) (record { other = λ e. omega (arith, e) })).other

data NoMark : List ℕ → Type 0 where
  none_left : NoMark []
  one_more : (b : ℕ) {bs : List ℕ} → (b ≡ 255 → ⊥) → NoMark bs → NoMark (b ∷ bs)

no_byte_lem : NoMark (no_byte ∷ [])
no_byte_lem = one_more no_byte (λ e. omega (arith, e)) none_left

halves_no_mark : (o : Option ℕ) → NoMark (halves_in o)
halves_no_mark None = no_byte_lem
halves_no_mark (Some v) =
    cond_each NoMark (leb v most_allowance)
    (λ e. let h = leb-true v most_allowance e in one_more (v / radix) (λ f. omega (arith, f, h)) (one_more (v % radix) (λ f. omega (arith, f)) none_left)) (λ _. no_byte_lem)

byte_no_mark : (o : Option ℕ) → NoMark (byte_in o ∷ [])
byte_no_mark None = no_byte_lem
byte_no_mark (Some v) =
    cond_each (λ b. NoMark (b ∷ [])) (ltb v no_byte) (λ e. let h = ltb-true v no_byte e in one_more v (λ f. omega (arith, f, h)) none_left) (λ _. no_byte_lem)

cell_no_mark : (b : ℕ) (w : List ℕ) → NoMark (cell_bytes b w)
unfolding cell_bytes
cell_no_mark b w = cond_each NoMark (eqb b 65) (λ _. halves_no_mark (number_in w)) (λ _. byte_no_mark (number_in w))

-- so what lines say is quiet, whatever comes before it
abbrev AllQuiet : List ℕ → Type 0
AllQuiet bs = (c : ℕ) → Quiet c bs

-- what has no mark does not say E, and ends in no mark
plain_quiet : (rest : List ℕ) (c : ℕ) (bs : List ℕ) → (c ≡ 255 → ⊥) → NoMark bs → ((d : ℕ) → (d ≡ 255 → ⊥) → Quiet d rest) → Quiet c (bs ++ rest)
plain_quiet rest c [] n m q = q c n
plain_quiet rest c (b ∷ bs) n (one_more d k m) q = (λ e. absurd (n e), plain_quiet rest b bs k m q)

said-bytes : (p : Spot) (bs : List ℕ) → bytes_of (map (said p) bs) ≡ bs
said-bytes p [] = refl
said-bytes p (b ∷ bs) = ap (λ l. b ∷ l) (said-bytes p bs)

cells_quiet : (rest : List ℕ) (c b i j : ℕ) (ws : List (List ℕ)) → (c ≡ 255 → ⊥) → AllQuiet rest → Quiet c (bytes_of (cells_said b i j ws) ++ rest)
unfolding cells_said
cells_quiet rest c b i j [] n q = q c
cells_quiet rest c b i j (w ∷ ws) n q =
    let p : Spot = spot_at i j in
    let more : List Said = cells_said b i (suc j) ws in
    let e : bytes_of (map (said p) (cell_bytes b w) ++ more) ++ rest ≡ cell_bytes b w ++ (bytes_of more ++ rest) =
    ap (λ l. l ++ rest) (map-append (λ (x : Said). x.byte) (map (said p) (cell_bytes b w)) more ∙ ap (λ l. l ++ bytes_of more) (said-bytes p (cell_bytes b w)))
    ∙ append_assoc (cell_bytes b w) (bytes_of more) rest in
    subst (Quiet c) (sym e) (plain_quiet (bytes_of more ++ rest) c (cell_bytes b w) n (cell_no_mark b w) (λ d k. cells_quiet rest d b i (suc j) ws k q))

line_quiet : (rest : List ℕ) (before : Spot) (i : ℕ) (ws : List (List ℕ)) → AllQuiet rest → AllQuiet (bytes_of (line_said before i ws) ++ rest)
unfolding line_said
line_quiet rest before i [] q c = q c
line_quiet rest before i (w ∷ ws) q c =
    (λ _ e. omega (arith, e), (λ _. letter_not_end w, cells_quiet rest (letter_of w) (letter_of w) i 2 ws (letter_not_mark w) q))

pub front_quiet : (s : ℕ) (before : Spot) (i : ℕ) (ls : List (List ℕ)) → AllQuiet (bytes_of (front_said s before i ls) ++ 255 ∷ [])
unfolding front_said
front_quiet s before i [] c = (λ _ e. omega (arith, e), tt)
front_quiet s before i (l ∷ ls) c =
    let line : List Said = line_said before i (cells_in s l) in
    let more : List Said = front_said s (end_of before i (cells_in s l)) (suc i) ls in
    let e : bytes_of (line ++ more) ++ 255 ∷ [] ≡ bytes_of line ++ (bytes_of more ++ 255 ∷ []) =
    ap (λ l. l ++ 255 ∷ []) (map-append (λ (x : Said). x.byte) line more) ∙ append_assoc (bytes_of line) (bytes_of more) (255 ∷ []) in
    subst (Quiet c) (sym e) (line_quiet (bytes_of more ++ 255 ∷ []) before i (cells_in s l) (front_quiet s (end_of before i (cells_in s l)) (suc i) ls) c)
