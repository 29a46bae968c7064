-- Every sheet fits a buffer of `sheet_room` bytes, and a shorter one is refused.
--   room_bytes        the code's room is that of a sheet
--   given_size        the length that the call answers is that of bytes at the front of the buffer
--   spaced_length     numbers below 1,000 take four bytes each at most
--   line_length       the bytes of a line
--   stand_lines_length, stage_lines_length, period_line_length   the lines of a stand, of its chain's stages, of a period, counted with all digits
--   sheet_lines_room   a sheet fits
--   refused_room      a REFUSED line fits
-- Assumes nothing.
use mathlib.Core.Path.{◌≡◌, refl, ap, ◌∙◌}
use mathlib.Core.List.{List, [], ◌∷◌, ◌++◌, map}
use Rattle.std.specs.Prelude.{Option, None, Some}
use Prim.Native.Nat.{ℕ, suc, ◌+◌, ◌*◌, ◌^◌, ◌<◌, ◌≤◌}
use Prim.Native.String.{String}
use native.Mathlib.Nat.{le_of_eq, le_trans}
use native.Mathlib.Omega.{arith}
use lib.ListN.{length, length-append}
use borrow.Author.Tests.{lt-ltb}
use Rattle.algebra.specs.Row.{S}
use Rattle.algebra.specs.Poly.{Poly, coef, act}
use Rattle.algebra.specs.Orders.{WithDegree, product, degrees}
use Rattle.algebra.proofs.Chain.{stages_positive}
use Rattle.meaning.specs.Ascii.{ascii}
use Rattle.meaning.specs.Bytes.{times, rows, e, bytes, Small}
use Rattle.meaning.specs.Bounds.{largest_prime, most_candidates, widest, Sound, SoundRows}
use Rattle.meaning.specs.Stand.{Standing, proved, short, Outcome, Tested}
use Rattle.meaning.specs.Period.{longest, IsPeriod}
use Rattle.meaning.specs.Refusal.{alone, refuse, too_short, first}
use Rattle.meaning.specs.Calls.{given}
use Rattle.meaning.specs.Line.{decimal, Line, spaced, line_bytes, text}
use Rattle.meaning.specs.Sheet.{field_line, stand_lines, stage_line, chain_line, period_line, refused_line, SheetLines, sheet_room, SheetCall}
use Rattle.meaning.proofs.Bytes.{bytes_length, bytes_small, rows_count, times_linear}
use Rattle.meaning.proofs.Degrees.{orders_count, stand_degree, chain_total}
use Rattle.meaning.proofs.Line.{decimal_length, text_append}
use Rattle.meaning.proofs.Refusal.{refuse_here, refuse_none, first_here, first_next, first_end, long-too_short}
use Rattle.meaning.proofs.Called.{called_given}
use Rattle.meaning.proofs.Written.{write_covers}

pub room_bytes : sheet_room ≡ 2048
unfolding sheet_room
room_bytes = refl

pub given_size : {s old new : List ℕ} {k : ℕ} → SheetCall s old (given k) new → k ≤ length new
given_size {old = old} h =
    let r = (called_given h).1 in
    omega (arith, r.size, ap length r.buffer, write_covers r.printed old)

spaced_length : (p : ℕ) (l : List ℕ) → p ≤ 1000 → Small p l → length (spaced l) ≤ 4 * length l
unfolding spaced
spaced_length p [] h s = omega arith
spaced_length p (x ∷ l) h s =
    omega (arith, length-append (decimal x) (spaced l), decimal_length 3 x (omega (arith, s.0)) (omega arith), spaced_length p l h s.1)

line_length : (w : String) (l : List ℕ) → length (line_bytes (record { word = w; numbers = l })) ≡ length (ascii w) + (length (spaced l) + 1)
unfolding line_bytes
line_length w l = length-append (ascii w) (spaced l ++ (10 ∷ [])) ∙ ap (λ k. length (ascii w) + k) (length-append (spaced l) (10 ∷ []))

-- a line of bytes below p, counted with three digits for each
bytes-line : {p : ℕ} → 0 < p → p ≤ largest_prime → (w : String) (n : ℕ) (s : S p)
    → length (line_bytes (record { word = w; numbers = bytes n s })) ≤ length (ascii w) + (4 * n + 1)
bytes-line {p} h b w n s =
    omega (arith, line_length w (bytes n s), spaced_length p (bytes n s) (omega arith) (bytes_small h n s), bytes_length n s)

-- a line of two numbers, the first below 1,000 and the second of ten digits at most
pair_line : (w : String) (x y : ℕ) → x < 1000 → y < 10 ^ 10
    → length (line_bytes (record { word = w; numbers = x ∷ y ∷ [] })) ≤ length (ascii w) + 16
unfolding spaced
pair_line w x y h k =
    omega (
      arith,
      line_length w (x ∷ y ∷ []),
      length-append (decimal x) (32 ∷ (decimal y ++ [])),
      length-append (decimal y) [],
      decimal_length 3 x (omega arith) (omega arith),
      decimal_length 10 y (omega arith) (omega arith),
    )

text_length : (x : Line) (xs : List Line) → length (text (x ∷ xs)) ≡ length (line_bytes x) + length (text xs)
unfolding text
text_length x xs = length-append (line_bytes x) (text xs)

three_lines : {i j k : ℕ} (x y z : Line) → length (line_bytes x) ≤ i → length (line_bytes y) ≤ j → length (line_bytes z) ≤ k
    → length (text (x ∷ y ∷ z ∷ [])) ≤ i + (j + k)
unfolding text
three_lines x y z a b c = omega (arith, text_length x (y ∷ z ∷ []), text_length y (z ∷ []), text_length z [])

stand_lines_length : {p : ℕ} (n : ℕ) (X : S p → S p) (s : Standing) (r : Outcome) (f : Poly p) → 0 < p → p ≤ largest_prime → n ≤ widest
    → r.taken ≤ most_candidates → r.spent < 10 ^ 10 → r.degree ≤ n → (s ≡ short → r.witness ≤ n) → length (text (stand_lines n X s r f)) ≤ 564
unfolding spaced
stand_lines_length n X proved r f h b q t s d w =
    let c = pair_line "STAND proved" r.taken r.spent (omega arith) s in
    let g = bytes-line h b "MINPOLY" (suc r.degree) (coef f) in
    let v = le_of_eq (line_length "WITNESS none" []) in
    le_trans (three_lines _ _ _ c g v) (omega arith)
stand_lines_length {p} n X short r f h b q t s d w =
    let c = pair_line "STAND short" r.taken r.spent (omega arith) s in
    let g = bytes-line h b "DIVISOR" (suc r.degree) (coef f) in
    let image = bytes n (act X f (e r.witness)) in
    let v : length (line_bytes (record { word = "WITNESS"; numbers = r.witness ∷ image })) ≤ 268
    = omega (
      arith,
      w refl,
      line_length "WITNESS" (r.witness ∷ image),
      length-append (decimal r.witness) (spaced image),
      decimal_length 3 r.witness (omega (arith, w refl)) (omega arith),
      spaced_length p image (omega arith) (bytes_small h n _),
      bytes_length n (act X f (e r.witness)),
    ) in
    le_trans (three_lines _ _ _ c g v) (omega arith)

stage_lines_length : {p : ℕ} (st : List (WithDegree p)) → 0 < p → p ≤ largest_prime → length (text (map stage_line st)) ≤ 10 * length st + 4 * degrees st
unfolding degrees text
stage_lines_length [] h b = omega arith
stage_lines_length (s ∷ st) h b =
    omega (arith, text_length (stage_line s) (map stage_line st), bytes-line h b "STAGE" (suc s.deg) (coef s.poly), stage_lines_length st h b)

pub period_line_length : (p n : ℕ) (m : List ℕ) (t : Option ℕ) → IsPeriod p n m t → length (line_bytes (period_line t)) ≤ 13
unfolding spaced longest
period_line_length p n m (Some t) A =
    omega (arith, line_length "PERIOD" (t ∷ []), length-append (decimal t) [], decimal_length 5 t (omega (arith, A.1)) (omega arith))
period_line_length p n m None A = omega (arith, line_length "PERIOD none" [])

sheet_length : (x : Line) (front mid : List Line) (y z : Line) → length (text (x ∷ (front ++ (mid ++ (y ∷ z ∷ [])))))
    ≡ length (line_bytes x) + (length (text front) + (length (text mid) + (length (line_bytes y) + length (line_bytes z))))
unfolding text
sheet_length x front mid y z =
    text_length x (front ++ (mid ++ (y ∷ z ∷ []))) ∙ ap (λ k. length (line_bytes x) + k)
    (omega (
      arith,
      ap length (text_append front (mid ++ (y ∷ z ∷ []))),
      length-append (text front) (text (mid ++ (y ∷ z ∷ []))),
      ap length (text_append mid (y ∷ z ∷ [])),
      length-append (text mid) (text (y ∷ z ∷ [])),
      text_length y (z ∷ []),
      text_length z [],
    ))

-- the witness of a short stand is one of the n unit rows
tested_witness : {p : ℕ} (X : S p → S p) (n : ℕ) (f : Poly p) (s : Standing) (w : ℕ) → Tested X n f s w → s ≡ short → w ≤ n
tested_witness X n f proved w T q = omega (arith, T.1)
tested_witness X n f short w T q = T.to

pub sheet_lines_room : {p : ℕ} (n : ℕ) (m cs : List ℕ) (a : ℕ) (xs : List Line) → Sound p n m → SoundRows p n cs → a < 10 ^ 10
    → SheetLines p n m cs a xs → length (text xs) ≤ sheet_room
unfolding sheet_room text
sheet_lines_room {p} n m cs a xs A B h L =
    let X = times p n m in
    let P = A.prime in
    let r = L.outcome in
    let f = L.poly in
    let st = L.stages in
    let F = L.stand in
    let counted : r.taken ≤ most_candidates = omega (arith, F.front.within, orders_count X (rows p n cs) F.orders F.each, rows_count p n cs, B.few) in
    let paid : r.spent < 10 ^ 10 = omega (arith, F.spent, F.front.affordable) in
    let field = pair_line "FIELD" p n (omega (arith, A.most)) (omega (arith, A.size)) in
    let positive : 0 < p = omega (arith, P.big) in
    let stood = stand_lines_length n X r.standing r f positive A.most A.size counted paid
    (stand_degree P n m cs a r f F) (tested_witness X n f r.standing r.witness F.tested) in
    let staged = stage_lines_length st positive A.most in
    let chained = bytes-line positive A.most "CHAIN" (suc n) (coef (product st)) in
    omega (
      arith,
      ap (λ l. length (text l)) L.lines,
      sheet_length (field_line p n) (stand_lines n X r.standing r f) (map stage_line st) (chain_line n st) (period_line L.period),
      A.size,
      field,
      stood,
      staged,
      chain_total P n m cs st L.chain,
      stages_positive _ _ st (times_linear p n m) L.chain,
      chained,
      period_line_length p n m L.period L.returns,
    )

pub refused_room : (k : ℕ) → k < 10 ^ 20 → length (text (refused_line k ∷ [])) ≤ sheet_room
unfolding sheet_room text spaced
refused_room k h =
    omega (arith, text_length (refused_line k) [], line_length "REFUSED" (k ∷ []), length-append (decimal k) [], decimal_length 20 k (omega arith) (omega arith))
