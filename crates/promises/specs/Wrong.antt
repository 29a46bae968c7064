-- Wrong answers that the contracts shut out (01, "Shortcuts that look right" and "How tight each contract is to be"; 02, #101, #102 and #104), as one
-- table: for each input the right answer, and wrong ones, each in words. Where the words name one byte or one number, all else in it is right.
--   Reply          a call with its input and what its lent buffers hold before; then, as one tuple, what is answered and what they hold afterwards
--   Permitted r    the contract of the call permits that reply
--   ShutOut ws     it permits none of the replies ws
--   Trial          an input, with the right reply and wrong ones
--   AllShut ts     in every trial the right reply is permitted, and no wrong one is
--   tried call r ws   the trial of a call with its input: the right answer r, and the wrong answers ws
--   sevens k       k lent bytes, 7 each, so that a byte that is left as it was is seen
--   proving d t k, lacking d t k w   a stand's outcome: proved, or short with the witness w; degree d, taken t, spent k
--   every_number    the numbers 0 to 13, those of all refusals among them
--   numbered s ks  the wrong answers "refused" with each of the numbers ks, alone, for the reason s
--   numbered_one s b ks, numbered_two s b c ks   the same of a call with one buffer or two, which it leaves as they were
--   numbered_at s r c ks, numbered_at_one s b r c ks, numbered_at_two s b d r c ks   the same with row r and column c beside each number
--   misplaced k r c   wrong answers where the number k is due with row r and column c
--   misplaced_row r c, misplaced_coefficient c   the same of number 10, and of number 11 with column c; 01 had 5 for both
--   out_of_turn k ks js   wrong answers where the number k is due alone: of the later tests ks, of which js tell an entry, here that in row 1, column 1
--   order_on g v, image_on g v f, stand_on g, chain_on g, period_on g   a call on the matrix, or the whole input, of the figure g;
--                  each buffer has one byte more than 01 asks
--   write_on a      the writer on the machine [2] modulo 3 with the candidate (1) and the allowance a; the buffer has one byte more than the case
--   case_with high low   the records of that case, with these halves in its A record
--   laid k rs rest   the length k is told, and the buffer holds the records rs and behind them the bytes `rest`
--   order_left, image_left, stand_left, chain_left, write_left   a call with its answer, the buffers left as they were
--   wrong_inverses, wrong_orders, wrong_images, wrong_stands, wrong_chains, wrong_periods, wrong_writes, wrong_answers   the table, call by call
-- Assumes nothing.
use Rattle.std.specs.Prelude.{List, [], ◌∷◌, ◌++◌, map, ℕ, ◌+◌, ◌*◌, ◌-◌, replicate}
use Rattle.std.specs.Prelude.{Option, None, Some}
use Prim.Native.String.{String}
use Rattle.meaning.specs.Stand.{proved, short, Outcome}
use Rattle.meaning.specs.Refusal.{alone, at}
use Rattle.meaning.specs.Calls.{Answer, refused, given, InverseCall, OrderCall, ImageCall, StandCall, ChainCall, PeriodCall}
use Rattle.meaning.specs.Case.{Record, field, allow, row, candidate, end, flat}
use Rattle.meaning.specs.Writing.{WriteCall}
use Rattle.promises.specs.Figures.{Figure, P1, P2, P3, P4, P5, P6, P7, P8, P9, P10, P11}

pub data Reply : Type 0 where
  inverse_reply : (p a : ℕ) → Answer (Option ℕ) → Reply
  order_reply : (p n : ℕ) (m v out : List ℕ) → Answer ℕ × List ℕ → Reply
  image_reply : (p n : ℕ) (m v f out : List ℕ) → Answer (Unit {0}) × List ℕ → Reply
  stand_reply : (p n : ℕ) (m cs : List ℕ) (a : ℕ) (poly image : List ℕ) → Answer Outcome × List ℕ × List ℕ → Reply
  chain_reply : (p n : ℕ) (m cs product stages : List ℕ) → Answer ℕ × List ℕ × List ℕ → Reply
  period_reply : (p n : ℕ) (m : List ℕ) → Answer (Option ℕ) → Reply
  write_reply : (p n : ℕ) (m cs : List ℕ) (a : ℕ) (out : List ℕ) → Answer ℕ × List ℕ → Reply

abbrev pub Permitted : Reply → Type 0
Permitted (inverse_reply p a x) = InverseCall p a x
Permitted (order_reply p n m v out x) = OrderCall p n m v out x.0 x.1
Permitted (image_reply p n m v f out x) = ImageCall p n m v f out x.0 x.1
Permitted (stand_reply p n m cs a poly image x) = StandCall p n m cs a (poly, image) x.0 (x.1, x.2)
Permitted (chain_reply p n m cs product stages x) = ChainCall p n m cs (product, stages) x.0 (x.1, x.2)
Permitted (period_reply p n m x) = PeriodCall p n m x
Permitted (write_reply p n m cs a out x) = WriteCall p n m cs a out x.0 x.1

abbrev pub ShutOut : List (String × Reply) → Type 0
ShutOut [] = Unit {0}
ShutOut (w ∷ ws) = (¬ Permitted w.1) × ShutOut ws

pub record Trial : Type 0 where
  pub right : Reply
  pub wrong : List (String × Reply)

abbrev pub AllShut : List Trial → Type 0
AllShut [] = Unit {0}
AllShut (t ∷ ts) = (Permitted t.right × ShutOut t.wrong) × AllShut ts

abbrev pub tried : {X : Type 0} → (X → Reply) → X → List (String × X) → Trial
tried call r ws = record { right = call r; wrong = map (λ w. (w.0, call w.1)) ws }

abbrev pub sevens : ℕ → List ℕ
sevens k = replicate k 7

abbrev pub proving : ℕ → ℕ → ℕ → Answer Outcome
proving d t k = given (record { standing = proved; degree = d; taken = t; spent = k; witness = 0 })

abbrev pub lacking : ℕ → ℕ → ℕ → ℕ → Answer Outcome
lacking d t k w = given (record { standing = short; degree = d; taken = t; spent = k; witness = w })

abbrev pub every_number : List ℕ
every_number = 0 ∷ 1 ∷ 2 ∷ 3 ∷ 4 ∷ 5 ∷ 6 ∷ 7 ∷ 8 ∷ 9 ∷ 10 ∷ 11 ∷ 12 ∷ 13 ∷ []

abbrev pub numbered : {A : Type 0} → String → List ℕ → List (String × Answer A)
numbered s ks = map (λ k. (s, refused (alone k))) ks

abbrev pub numbered_one : {A : Type 0} → String → List ℕ → List ℕ → List (String × (Answer A × List ℕ))
numbered_one s b ks = map (λ k. (s, (refused (alone k), b))) ks

abbrev pub numbered_two : {A : Type 0} → String → List ℕ → List ℕ → List ℕ → List (String × (Answer A × List ℕ × List ℕ))
numbered_two s b c ks = map (λ k. (s, (refused (alone k), b, c))) ks

abbrev pub numbered_at : {A : Type 0} → String → ℕ → ℕ → List ℕ → List (String × Answer A)
numbered_at s r c ks = map (λ k. (s, refused (at k r c))) ks

abbrev pub numbered_at_one : {A : Type 0} → String → List ℕ → ℕ → ℕ → List ℕ → List (String × (Answer A × List ℕ))
numbered_at_one s b r c ks = map (λ k. (s, (refused (at k r c), b))) ks

abbrev pub numbered_at_two : {A : Type 0} → String → List ℕ → List ℕ → ℕ → ℕ → List ℕ → List (String × (Answer A × List ℕ × List ℕ))
numbered_at_two s b d r c ks = map (λ k. (s, (refused (at k r c), b, d))) ks

abbrev pub misplaced : {A : Type 0} → ℕ → ℕ → ℕ → List (String × Answer A)
misplaced k r c =
    ("the number without its place", refused (alone k))
    ∷ ("the row counted from 0", refused (at k (r - 1) c))
    ∷ ("the column counted from 0", refused (at k r (c - 1)))
    ∷ ("row and column counted from 0", refused (at k (r - 1) (c - 1)))
    ∷ ("a row too far", refused (at k (r + 1) c))
    ∷ ("a column too far", refused (at k r (c + 1)))
    ∷ []

abbrev pub misplaced_row : {A : Type 0} → ℕ → ℕ → List (String × Answer A)
misplaced_row r c =
    ("5 without a place, as it was", refused (alone 5))
    ∷ ("5, as it was, with the place", refused (at 5 r c))
    ∷ ("a coefficient's number", refused (at 11 r c))
    ∷ misplaced 10 r c

abbrev pub misplaced_coefficient : {A : Type 0} → ℕ → List (String × Answer A)
misplaced_coefficient c =
    ("5 without a place, as it was", refused (alone 5))
    ∷ ("5, as it was, with the place", refused (at 5 0 c))
    ∷ ("a vector's number", refused (at 10 0 c))
    ∷ ("a vector's number and row", refused (at 10 1 c))
    ∷ ("row 1, as for a vector", refused (at 11 1 c))
    ∷ ("counted from 0", refused (at 11 0 (c - 1)))
    ∷ ("one too far", refused (at 11 0 (c + 1)))
    ∷ ("row and column swapped", refused (at 11 c 0))
    ∷ ("the number without its place", refused (alone 11))
    ∷ []

abbrev pub out_of_turn : {A : Type 0} → ℕ → List ℕ → List ℕ → List (String × Answer A)
out_of_turn k ks js =
    numbered "a later test's number" ks
    ++ (numbered_at "a later test's number, with its entry" 1 1 js ++ numbered_at "a place beside a number that has none" 1 1 (k ∷ []))

abbrev pub order_on : Figure → List ℕ → Answer ℕ × List ℕ → Reply
order_on g v = order_reply g.p g.n g.m v (sevens (g.n + 2))

abbrev pub image_on : Figure → List ℕ → List ℕ → Answer (Unit {0}) × List ℕ → Reply
image_on g v f = image_reply g.p g.n g.m v f (sevens (g.n + 1))

abbrev pub stand_on : Figure → Answer Outcome × List ℕ × List ℕ → Reply
stand_on g = stand_reply g.p g.n g.m g.cs g.a (sevens (g.n + 2)) (sevens (g.n + 1))

abbrev pub chain_on : Figure → Answer ℕ × List ℕ × List ℕ → Reply
chain_on g = chain_reply g.p g.n g.m g.cs (sevens (g.n + 2)) (sevens (2 * g.n + 1))

abbrev pub period_on : Figure → Answer (Option ℕ) → Reply
period_on g = period_reply g.p g.n g.m

abbrev pub write_on : ℕ → Answer ℕ × List ℕ → Reply
write_on a = write_reply 3 1 (2 ∷ []) (1 ∷ []) a (sevens 17)

abbrev pub case_with : ℕ → ℕ → List Record
case_with high low = field 3 1 ∷ allow high low ∷ row (2 ∷ []) ∷ candidate (1 ∷ []) ∷ end ∷ []

abbrev pub laid : ℕ → List Record → List ℕ → Answer ℕ × List ℕ
laid k rs rest = (given k, flat rs ++ rest)

abbrev pub order_left : ℕ → ℕ → List ℕ → List ℕ → List ℕ → Answer ℕ → Reply
order_left p n m v out x = order_reply p n m v out (x, out)

abbrev pub image_left : ℕ → ℕ → List ℕ → List ℕ → List ℕ → List ℕ → Answer (Unit {0}) → Reply
image_left p n m v f out x = image_reply p n m v f out (x, out)

abbrev pub stand_left : ℕ → ℕ → List ℕ → List ℕ → List ℕ → List ℕ → Answer Outcome → Reply
stand_left p n m cs poly image x = stand_reply p n m cs 9 poly image (x, poly, image)

abbrev pub chain_left : ℕ → ℕ → List ℕ → List ℕ → List ℕ → List ℕ → Answer ℕ → Reply
chain_left p n m cs product stages x = chain_reply p n m cs product stages (x, product, stages)

abbrev pub write_left : ℕ → ℕ → List ℕ → List ℕ → ℕ → List ℕ → Answer ℕ → Reply
write_left p n m cs a out x = write_reply p n m cs a out (x, out)

unfoldable pub wrong_inverses : List Trial
wrong_inverses =
    -- 3·5 = 15 = 1 modulo 7
    tried (inverse_reply 7 3) (given (Some 5))
    (("none for a scalar that has an inverse", given None)
    ∷ ("0 for a scalar that has an inverse", given (Some 0))
    ∷ ("another number", given (Some 4))
    ∷ ("the opposite: a sign lost in the divisions", given (Some 2))
    ∷ ("the scalar itself", given (Some 3))
    ∷ ("not reduced modulo p", given (Some 12))
    ∷ ("refused as too large", refused (at 11 0 1))
    ∷ ("refused as too large, in row 1", refused (at 11 1 1))
    ∷ numbered "refused, and nothing is wrong" every_number)
    -- 0 has no inverse, and that is a result
    ∷ tried (inverse_reply 5 0) (given None)
    (("0 for 0", given (Some 0))
    ∷ ("1 for 0", given (Some 1))
    ∷ ("p for 0", given (Some 5))
    ∷ ("0 refused as a bad scalar", refused (at 11 0 1))
    ∷ numbered "0 refused as having no inverse" every_number)
    ∷ tried (inverse_reply 2 0) (given None) (("0 for 0", given (Some 0)) ∷ ("0 refused", refused (at 11 0 1)) ∷ [])
    ∷ tried (inverse_reply 251 0) (given None) (("0 for 0", given (Some 0)) ∷ ("0 refused", refused (at 11 0 1)) ∷ [])
    -- 1 and p − 1 have one, also where they are the same; and the edges of p: 2 and 251 are taken; 253 is 11·23
    ∷ tried (inverse_reply 5 1) (given (Some 1)) (("none for 1", given None) ∷ ("p − 1 for 1", given (Some 4)) ∷ [])
    ∷ tried (inverse_reply 5 4) (given (Some 4)) (("none for p − 1", given None) ∷ ("1 for p − 1", given (Some 1)) ∷ [])
    ∷ tried (inverse_reply 2 1) (given (Some 1)) (("none for 1, which is p − 1", given None) ∷ ("2 refused", refused (alone 1)) ∷ [])
    ∷ tried (inverse_reply 251 250) (given (Some 250)) (("none for p − 1", given None) ∷ ("251 refused", refused (alone 1)) ∷ [])
    ∷ tried (inverse_reply 0 0) (refused (alone 1)) (("p = 0 answered", given None) ∷ ("test 11 before test 1", refused (at 11 0 1)) ∷ [])
    ∷ tried (inverse_reply 1 0) (refused (alone 1)) (("p = 1 answered", given None) ∷ [])
    ∷ tried (inverse_reply 4 0) (refused (alone 1)) (("p = 4 answered, since 0 has no inverse anyway", given None) ∷ [])
    ∷ tried (inverse_reply 4 3) (refused (alone 1)) (("p = 4 answered", given (Some 3)) ∷ [])
    ∷ tried (inverse_reply 253 2) (refused (alone 1)) (("p = 253 answered", given (Some 127)) ∷ [])
    ∷ tried (inverse_reply 257 2) (refused (alone 1)) (("a prime over 251 answered", given (Some 129)) ∷ [])
    ∷ tried (inverse_reply 258 1) (refused (alone 1)) (("p = 258 cut to a byte and answered as 2", given (Some 1)) ∷ [])
    -- scalars of p and more
    ∷ tried (inverse_reply 4 4) (refused (alone 1))
    (("test 11 before test 1", refused (at 11 0 1)) ∷ ("p taken for 0", given None) ∷ ("a place beside 1", refused (at 1 0 1)) ∷ [])
    ∷ tried (inverse_reply 5 5) (refused (at 11 0 1))
    (("p taken for 0", given None)
    ∷ ("a matrix of one entry", refused (at 5 1 1))
    ∷ (misplaced_coefficient 1 ++ numbered "another number" (0 ∷ 1 ∷ 2 ∷ 3 ∷ 4 ∷ 6 ∷ 7 ∷ 8 ∷ 9 ∷ 10 ∷ [])))
    ∷ tried (inverse_reply 5 6) (refused (at 11 0 1)) (("the scalar reduced first", given (Some 1)) ∷ misplaced_coefficient 1)
    ∷ tried (inverse_reply 5 7) (refused (at 11 0 1)) (("the scalar reduced first", given (Some 3)) ∷ ("the scalar for the column", refused (at 11 0 7)) ∷ [])
    ∷ tried (inverse_reply 5 256) (refused (at 11 0 1)) (("the scalar cut to a byte", given None) ∷ [])
    ∷ tried (inverse_reply 5 258) (refused (at 11 0 1)) (("the scalar cut to a byte", given (Some 3)) ∷ [])
    ∷ tried (inverse_reply 2 2) (refused (at 11 0 1)) (("p taken for 0", given None) ∷ ("the number without its place", refused (alone 11)) ∷ [])
    ∷ tried (inverse_reply 251 251) (refused (at 11 0 1)) (("p taken for 0", given None) ∷ ("the number without its place", refused (alone 11)) ∷ [])
    ∷ []

unfoldable pub wrong_orders : List Trial
wrong_orders =
    -- [1 0 | 0 2] modulo 3: (1,0) has the order x − 1
    tried (order_on P7 (1 ∷ 0 ∷ [])) (given 1, 2 ∷ 1 ∷ 0 ∷ 7 ∷ [])
    (("always 1", (given 0, 1 ∷ 0 ∷ 0 ∷ 7 ∷ []))
    ∷ ("nothing written", (given 1, sevens 4))
    ∷ ("bytes above the degree left as they were", (given 1, 2 ∷ 1 ∷ 7 ∷ 7 ∷ []))
    ∷ ("a byte beyond n + 1 changed", (given 1, 2 ∷ 1 ∷ 0 ∷ 0 ∷ []))
    ∷ ("the bytes beyond n + 1 gone", (given 1, 2 ∷ 1 ∷ 0 ∷ []))
    ∷ ("without the leading 1", (given 1, 2 ∷ 0 ∷ 0 ∷ 7 ∷ []))
    ∷ ("not monic", (given 1, 1 ∷ 2 ∷ 0 ∷ 7 ∷ []))
    ∷ ("a sign lost: v·M = v gives x + 1", (given 1, 1 ∷ 1 ∷ 0 ∷ 7 ∷ []))
    ∷ ("not of least degree: the minimal polynomial", (given 2, 2 ∷ 0 ∷ 1 ∷ 7 ∷ []))
    ∷ ("not of least degree: x times the order", (given 2, 0 ∷ 2 ∷ 1 ∷ 7 ∷ []))
    ∷ ("a kept row added and not taken away, so that no dependence is found", (given 3, 0 ∷ 0 ∷ 0 ∷ 7 ∷ []))
    ∷ ("the number of coefficients for the degree", (given 2, 2 ∷ 1 ∷ 0 ∷ 7 ∷ []))
    ∷ ("the degree one too low", (given 0, 2 ∷ 1 ∷ 0 ∷ 7 ∷ []))
    ∷ (numbered_one "refused, and nothing is wrong" (sevens 4) every_number
    ++ numbered_at_one "refused for an entry, and nothing is wrong" (sevens 4) 1 1 (5 ∷ 10 ∷ [])))
    -- (1,1) has (x − 1)(x − 2)
    ∷ tried (order_on P7 (1 ∷ 1 ∷ [])) (given 2, 2 ∷ 0 ∷ 1 ∷ 7 ∷ [])
    (("n coefficients written, not n + 1", (given 2, 2 ∷ 0 ∷ 7 ∷ 7 ∷ []))
    ∷ ("the order of the row's first entry alone", (given 1, 2 ∷ 1 ∷ 0 ∷ 7 ∷ []))
    ∷ [])
    -- the zero row has order 1
    ∷ tried (order_on P7 (0 ∷ 0 ∷ [])) (given 0, 1 ∷ 0 ∷ 0 ∷ 7 ∷ [])
    (("x for the zero row", (given 1, 0 ∷ 1 ∷ 0 ∷ 7 ∷ []))
    ∷ ("0 for the zero row", (given 0, 0 ∷ 0 ∷ 0 ∷ 7 ∷ []))
    ∷ numbered_one "the zero row refused" (sevens 4) (4 ∷ 5 ∷ []))
    -- [0 1 | 2 0] modulo 3: a row that does not begin with 1
    ∷ tried (order_on P5 (2 ∷ 0 ∷ [])) (given 2, 1 ∷ 0 ∷ 1 ∷ 7 ∷ [])
    (("a kept row not divided by its leading entry, so that no dependence is found", (given 3, 0 ∷ 0 ∷ 0 ∷ 7 ∷ [])) ∷ [])
    -- "Columns for rows"; "giving relative orders where orders are due": that of (1,0) over (0,1), as if a row spun before were still kept
    ∷ tried (order_on P10 (0 ∷ 1 ∷ [])) (given 1, 0 ∷ 1 ∷ 0 ∷ 7 ∷ []) (("columns for rows", (given 2, 0 ∷ 0 ∷ 1 ∷ 7 ∷ [])) ∷ [])
    ∷ tried (order_on P10 (1 ∷ 0 ∷ [])) (given 2, 0 ∷ 0 ∷ 1 ∷ 7 ∷ [])
    (("columns for rows; or a relative order for the order", (given 1, 0 ∷ 1 ∷ 0 ∷ 7 ∷ [])) ∷ [])
    -- the edges of n: 64 is taken, 65 and 0 are not
    ∷ tried (order_reply 2 64 (replicate 4096 0) (replicate 64 0) (sevens 65)) (given 0, 1 ∷ replicate 64 0)
    (numbered_one "n = 64 refused" (sevens 65) (2 ∷ []))
    ∷ tried (order_reply 2 65 (replicate 4225 0) (replicate 65 0) (sevens 66)) (refused (alone 2), sevens 66)
    (("n = 65 answered", (given 0, 1 ∷ replicate 65 0)) ∷ [])
    ∷ tried (order_reply 2 0 [] [] (sevens 1)) (refused (alone 2), sevens 1) (("n = 0 answered", (given 0, 1 ∷ [])) ∷ [])
    ∷ tried (order_reply 2 257 (1 ∷ []) (1 ∷ []) (sevens 2)) (refused (alone 2), sevens 2)
    (("n = 257 cut to a byte and answered as 1", (given 1, 1 ∷ 1 ∷ [])) ∷ [])
    ∷ tried (order_reply 258 1 (1 ∷ []) (1 ∷ []) (sevens 2)) (refused (alone 1), sevens 2)
    (("p = 258 cut to a byte and answered as 2", (given 1, 1 ∷ 1 ∷ [])) ∷ [])
    -- what is too long or too short is refused, and no lent byte changes
    ∷ tried (order_reply 3 2 (1 ∷ 0 ∷ 0 ∷ []) (1 ∷ 0 ∷ []) (sevens 4)) (refused (alone 3), sevens 4)
    (("the matrix filled up with zeros", (given 1, 2 ∷ 1 ∷ 0 ∷ 7 ∷ [])) ∷ [])
    ∷ tried (order_reply 3 2 (1 ∷ 0 ∷ 0 ∷ 2 ∷ []) (1 ∷ 0 ∷ 0 ∷ []) (sevens 4)) (refused (alone 4), sevens 4)
    (("the first n bytes taken for the vector", (given 1, 2 ∷ 1 ∷ 0 ∷ 7 ∷ []))
    ∷ ("the first lent byte changed by a refused call", (refused (alone 4), 0 ∷ 7 ∷ 7 ∷ 7 ∷ []))
    ∷ ("a lent byte beyond n + 1 changed by a refused call", (refused (alone 4), 7 ∷ 7 ∷ 7 ∷ 0 ∷ []))
    ∷ ("the lent bytes gone after a refused call", (refused (alone 4), []))
    ∷ [])
    ∷ tried (order_reply 3 2 (1 ∷ 0 ∷ 0 ∷ 3 ∷ []) (1 ∷ 0 ∷ []) (sevens 4)) (refused (at 5 2 2), sevens 4)
    (("an entry p of the matrix taken for 0", (given 1, 2 ∷ 1 ∷ 0 ∷ 7 ∷ []))
    ∷ ("row and column written to the buffer", (refused (at 5 2 2), 2 ∷ 2 ∷ 7 ∷ 7 ∷ []))
    ∷ [])
    ∷ tried (order_reply 3 2 (1 ∷ 0 ∷ 0 ∷ 2 ∷ []) (1 ∷ 3 ∷ []) (sevens 4)) (refused (at 10 1 2), sevens 4)
    (("an entry p of the row taken for 0", (given 1, 2 ∷ 1 ∷ 0 ∷ 7 ∷ []))
    ∷ ("row and column written to the buffer", (refused (at 10 1 2), 1 ∷ 2 ∷ 7 ∷ 7 ∷ []))
    ∷ [])
    ∷ tried (order_reply 3 2 (1 ∷ 0 ∷ 0 ∷ 2 ∷ []) (1 ∷ 0 ∷ []) (sevens 2)) (refused (alone 6), sevens 2)
    (("a buffer of n bytes taken", (given 1, 2 ∷ 1 ∷ []))
    ∷ ("the short buffer's first byte changed", (refused (alone 6), 2 ∷ 7 ∷ []))
    ∷ ("the short buffer's last byte changed", (refused (alone 6), 7 ∷ 1 ∷ []))
    ∷ [])
    -- the first bad entry of the matrix, in reading order, rows and columns counted from 1
    ∷ tried (order_left 3 2 (0 ∷ 3 ∷ 0 ∷ 0 ∷ []) (0 ∷ 0 ∷ []) (sevens 3)) (refused (at 5 1 2))
    (("row and column swapped", refused (at 5 2 1))
    ∷ (misplaced 5 1 2 ++ numbered_at "another number" 1 2 (0 ∷ 1 ∷ 2 ∷ 3 ∷ 4 ∷ 6 ∷ 7 ∷ 8 ∷ 9 ∷ 10 ∷ 11 ∷ [])))
    ∷ tried (order_left 3 2 (0 ∷ 0 ∷ 3 ∷ 0 ∷ []) (0 ∷ 0 ∷ []) (sevens 3)) (refused (at 5 2 1))
    (("row and column swapped", refused (at 5 1 2)) ∷ ("the matrix taken for one row", refused (at 5 1 3)) ∷ misplaced 5 2 1)
    ∷ tried (order_left 3 3 (0 ∷ 0 ∷ 3 ∷ 9 ∷ 0 ∷ 0 ∷ 0 ∷ 4 ∷ 0 ∷ []) (0 ∷ 0 ∷ 0 ∷ []) (sevens 4)) (refused (at 5 1 3))
    (("the last bad entry", refused (at 5 3 2))
    ∷ ("the second; or the largest; or the first, column by column", refused (at 5 2 1))
    ∷ ("row and column swapped", refused (at 5 3 1))
    ∷ misplaced 5 1 3)
    ∷ tried (order_left 3 1 (3 ∷ []) (0 ∷ []) (sevens 2)) (refused (at 5 1 1)) (misplaced 5 1 1)
    ∷ tried (order_left 2 64 (replicate 4095 0 ++ (2 ∷ [])) (replicate 64 0) (sevens 65)) (refused (at 5 64 64))
    (("the matrix taken for one row", refused (at 5 1 4096)) ∷ ("counted from 0", refused (at 5 63 63)) ∷ [])
    -- of the vector, which is row 1, not row 0
    ∷ tried (order_left 3 2 (0 ∷ 0 ∷ 0 ∷ 0 ∷ []) (0 ∷ 3 ∷ []) (sevens 3)) (refused (at 10 1 2))
    (("row and column swapped", refused (at 10 2 1))
    ∷ ("rows counted on from the matrix's", refused (at 10 3 2))
    ∷ (misplaced_row 1 2 ++ numbered_at "another number" 1 2 (0 ∷ 1 ∷ 2 ∷ 3 ∷ 4 ∷ 6 ∷ 7 ∷ 8 ∷ 9 ∷ [])))
    ∷ tried (order_left 3 4 (replicate 16 0) (0 ∷ 3 ∷ 0 ∷ 4 ∷ []) (sevens 5)) (refused (at 10 1 2))
    (("the last bad entry; or the largest", refused (at 10 1 4)) ∷ misplaced_row 1 2)
    ∷ tried (order_left 3 1 (0 ∷ []) (3 ∷ []) (sevens 2)) (refused (at 10 1 1)) (misplaced_row 1 1)
    -- both, or one of them and a short buffer
    ∷ tried (order_left 3 2 (0 ∷ 0 ∷ 3 ∷ 0 ∷ []) (0 ∷ 3 ∷ []) []) (refused (at 5 2 1))
    (("the vector told before the matrix", refused (at 10 1 2))
    ∷ ("the matrix's number at the vector's place", refused (at 5 1 2))
    ∷ ("the vector's number at the matrix's place", refused (at 10 2 1))
    ∷ ("the buffer told before the entries", refused (alone 6))
    ∷ misplaced 5 2 1)
    ∷ tried (order_left 3 2 (0 ∷ 0 ∷ 0 ∷ 0 ∷ []) (0 ∷ 3 ∷ []) []) (refused (at 10 1 2))
    (("the buffer told before the entries", refused (alone 6)) ∷ misplaced_row 1 2)
    -- several faults at once: the first test that applies gives the refusal
    ∷ tried (order_left 4 65 (9 ∷ []) (9 ∷ []) []) (refused (alone 1)) (out_of_turn 1 (2 ∷ 3 ∷ 4 ∷ 5 ∷ 10 ∷ 6 ∷ []) (5 ∷ 10 ∷ []))
    ∷ tried (order_left 3 65 (9 ∷ []) (9 ∷ []) []) (refused (alone 2)) (out_of_turn 2 (3 ∷ 4 ∷ 5 ∷ 10 ∷ 6 ∷ []) (5 ∷ 10 ∷ []))
    ∷ tried (order_left 3 2 (9 ∷ []) (9 ∷ []) []) (refused (alone 3)) (out_of_turn 3 (4 ∷ 5 ∷ 10 ∷ 6 ∷ []) (5 ∷ 10 ∷ []))
    ∷ tried (order_left 3 2 (9 ∷ 9 ∷ 9 ∷ 9 ∷ []) (9 ∷ []) []) (refused (alone 4)) (out_of_turn 4 (5 ∷ 10 ∷ 6 ∷ []) (5 ∷ 10 ∷ []))
    ∷ tried (order_left 3 2 (9 ∷ 9 ∷ 9 ∷ 9 ∷ []) (9 ∷ 9 ∷ []) []) (refused (at 5 1 1))
    (("a later test's number, with its entry", refused (at 10 1 1)) ∷ numbered "a later test's number" (10 ∷ 6 ∷ []))
    ∷ tried (order_left 3 2 (0 ∷ 0 ∷ 0 ∷ 0 ∷ []) (0 ∷ 0 ∷ []) []) (refused (alone 6))
    (numbered "another number" (0 ∷ 1 ∷ 2 ∷ 3 ∷ 4 ∷ 5 ∷ 7 ∷ 8 ∷ 9 ∷ 10 ∷ 11 ∷ []) ++ numbered_at "a place where no entry is bad" 1 1 (5 ∷ 6 ∷ 10 ∷ []))
    ∷ []

unfoldable pub wrong_images : List Trial
wrong_images =
    -- [1 0 | 0 2] modulo 3: v + v·M for (1,1)
    tried (image_on P7 (1 ∷ 1 ∷ []) (1 ∷ 1 ∷ [])) (given tt, 2 ∷ 0 ∷ 7 ∷ [])
    (("nothing written", (given tt, sevens 3))
    ∷ ("the row itself", (given tt, 1 ∷ 1 ∷ 7 ∷ []))
    ∷ ("the constant coefficient left out", (given tt, 1 ∷ 2 ∷ 7 ∷ []))
    ∷ ("not reduced modulo p", (given tt, 2 ∷ 3 ∷ 7 ∷ []))
    ∷ ("the last entry not written", (given tt, 2 ∷ 7 ∷ 7 ∷ []))
    ∷ ("a byte beyond n changed", (given tt, 2 ∷ 0 ∷ 0 ∷ []))
    ∷ ("the bytes beyond n gone", (given tt, 2 ∷ 0 ∷ []))
    ∷ (numbered_one "refused, and nothing is wrong" (sevens 3) every_number
    ++ (numbered_at_one "refused for an entry, and nothing is wrong" (sevens 3) 1 1 (5 ∷ 10 ∷ [])
    ++ numbered_at_one "refused for a coefficient, and nothing is wrong" (sevens 3) 0 1 (11 ∷ []))))
    -- "Columns for rows"
    ∷ tried (image_on P10 (1 ∷ 0 ∷ []) (0 ∷ 1 ∷ [])) (given tt, 0 ∷ 1 ∷ 7 ∷ []) (("columns for rows", (given tt, 0 ∷ 0 ∷ 7 ∷ [])) ∷ [])
    -- the sum 2·250·250 of the greatest entries
    ∷ tried (image_reply 251 2 (replicate 4 250) (replicate 2 250) (0 ∷ 1 ∷ []) (sevens 3)) (given tt, 2 ∷ 2 ∷ 7 ∷ [])
    (("the sum cut to a byte", (given tt, 72 ∷ 72 ∷ 7 ∷ [])) ∷ ("the sum cut to 16 bits", (given tt, 228 ∷ 228 ∷ 7 ∷ [])) ∷ [])
    -- leading zeros are allowed, and so is nothing but zeros
    ∷ tried (image_on P7 (1 ∷ 1 ∷ []) (1 ∷ 0 ∷ [])) (given tt, 1 ∷ 1 ∷ 7 ∷ [])
    (("the highest coefficient first", (given tt, 1 ∷ 2 ∷ 7 ∷ [])) ∷ numbered_one "a leading zero refused" (sevens 3) (7 ∷ 5 ∷ []))
    ∷ tried (image_on P7 (1 ∷ 1 ∷ []) (0 ∷ [])) (given tt, 0 ∷ 0 ∷ 7 ∷ [])
    (("1 for the polynomial 0", (given tt, 1 ∷ 1 ∷ 7 ∷ [])) ∷ numbered_one "the polynomial 0 refused" (sevens 3) (7 ∷ []))
    -- 65 coefficients are taken, whatever n is; 66 and none are not
    ∷ tried (image_on P7 (1 ∷ 1 ∷ []) (replicate 64 0 ++ (1 ∷ []))) (given tt, 1 ∷ 1 ∷ 7 ∷ [])
    (("n + 1 coefficients taken", (given tt, 0 ∷ 0 ∷ 7 ∷ []))
    ∷ ("64 coefficients taken", (given tt, 0 ∷ 0 ∷ 7 ∷ []))
    ∷ numbered_one "65 coefficients refused" (sevens 3) (7 ∷ []))
    ∷ tried (image_on P7 (1 ∷ 1 ∷ []) (replicate 66 0)) (refused (alone 7), sevens 3) (("66 coefficients answered", (given tt, 0 ∷ 0 ∷ 7 ∷ [])) ∷ [])
    ∷ tried (image_on P7 (1 ∷ 1 ∷ []) (replicate 257 1)) (refused (alone 7), sevens 3)
    (("257 coefficients cut to a byte and answered as 1", (given tt, 1 ∷ 1 ∷ 7 ∷ [])) ∷ [])
    ∷ tried (image_on P7 (1 ∷ 1 ∷ []) []) (refused (alone 7), sevens 3)
    (("no coefficient answered as 0", (given tt, 0 ∷ 0 ∷ 7 ∷ []))
    ∷ ("the first lent byte changed by a refused call", (refused (alone 7), 0 ∷ 7 ∷ 7 ∷ []))
    ∷ ("a lent byte beyond n changed by a refused call", (refused (alone 7), 7 ∷ 7 ∷ 0 ∷ []))
    ∷ [])
    -- entries and buffers
    ∷ tried (image_on P7 (1 ∷ 1 ∷ []) (3 ∷ [])) (refused (at 11 0 1), sevens 3)
    (("a coefficient p taken for 0", (given tt, 0 ∷ 0 ∷ 7 ∷ []))
    ∷ ("row and column written to the buffer", (refused (at 11 0 1), 0 ∷ 1 ∷ 7 ∷ []))
    ∷ [])
    ∷ tried (image_reply 3 2 (1 ∷ 0 ∷ 0 ∷ 2 ∷ []) (1 ∷ 1 ∷ []) (1 ∷ []) (sevens 1)) (refused (alone 6), sevens 1)
    (("a buffer of n − 1 bytes taken", (given tt, 1 ∷ [])) ∷ ("the short buffer changed", (refused (alone 6), 1 ∷ [])) ∷ [])
    -- the edges of n
    ∷ tried (image_reply 2 64 (replicate 4096 0) (replicate 64 1) (1 ∷ []) (sevens 64)) (given tt, replicate 64 1)
    (numbered_one "n = 64 refused" (sevens 64) (2 ∷ []))
    ∷ tried (image_reply 2 65 (replicate 4225 0) (replicate 65 1) (1 ∷ []) (sevens 65)) (refused (alone 2), sevens 65)
    (("n = 65 answered", (given tt, replicate 65 1)) ∷ [])
    -- the first bad entry of the matrix, in reading order, rows and columns counted from 1
    ∷ tried (image_left 3 2 (0 ∷ 3 ∷ 0 ∷ 0 ∷ []) (0 ∷ 0 ∷ []) (0 ∷ []) (sevens 2)) (refused (at 5 1 2))
    (("row and column swapped", refused (at 5 2 1))
    ∷ (misplaced 5 1 2 ++ numbered_at "another number" 1 2 (0 ∷ 1 ∷ 2 ∷ 3 ∷ 4 ∷ 6 ∷ 7 ∷ 8 ∷ 9 ∷ 10 ∷ 11 ∷ [])))
    ∷ tried (image_left 3 2 (0 ∷ 0 ∷ 3 ∷ 0 ∷ []) (0 ∷ 0 ∷ []) (0 ∷ []) (sevens 2)) (refused (at 5 2 1))
    (("row and column swapped", refused (at 5 1 2)) ∷ ("the matrix taken for one row", refused (at 5 1 3)) ∷ misplaced 5 2 1)
    ∷ tried (image_left 3 3 (0 ∷ 0 ∷ 3 ∷ 9 ∷ 0 ∷ 0 ∷ 0 ∷ 4 ∷ 0 ∷ []) (0 ∷ 0 ∷ 0 ∷ []) (0 ∷ []) (sevens 3)) (refused (at 5 1 3))
    (("the last bad entry", refused (at 5 3 2))
    ∷ ("the second; or the largest; or the first, column by column", refused (at 5 2 1))
    ∷ ("row and column swapped", refused (at 5 3 1))
    ∷ misplaced 5 1 3)
    ∷ tried (image_left 3 1 (3 ∷ []) (0 ∷ []) (0 ∷ []) (sevens 1)) (refused (at 5 1 1)) (misplaced 5 1 1)
    -- of the vector, which is row 1, not row 0
    ∷ tried (image_left 3 2 (0 ∷ 0 ∷ 0 ∷ 0 ∷ []) (0 ∷ 3 ∷ []) (0 ∷ []) (sevens 2)) (refused (at 10 1 2))
    (("row and column swapped", refused (at 10 2 1))
    ∷ ("rows counted on from the matrix's", refused (at 10 3 2))
    ∷ (misplaced_row 1 2 ++ numbered_at "another number" 1 2 (0 ∷ 1 ∷ 2 ∷ 3 ∷ 4 ∷ 6 ∷ 7 ∷ 8 ∷ 9 ∷ [])))
    ∷ tried (image_left 3 4 (replicate 16 0) (0 ∷ 3 ∷ 0 ∷ 4 ∷ []) (0 ∷ []) (sevens 4)) (refused (at 10 1 2))
    (("the last bad entry; or the largest", refused (at 10 1 4)) ∷ misplaced_row 1 2)
    -- of the coefficients, which are row 0; the lowest is in column 1
    ∷ tried (image_left 3 2 (0 ∷ 0 ∷ 0 ∷ 0 ∷ []) (0 ∷ 0 ∷ []) (1 ∷ 0 ∷ 3 ∷ 0 ∷ 0 ∷ 2 ∷ 4 ∷ []) (sevens 2)) (refused (at 11 0 3))
    (("counted from the top", refused (at 11 0 5))
    ∷ ("the last bad coefficient; or the largest", refused (at 11 0 7))
    ∷ ("the last bad coefficient, counted from the top", refused (at 11 0 1))
    ∷ ("the coefficients cut into rows of n", refused (at 11 2 1))
    ∷ ("the coefficients cut into rows of n, the first of them row 0", refused (at 11 1 1))
    ∷ (misplaced_coefficient 3 ++ numbered_at "another number" 0 3 (0 ∷ 1 ∷ 2 ∷ 3 ∷ 4 ∷ 6 ∷ 7 ∷ 8 ∷ 9 ∷ [])))
    ∷ tried (image_left 3 2 (0 ∷ 0 ∷ 0 ∷ 0 ∷ []) (0 ∷ 0 ∷ []) (3 ∷ 0 ∷ 0 ∷ []) (sevens 2)) (refused (at 11 0 1))
    (("counted from the top", refused (at 11 0 3)) ∷ misplaced_coefficient 1)
    ∷ tried (image_left 3 2 (0 ∷ 0 ∷ 0 ∷ 0 ∷ []) (0 ∷ 0 ∷ []) (replicate 64 0 ++ (3 ∷ [])) (sevens 2)) (refused (at 11 0 65))
    (("counted from the top", refused (at 11 0 1)) ∷ ("the coefficients cut into rows of n", refused (at 11 33 1)) ∷ misplaced_coefficient 65)
    ∷ tried (image_left 3 1 (0 ∷ []) (0 ∷ []) (0 ∷ 3 ∷ []) (sevens 1)) (refused (at 11 0 2))
    (("the coefficients cut into rows of n", refused (at 11 2 1)) ∷ misplaced_coefficient 2)
    -- two or three of them, or one and a short buffer
    ∷ tried (image_left 3 2 (0 ∷ 0 ∷ 3 ∷ 0 ∷ []) (0 ∷ 3 ∷ []) (0 ∷ 0 ∷ 3 ∷ []) []) (refused (at 5 2 1))
    (("the vector told before the matrix", refused (at 10 1 2))
    ∷ ("a coefficient told before the matrix", refused (at 11 0 3))
    ∷ ("the matrix's number at the vector's place", refused (at 5 1 2))
    ∷ ("the vector's number at the matrix's place", refused (at 10 2 1))
    ∷ ("the buffer told before the entries", refused (alone 6))
    ∷ misplaced 5 2 1)
    ∷ tried (image_left 3 2 (0 ∷ 0 ∷ 0 ∷ 3 ∷ []) (0 ∷ 0 ∷ []) (0 ∷ 0 ∷ 3 ∷ []) (sevens 2)) (refused (at 5 2 2))
    (("a coefficient told before the matrix", refused (at 11 0 3)) ∷ misplaced 5 2 2)
    ∷ tried (image_left 3 2 (0 ∷ 0 ∷ 0 ∷ 0 ∷ []) (0 ∷ 3 ∷ []) (0 ∷ 0 ∷ 3 ∷ []) []) (refused (at 10 1 2))
    (("a coefficient told before the vector", refused (at 11 0 3))
    ∷ ("the vector's number at the coefficient's place", refused (at 10 0 3))
    ∷ ("the buffer told before the entries", refused (alone 6))
    ∷ misplaced_row 1 2)
    ∷ tried (image_left 3 2 (0 ∷ 0 ∷ 0 ∷ 0 ∷ []) (0 ∷ 0 ∷ []) (0 ∷ 0 ∷ 3 ∷ []) []) (refused (at 11 0 3))
    (("the buffer told before the coefficients", refused (alone 6)) ∷ misplaced_coefficient 3)
    -- several faults at once; 7 stands before 5
    ∷ tried (image_left 4 65 (9 ∷ []) (9 ∷ []) [] []) (refused (alone 1)) (out_of_turn 1 (2 ∷ 3 ∷ 4 ∷ 7 ∷ 5 ∷ 10 ∷ 6 ∷ []) (5 ∷ 10 ∷ []))
    ∷ tried (image_left 3 65 (9 ∷ []) (9 ∷ []) [] []) (refused (alone 2)) (out_of_turn 2 (3 ∷ 4 ∷ 7 ∷ 5 ∷ 10 ∷ 6 ∷ []) (5 ∷ 10 ∷ []))
    ∷ tried (image_left 3 2 (9 ∷ []) (9 ∷ []) [] []) (refused (alone 3)) (out_of_turn 3 (4 ∷ 7 ∷ 5 ∷ 10 ∷ 6 ∷ []) (5 ∷ 10 ∷ []))
    ∷ tried (image_left 3 2 (9 ∷ 9 ∷ 9 ∷ 9 ∷ []) (9 ∷ []) [] []) (refused (alone 4)) (out_of_turn 4 (7 ∷ 5 ∷ 10 ∷ 6 ∷ []) (5 ∷ 10 ∷ []))
    ∷ tried (image_left 3 2 (9 ∷ 9 ∷ 9 ∷ 9 ∷ []) (9 ∷ 9 ∷ []) [] []) (refused (alone 7)) (out_of_turn 7 (5 ∷ 10 ∷ 6 ∷ []) (5 ∷ 10 ∷ []))
    ∷ tried (image_left 3 2 (9 ∷ 9 ∷ 9 ∷ 9 ∷ []) (9 ∷ 9 ∷ []) (replicate 66 9) []) (refused (alone 7))
    (("a coefficient told before their number", refused (at 11 0 1)) ∷ out_of_turn 7 (5 ∷ 10 ∷ 11 ∷ 6 ∷ []) (5 ∷ 10 ∷ []))
    ∷ tried (image_left 3 2 (9 ∷ 9 ∷ 9 ∷ 9 ∷ []) (9 ∷ 9 ∷ []) (9 ∷ []) []) (refused (at 5 1 1))
    (("a later test's number, with its entry", refused (at 10 1 1))
    ∷ ("a later test's number, with its coefficient", refused (at 11 0 1))
    ∷ numbered "a later test's number" (10 ∷ 11 ∷ 6 ∷ []))
    ∷ tried (image_left 3 2 (0 ∷ 0 ∷ 0 ∷ 0 ∷ []) (0 ∷ 0 ∷ []) (0 ∷ []) []) (refused (alone 6))
    (numbered "another number" (0 ∷ 1 ∷ 2 ∷ 3 ∷ 4 ∷ 5 ∷ 7 ∷ 8 ∷ 9 ∷ 10 ∷ 11 ∷ [])
    ++ numbered_at "a place where no entry is bad" 1 1 (5 ∷ 6 ∷ 10 ∷ 11 ∷ []))
    ∷ []

unfoldable pub wrong_stands : List Trial
wrong_stands =
    -- "Refusing always", "always short, 1", "writing nothing", "an invented spent"
    tried (stand_on P5) (proving 2 1 2, 1 ∷ 0 ∷ 1 ∷ 7 ∷ [], 0 ∷ 0 ∷ 7 ∷ [])
    (("always short, 1; or a row that costs the whole allowance not taken", (lacking 0 0 0 1, 1 ∷ 0 ∷ 0 ∷ 7 ∷ [], 1 ∷ 0 ∷ 7 ∷ []))
    ∷ ("always short, 1, with all rows taken", (lacking 0 1 2 1, 1 ∷ 0 ∷ 0 ∷ 7 ∷ [], 1 ∷ 0 ∷ 7 ∷ []))
    ∷ ("nothing written", (proving 2 1 2, sevens 4, sevens 3))
    ∷ ("the polynomial not written", (proving 2 1 2, sevens 4, 0 ∷ 0 ∷ 7 ∷ []))
    ∷ ("the zeros of the witness buffer not written", (proving 2 1 2, 1 ∷ 0 ∷ 1 ∷ 7 ∷ [], sevens 3))
    ∷ ("spent 0", (proving 2 1 0, 1 ∷ 0 ∷ 1 ∷ 7 ∷ [], 0 ∷ 0 ∷ 7 ∷ []))
    ∷ ("spent one too low", (proving 2 1 1, 1 ∷ 0 ∷ 1 ∷ 7 ∷ [], 0 ∷ 0 ∷ 7 ∷ []))
    ∷ ("the products of the test in spent", (proving 2 1 6, 1 ∷ 0 ∷ 1 ∷ 7 ∷ [], 0 ∷ 0 ∷ 7 ∷ []))
    ∷ ("taken 0", (proving 2 0 2, 1 ∷ 0 ∷ 1 ∷ 7 ∷ [], 0 ∷ 0 ∷ 7 ∷ []))
    ∷ ("the number of coefficients for the degree", (proving 3 1 2, 1 ∷ 0 ∷ 1 ∷ 7 ∷ [], 0 ∷ 0 ∷ 7 ∷ []))
    ∷ (
      "proved, with a witness",
      (given (record { standing = proved; degree = 2; taken = 1; spent = 2; witness = 1 }), 1 ∷ 0 ∷ 1 ∷ 7 ∷ [], 0 ∷ 0 ∷ 7 ∷ []),
    )
    ∷ ("the minimal polynomial called short", (lacking 2 1 2 1, 1 ∷ 0 ∷ 1 ∷ 7 ∷ [], 0 ∷ 0 ∷ 7 ∷ []))
    ∷ ("the minimal polynomial called short, without a witness", (lacking 2 1 2 0, 1 ∷ 0 ∷ 1 ∷ 7 ∷ [], 0 ∷ 0 ∷ 7 ∷ []))
    ∷ (numbered_two "refused, and nothing is wrong" (sevens 4) (sevens 3) every_number
    ++ numbered_at_two "refused for an entry, and nothing is wrong" (sevens 4) (sevens 3) 1 1 (5 ∷ 10 ∷ [])))
    ∷ tried (stand_on P3) (proving 1 1 1, 0 ∷ 1 ∷ 7 ∷ [], 0 ∷ 7 ∷ []) (("always short, 1", (lacking 0 0 0 1, 1 ∷ 0 ∷ 7 ∷ [], 1 ∷ 7 ∷ [])) ∷ [])
    -- no rows: F is 1
    ∷ tried (stand_on P1) (lacking 0 0 0 1, 1 ∷ 0 ∷ 7 ∷ [], 1 ∷ 7 ∷ [])
    (("F = 0, which sends all to zero", (proving 0 0 0, 0 ∷ 0 ∷ 7 ∷ [], 0 ∷ 7 ∷ []))
    ∷ ("F = 1 called proved, no row being left", (proving 0 0 0, 1 ∷ 0 ∷ 7 ∷ [], 0 ∷ 7 ∷ []))
    ∷ ("a unit row taken that is not on the list", (proving 1 1 1, 0 ∷ 1 ∷ 7 ∷ [], 0 ∷ 7 ∷ []))
    ∷ numbered_two "an empty list refused" (sevens 3) (sevens 2) (4 ∷ []))
    -- a zero row costs nothing and is taken
    ∷ tried (stand_on P2) (lacking 0 1 0 1, 1 ∷ 0 ∷ 7 ∷ [], 1 ∷ 7 ∷ [])
    (("the zero row not taken", (lacking 0 0 0 1, 1 ∷ 0 ∷ 7 ∷ [], 1 ∷ 7 ∷ []))
    ∷ ("the dear row counted as taken", (lacking 0 2 0 1, 1 ∷ 0 ∷ 7 ∷ [], 1 ∷ 7 ∷ []))
    ∷ ("the dear row taken", (proving 1 2 1, 0 ∷ 1 ∷ 7 ∷ [], 0 ∷ 7 ∷ []))
    ∷ [])
    -- a row over the allowance; the witness is the least i that fails, with its own image
    ∷ tried (stand_on P4) (lacking 0 0 0 1, 1 ∷ 0 ∷ 0 ∷ 7 ∷ [], 1 ∷ 0 ∷ 7 ∷ [])
    (("a row taken that the allowance pays in part", (proving 2 1 2, 1 ∷ 0 ∷ 1 ∷ 7 ∷ [], 0 ∷ 0 ∷ 7 ∷ []))
    ∷ ("the products of a row that is not taken in spent", (lacking 0 0 2 1, 1 ∷ 0 ∷ 0 ∷ 7 ∷ [], 1 ∷ 0 ∷ 7 ∷ []))
    ∷ ("the allowance for spent", (lacking 0 0 1 1, 1 ∷ 0 ∷ 0 ∷ 7 ∷ [], 1 ∷ 0 ∷ 7 ∷ []))
    ∷ ("the last unit row that fails, not the first", (lacking 0 0 0 2, 1 ∷ 0 ∷ 0 ∷ 7 ∷ [], 0 ∷ 1 ∷ 7 ∷ []))
    ∷ ("the image of another unit row", (lacking 0 0 0 1, 1 ∷ 0 ∷ 0 ∷ 7 ∷ [], 0 ∷ 1 ∷ 7 ∷ []))
    ∷ ("the witness counted from 0", (lacking 0 0 0 0, 1 ∷ 0 ∷ 0 ∷ 7 ∷ [], 1 ∷ 0 ∷ 7 ∷ []))
    ∷ [])
    -- the identity
    ∷ tried (stand_on P6) (proving 1 1 1, 4 ∷ 1 ∷ 0 ∷ 7 ∷ [], 0 ∷ 0 ∷ 7 ∷ [])
    (("the chain product for F", (proving 2 1 1, 1 ∷ 3 ∷ 1 ∷ 7 ∷ [], 0 ∷ 0 ∷ 7 ∷ []))
    ∷ ("not monic", (proving 1 1 1, 1 ∷ 4 ∷ 0 ∷ 7 ∷ [], 0 ∷ 0 ∷ 7 ∷ []))
    ∷ ("short, since F has a degree below n", (lacking 1 1 1 2, 4 ∷ 1 ∷ 0 ∷ 7 ∷ [], 0 ∷ 0 ∷ 7 ∷ []))
    ∷ [])
    -- "Multiplying the orders"; "calling F proved when the taken rows' orders stop growing"; then each number and byte
    ∷ tried (stand_on P7) (lacking 1 2 2 2, 2 ∷ 1 ∷ 0 ∷ 7 ∷ [], 0 ∷ 1 ∷ 7 ∷ [])
    (("the orders multiplied", (lacking 2 2 2 2, 1 ∷ 1 ∷ 1 ∷ 7 ∷ [], 0 ∷ 1 ∷ 7 ∷ []))
    ∷ (
      "proved without a test; or since the orders stopped growing; or with the last unit row untested",
      (proving 1 2 2, 2 ∷ 1 ∷ 0 ∷ 7 ∷ [], 0 ∷ 0 ∷ 7 ∷ []),
    )
    ∷ ("proved, with the witness's image", (proving 1 2 2, 2 ∷ 1 ∷ 0 ∷ 7 ∷ [], 0 ∷ 1 ∷ 7 ∷ []))
    ∷ ("relative orders for orders: the second row costs nothing", (lacking 1 2 1 2, 2 ∷ 1 ∷ 0 ∷ 7 ∷ [], 0 ∷ 1 ∷ 7 ∷ []))
    ∷ ("a row that adds nothing passed over", (lacking 1 1 1 2, 2 ∷ 1 ∷ 0 ∷ 7 ∷ [], 0 ∷ 1 ∷ 7 ∷ []))
    ∷ ("the allowance for spent", (lacking 1 2 9 2, 2 ∷ 1 ∷ 0 ∷ 7 ∷ [], 0 ∷ 1 ∷ 7 ∷ []))
    ∷ ("spent 0", (lacking 1 2 0 2, 2 ∷ 1 ∷ 0 ∷ 7 ∷ [], 0 ∷ 1 ∷ 7 ∷ []))
    ∷ ("the witness too high", (lacking 1 2 2 3, 2 ∷ 1 ∷ 0 ∷ 7 ∷ [], 0 ∷ 1 ∷ 7 ∷ []))
    ∷ ("the witness counted from 0", (lacking 1 2 2 1, 2 ∷ 1 ∷ 0 ∷ 7 ∷ [], 0 ∷ 1 ∷ 7 ∷ []))
    ∷ ("short, with witness 0", (lacking 1 2 2 0, 2 ∷ 1 ∷ 0 ∷ 7 ∷ [], 0 ∷ 1 ∷ 7 ∷ []))
    ∷ ("the image of e(1)", (lacking 1 2 2 2, 2 ∷ 1 ∷ 0 ∷ 7 ∷ [], 0 ∷ 0 ∷ 7 ∷ []))
    ∷ ("e(2)·M for e(2)·F(M)", (lacking 1 2 2 2, 2 ∷ 1 ∷ 0 ∷ 7 ∷ [], 0 ∷ 2 ∷ 7 ∷ []))
    ∷ ("the image not written", (lacking 1 2 2 2, 2 ∷ 1 ∷ 0 ∷ 7 ∷ [], sevens 3))
    ∷ ("the polynomial not written", (lacking 1 2 2 2, sevens 4, 0 ∷ 1 ∷ 7 ∷ []))
    ∷ ("bytes above the degree left as they were", (lacking 1 2 2 2, 2 ∷ 1 ∷ 7 ∷ 7 ∷ [], 0 ∷ 1 ∷ 7 ∷ []))
    ∷ ("without the leading 1", (lacking 1 2 2 2, 2 ∷ 0 ∷ 0 ∷ 7 ∷ [], 0 ∷ 1 ∷ 7 ∷ []))
    ∷ ("a byte beyond n + 1 changed in the polynomial buffer", (lacking 1 2 2 2, 2 ∷ 1 ∷ 0 ∷ 0 ∷ [], 0 ∷ 1 ∷ 7 ∷ []))
    ∷ ("a byte beyond n changed in the witness buffer", (lacking 1 2 2 2, 2 ∷ 1 ∷ 0 ∷ 7 ∷ [], 0 ∷ 1 ∷ 0 ∷ []))
    ∷ [])
    -- "Spinning the first row and ignoring the others"
    ∷ tried (stand_on P8) (proving 2 2 2, 2 ∷ 0 ∷ 1 ∷ 7 ∷ [], 0 ∷ 0 ∷ 7 ∷ [])
    (("the first row alone", (lacking 1 1 1 2, 2 ∷ 1 ∷ 0 ∷ 7 ∷ [], 0 ∷ 1 ∷ 7 ∷ []))
    ∷ ("the first row alone, the others counted", (lacking 1 2 2 2, 2 ∷ 1 ∷ 0 ∷ 7 ∷ [], 0 ∷ 1 ∷ 7 ∷ []))
    ∷ ("the last row alone, the others counted", (lacking 1 2 2 1, 1 ∷ 1 ∷ 0 ∷ 7 ∷ [], 2 ∷ 0 ∷ 7 ∷ []))
    ∷ ("the first row's order called proved", (proving 1 2 2, 2 ∷ 1 ∷ 0 ∷ 7 ∷ [], 0 ∷ 0 ∷ 7 ∷ []))
    ∷ ("the allowance for spent", (proving 2 2 9, 2 ∷ 0 ∷ 1 ∷ 7 ∷ [], 0 ∷ 0 ∷ 7 ∷ []))
    ∷ ("spent 0", (proving 2 2 0, 2 ∷ 0 ∷ 1 ∷ 7 ∷ [], 0 ∷ 0 ∷ 7 ∷ []))
    ∷ ("n products a row", (proving 2 2 4, 2 ∷ 0 ∷ 1 ∷ 7 ∷ [], 0 ∷ 0 ∷ 7 ∷ []))
    ∷ [])
    -- the longest front part, and no shorter one
    ∷ tried (stand_reply 3 2 (1 ∷ 0 ∷ 0 ∷ 2 ∷ []) (1 ∷ 0 ∷ 0 ∷ 1 ∷ []) 1 (sevens 4) (sevens 3)) (lacking 1 1 1 2, 2 ∷ 1 ∷ 0 ∷ 7 ∷ [], 0 ∷ 1 ∷ 7 ∷ [])
    (("no row taken, as not all can be", (lacking 0 0 0 1, 1 ∷ 0 ∷ 0 ∷ 7 ∷ [], 1 ∷ 0 ∷ 7 ∷ []))
    ∷ ("each row held to the allowance by itself", (proving 2 2 2, 2 ∷ 0 ∷ 1 ∷ 7 ∷ [], 0 ∷ 0 ∷ 7 ∷ []))
    ∷ [])
    ∷ tried (stand_reply 3 2 (1 ∷ 0 ∷ 0 ∷ 2 ∷ []) (1 ∷ 0 ∷ 0 ∷ 0 ∷ []) 1 (sevens 4) (sevens 3)) (lacking 1 2 1 2, 2 ∷ 1 ∷ 0 ∷ 7 ∷ [], 0 ∷ 1 ∷ 7 ∷ [])
    (("the zero row not taken, the allowance being used up", (lacking 1 1 1 2, 2 ∷ 1 ∷ 0 ∷ 7 ∷ [], 0 ∷ 1 ∷ 7 ∷ [])) ∷ [])
    -- "Skipping a row that is over the allowance and taking a later cheap one"
    ∷ tried (stand_on P9) (lacking 0 0 0 1, 1 ∷ 0 ∷ 0 ∷ 7 ∷ [], 1 ∷ 0 ∷ 7 ∷ [])
    (("the dear row skipped, the zero row taken", (lacking 0 1 0 1, 1 ∷ 0 ∷ 0 ∷ 7 ∷ [], 1 ∷ 0 ∷ 7 ∷ []))
    ∷ ("the dear row counted too", (lacking 0 2 0 1, 1 ∷ 0 ∷ 0 ∷ 7 ∷ [], 1 ∷ 0 ∷ 7 ∷ []))
    ∷ ("the dear row taken in the cheap one's place", (proving 2 1 2, 2 ∷ 0 ∷ 1 ∷ 7 ∷ [], 0 ∷ 0 ∷ 7 ∷ []))
    ∷ [])
    ∷ tried (stand_reply 3 2 (1 ∷ 0 ∷ 0 ∷ 2 ∷ []) (1 ∷ 1 ∷ 1 ∷ 0 ∷ []) 1 (sevens 4) (sevens 3)) (lacking 0 0 0 1, 1 ∷ 0 ∷ 0 ∷ 7 ∷ [], 1 ∷ 0 ∷ 7 ∷ [])
    (("the dear row skipped, the cheap one taken", (lacking 1 1 1 2, 2 ∷ 1 ∷ 0 ∷ 7 ∷ [], 0 ∷ 1 ∷ 7 ∷ [])) ∷ [])
    -- "Columns for rows"; "calling F proved when every irreducible factor of the chain product divides F"
    ∷ tried (stand_on P10) (lacking 1 1 1 1, 0 ∷ 1 ∷ 0 ∷ 7 ∷ [], 0 ∷ 1 ∷ 7 ∷ [])
    (("columns for rows", (proving 2 1 2, 0 ∷ 0 ∷ 1 ∷ 7 ∷ [], 0 ∷ 0 ∷ 7 ∷ []))
    ∷ (
      "proved without a test; or since x divides F, the chain product's one factor",
      (proving 1 1 1, 0 ∷ 1 ∷ 0 ∷ 7 ∷ [], 0 ∷ 0 ∷ 7 ∷ []),
    )
    ∷ [])
    ∷ tried (stand_on P11) (proving 2 1 2, 0 ∷ 0 ∷ 1 ∷ 7 ∷ [], 0 ∷ 0 ∷ 7 ∷ [])
    (("columns for rows", (lacking 1 1 1 2, 0 ∷ 1 ∷ 0 ∷ 7 ∷ [], 1 ∷ 0 ∷ 7 ∷ []))
    ∷ ("columns for rows in the orders alone", (lacking 1 1 1 1, 0 ∷ 1 ∷ 0 ∷ 7 ∷ [], 0 ∷ 1 ∷ 7 ∷ []))
    ∷ ("each irreducible factor once", (lacking 1 1 2 1, 0 ∷ 1 ∷ 0 ∷ 7 ∷ [], 0 ∷ 1 ∷ 7 ∷ []))
    ∷ [])
    -- "Giving relative orders where orders are due": (0,1) and (1,0) of [0 1 | 0 0] have the orders x and x²; over the first, the second has x
    ∷ tried (stand_reply 2 2 (0 ∷ 1 ∷ 0 ∷ 0 ∷ []) (0 ∷ 1 ∷ 1 ∷ 0 ∷ []) 9 (sevens 4) (sevens 3)) (proving 2 2 3, 0 ∷ 0 ∷ 1 ∷ 7 ∷ [], 0 ∷ 0 ∷ 7 ∷ [])
    (("the common multiple of relative orders", (lacking 1 2 2 1, 0 ∷ 1 ∷ 0 ∷ 7 ∷ [], 0 ∷ 1 ∷ 7 ∷ []))
    ∷ ("the degrees of relative orders in spent", (proving 2 2 2, 0 ∷ 0 ∷ 1 ∷ 7 ∷ [], 0 ∷ 0 ∷ 7 ∷ []))
    ∷ [])
    ∷ tried (stand_reply 2 2 (0 ∷ 1 ∷ 0 ∷ 0 ∷ []) (0 ∷ 1 ∷ 1 ∷ 0 ∷ []) 2 (sevens 4) (sevens 3)) (lacking 1 1 1 1, 0 ∷ 1 ∷ 0 ∷ 7 ∷ [], 0 ∷ 1 ∷ 7 ∷ [])
    (("a row taken by the degree of its relative order", (proving 2 2 2, 0 ∷ 0 ∷ 1 ∷ 7 ∷ [], 0 ∷ 0 ∷ 7 ∷ [])) ∷ [])
    -- orders with a common factor: (x − 1)(x − 2) and (x − 1)(x − 4) modulo 5
    ∷ tried (stand_reply 5 3 (1 ∷ 0 ∷ 0 ∷ 0 ∷ 2 ∷ 0 ∷ 0 ∷ 0 ∷ 4 ∷ []) (1 ∷ 1 ∷ 0 ∷ 1 ∷ 0 ∷ 1 ∷ []) 9 (sevens 5) (sevens 4))
    (proving 3 2 4, 2 ∷ 4 ∷ 3 ∷ 1 ∷ 7 ∷ [], 0 ∷ 0 ∷ 0 ∷ 7 ∷ [])
    (("divided by a greatest common divisor that was not made monic", (lacking 3 2 4 3, 4 ∷ 1 ∷ 4 ∷ 1 ∷ 7 ∷ [], 0 ∷ 0 ∷ 1 ∷ 7 ∷ [])) ∷ [])
    -- the allowance is any number of 32 bits
    ∷ tried (stand_reply 3 2 (0 ∷ 1 ∷ 2 ∷ 0 ∷ []) (1 ∷ 0 ∷ []) 256 (sevens 4) (sevens 3)) (proving 2 1 2, 1 ∷ 0 ∷ 1 ∷ 7 ∷ [], 0 ∷ 0 ∷ 7 ∷ [])
    (("the allowance cut to a byte", (lacking 0 0 0 1, 1 ∷ 0 ∷ 0 ∷ 7 ∷ [], 1 ∷ 0 ∷ 7 ∷ [])) ∷ [])
    ∷ tried (stand_reply 3 2 (0 ∷ 1 ∷ 2 ∷ 0 ∷ []) (1 ∷ 0 ∷ []) 65536 (sevens 4) (sevens 3)) (proving 2 1 2, 1 ∷ 0 ∷ 1 ∷ 7 ∷ [], 0 ∷ 0 ∷ 7 ∷ [])
    (("the allowance cut to 16 bits", (lacking 0 0 0 1, 1 ∷ 0 ∷ 0 ∷ 7 ∷ [], 1 ∷ 0 ∷ 7 ∷ []))
    ∷ numbered_two "refused, as the writer refuses it" (sevens 4) (sevens 3) (9 ∷ []))
    ∷ tried (stand_reply 3 2 (0 ∷ 1 ∷ 2 ∷ 0 ∷ []) (1 ∷ 0 ∷ []) 4294967295 (sevens 4) (sevens 3)) (proving 2 1 2, 1 ∷ 0 ∷ 1 ∷ 7 ∷ [], 0 ∷ 0 ∷ 7 ∷ [])
    (("the allowance taken for −1", (lacking 0 0 0 1, 1 ∷ 0 ∷ 0 ∷ 7 ∷ [], 1 ∷ 0 ∷ 7 ∷ []))
    ∷ ("the allowance for spent", (proving 2 1 4294967295, 1 ∷ 0 ∷ 1 ∷ 7 ∷ [], 0 ∷ 0 ∷ 7 ∷ []))
    ∷ [])
    -- the edges of p, n and the list: 251, 64 and 128 rows are taken
    ∷ tried (stand_reply 251 1 (250 ∷ []) (250 ∷ []) 9 (sevens 2) (sevens 1)) (proving 1 1 1, 1 ∷ 1 ∷ [], 0 ∷ [])
    (numbered_two "p = 251 refused" (sevens 2) (sevens 1) (1 ∷ []))
    ∷ tried (stand_reply 253 1 (250 ∷ []) [] 9 (sevens 2) (sevens 1)) (refused (alone 1), sevens 2, sevens 1)
    (("p = 253 answered", (lacking 0 0 0 1, 1 ∷ 0 ∷ [], 1 ∷ [])) ∷ [])
    ∷ tried (stand_reply 257 1 (250 ∷ []) [] 9 (sevens 2) (sevens 1)) (refused (alone 1), sevens 2, sevens 1)
    (("a prime over 251 answered", (lacking 0 0 0 1, 1 ∷ 0 ∷ [], 1 ∷ [])) ∷ [])
    ∷ tried (stand_reply 258 1 (0 ∷ []) (1 ∷ []) 1 (sevens 3) (sevens 2)) (refused (alone 1), sevens 3, sevens 2)
    (("p = 258 cut to a byte and answered as 2", (proving 1 1 1, 0 ∷ 1 ∷ 7 ∷ [], 0 ∷ 7 ∷ [])) ∷ [])
    ∷ tried (stand_reply 4 1 (0 ∷ []) (1 ∷ []) 1 (sevens 3) (sevens 2)) (refused (alone 1), sevens 3, sevens 2)
    (("p = 4 answered", (proving 1 1 1, 0 ∷ 1 ∷ 7 ∷ [], 0 ∷ 7 ∷ [])) ∷ [])
    ∷ tried (stand_reply 0 1 (0 ∷ []) (1 ∷ []) 1 (sevens 3) (sevens 2)) (refused (alone 1), sevens 3, sevens 2)
    (("p = 0 answered", (proving 1 1 1, 0 ∷ 1 ∷ 7 ∷ [], 0 ∷ 7 ∷ [])) ∷ [])
    ∷ tried (stand_reply 1 1 (0 ∷ []) (0 ∷ []) 1 (sevens 3) (sevens 2)) (refused (alone 1), sevens 3, sevens 2)
    (("p = 1 answered", (proving 0 1 0, 0 ∷ 0 ∷ 7 ∷ [], 0 ∷ 7 ∷ [])) ∷ [])
    ∷ tried (stand_reply 2 64 (replicate 4096 0) [] 9 (sevens 65) (sevens 64)) (lacking 0 0 0 1, 1 ∷ replicate 64 0, 1 ∷ replicate 63 0)
    (numbered_two "n = 64 refused" (sevens 65) (sevens 64) (2 ∷ []))
    ∷ tried (stand_reply 2 65 (replicate 4225 0) [] 9 (sevens 66) (sevens 65)) (refused (alone 2), sevens 66, sevens 65)
    (("n = 65 answered", (lacking 0 0 0 1, 1 ∷ replicate 65 0, 1 ∷ replicate 64 0)) ∷ [])
    ∷ tried (stand_reply 2 257 (0 ∷ []) (1 ∷ []) 1 (sevens 3) (sevens 2)) (refused (alone 2), sevens 3, sevens 2)
    (("n = 257 cut to a byte and answered as 1", (proving 1 1 1, 0 ∷ 1 ∷ 7 ∷ [], 0 ∷ 7 ∷ [])) ∷ [])
    ∷ tried (stand_reply 2 0 [] [] 9 (sevens 1) []) (refused (alone 2), sevens 1, []) (("n = 0 answered", (proving 0 0 0, 1 ∷ [], [])) ∷ [])
    ∷ tried (stand_reply 2 1 (0 ∷ []) (replicate 128 0) 9 (sevens 2) (sevens 1)) (lacking 0 128 0 1, 1 ∷ 0 ∷ [], 1 ∷ [])
    (numbered_two "128 rows refused" (sevens 2) (sevens 1) (4 ∷ []) ++ (("the last row not taken", (lacking 0 127 0 1, 1 ∷ 0 ∷ [], 1 ∷ [])) ∷ []))
    ∷ tried (stand_reply 2 1 (0 ∷ []) (replicate 129 0) 9 (sevens 2) (sevens 1)) (refused (alone 4), sevens 2, sevens 1)
    (("129 rows answered", (lacking 0 129 0 1, 1 ∷ 0 ∷ [], 1 ∷ []))
    ∷ ("128 of 129 rows answered", (lacking 0 128 0 1, 1 ∷ 0 ∷ [], 1 ∷ []))
    ∷ [])
    ∷ tried (stand_reply 2 1 (0 ∷ []) (replicate 257 0) 9 (sevens 2) (sevens 1)) (refused (alone 4), sevens 2, sevens 1)
    (("the number of rows cut to a byte", (lacking 0 1 0 1, 1 ∷ 0 ∷ [], 1 ∷ [])) ∷ [])
    -- what is too long, too short or too large is refused, and no lent byte changes
    ∷ tried (stand_reply 3 2 (1 ∷ 0 ∷ 0 ∷ 2 ∷ []) (1 ∷ 0 ∷ 1 ∷ []) 9 (sevens 4) (sevens 3)) (refused (alone 4), sevens 4, sevens 3)
    (("the whole rows of the list taken", (lacking 1 1 1 2, 2 ∷ 1 ∷ 0 ∷ 7 ∷ [], 0 ∷ 1 ∷ 7 ∷ []))
    ∷ ("the first byte of the polynomial buffer changed", (refused (alone 4), 1 ∷ 7 ∷ 7 ∷ 7 ∷ [], sevens 3))
    ∷ ("a byte beyond n + 1 changed in the polynomial buffer", (refused (alone 4), 7 ∷ 7 ∷ 7 ∷ 0 ∷ [], sevens 3))
    ∷ ("the first byte of the witness buffer changed", (refused (alone 4), sevens 4, 0 ∷ 7 ∷ 7 ∷ []))
    ∷ ("a byte beyond n changed in the witness buffer", (refused (alone 4), sevens 4, 7 ∷ 7 ∷ 0 ∷ []))
    ∷ [])
    ∷ tried (stand_reply 3 2 (1 ∷ 0 ∷ 0 ∷ 3 ∷ []) (1 ∷ 0 ∷ []) 9 (sevens 4) (sevens 3)) (refused (at 5 2 2), sevens 4, sevens 3)
    (("an entry p of the matrix taken for 0", (lacking 1 1 1 2, 2 ∷ 1 ∷ 0 ∷ 7 ∷ [], 0 ∷ 2 ∷ 7 ∷ []))
    ∷ ("row and column written to a buffer", (refused (at 5 2 2), sevens 4, 2 ∷ 2 ∷ 7 ∷ []))
    ∷ [])
    ∷ tried (stand_reply 3 2 (1 ∷ 0 ∷ 0 ∷ 2 ∷ []) (1 ∷ 3 ∷ []) 9 (sevens 4) (sevens 3)) (refused (at 10 1 2), sevens 4, sevens 3)
    (("an entry p of a candidate taken for 0", (lacking 1 1 1 2, 2 ∷ 1 ∷ 0 ∷ 7 ∷ [], 0 ∷ 1 ∷ 7 ∷ [])) ∷ [])
    ∷ tried (stand_reply 3 2 (1 ∷ 0 ∷ 0 ∷ 2 ∷ []) (1 ∷ 0 ∷ 0 ∷ 3 ∷ []) 1 (sevens 4) (sevens 3)) (refused (at 10 2 2), sevens 4, sevens 3)
    (("an entry p in a row that is not taken passed by", (lacking 1 1 1 2, 2 ∷ 1 ∷ 0 ∷ 7 ∷ [], 0 ∷ 1 ∷ 7 ∷ [])) ∷ [])
    ∷ tried (stand_reply 3 2 (1 ∷ 0 ∷ 0 ∷ 2 ∷ []) (1 ∷ 0 ∷ []) 9 (sevens 2) (sevens 2)) (refused (alone 6), sevens 2, sevens 2)
    (("a polynomial buffer of n bytes taken", (lacking 1 1 1 2, 2 ∷ 1 ∷ [], 0 ∷ 1 ∷ []))
    ∷ ("the witness written by a refused call", (refused (alone 6), sevens 2, 0 ∷ 1 ∷ []))
    ∷ [])
    ∷ tried (stand_reply 3 2 (1 ∷ 0 ∷ 0 ∷ 2 ∷ []) (1 ∷ 0 ∷ 0 ∷ 1 ∷ []) 9 (sevens 3) (sevens 1)) (refused (alone 6), sevens 3, sevens 1)
    (("a witness buffer of n − 1 bytes taken, as the standing is proved", (proving 2 2 2, 2 ∷ 0 ∷ 1 ∷ [], 0 ∷ []))
    ∷ ("the polynomial written by a refused call", (refused (alone 6), 2 ∷ 0 ∷ 1 ∷ [], sevens 1))
    ∷ [])
    -- the first bad entry of the matrix, in reading order, rows and columns counted from 1
    ∷ tried (stand_left 3 2 (0 ∷ 3 ∷ 0 ∷ 0 ∷ []) (0 ∷ 0 ∷ []) (sevens 3) (sevens 2)) (refused (at 5 1 2))
    (("row and column swapped", refused (at 5 2 1))
    ∷ (misplaced 5 1 2 ++ numbered_at "another number" 1 2 (0 ∷ 1 ∷ 2 ∷ 3 ∷ 4 ∷ 6 ∷ 7 ∷ 8 ∷ 9 ∷ 10 ∷ 11 ∷ [])))
    ∷ tried (stand_left 3 2 (0 ∷ 0 ∷ 3 ∷ 0 ∷ []) (0 ∷ 0 ∷ []) (sevens 3) (sevens 2)) (refused (at 5 2 1))
    (("row and column swapped", refused (at 5 1 2)) ∷ ("the matrix taken for one row", refused (at 5 1 3)) ∷ misplaced 5 2 1)
    ∷ tried (stand_left 3 3 (0 ∷ 0 ∷ 3 ∷ 9 ∷ 0 ∷ 0 ∷ 0 ∷ 4 ∷ 0 ∷ []) [] (sevens 4) (sevens 3)) (refused (at 5 1 3))
    (("the last bad entry", refused (at 5 3 2))
    ∷ ("the second; or the largest; or the first, column by column", refused (at 5 2 1))
    ∷ ("row and column swapped", refused (at 5 3 1))
    ∷ misplaced 5 1 3)
    ∷ tried (stand_left 3 1 (3 ∷ []) [] (sevens 2) (sevens 1)) (refused (at 5 1 1)) (misplaced 5 1 1)
    -- of the candidates, whose rows are counted from 1 too
    ∷ tried (stand_left 3 2 (0 ∷ 0 ∷ 0 ∷ 0 ∷ []) (1 ∷ 0 ∷ 0 ∷ 1 ∷ 3 ∷ 0 ∷ []) (sevens 3) (sevens 2)) (refused (at 10 3 1))
    (("row and column swapped", refused (at 10 1 3))
    ∷ ("the candidates taken for one row", refused (at 10 1 5))
    ∷ ("the byte's number for the row; or rows counted on from the matrix's", refused (at 10 5 1))
    ∷ ("row 1, as for one vector", refused (at 10 1 1))
    ∷ ("row 0, as for a coefficient", refused (at 10 0 1))
    ∷ (misplaced_row 3 1 ++ numbered_at "another number" 3 1 (0 ∷ 1 ∷ 2 ∷ 3 ∷ 4 ∷ 6 ∷ 7 ∷ 8 ∷ 9 ∷ [])))
    ∷ tried (stand_left 3 2 (0 ∷ 0 ∷ 0 ∷ 0 ∷ []) (0 ∷ 0 ∷ 0 ∷ 3 ∷ 9 ∷ 0 ∷ 0 ∷ 4 ∷ []) (sevens 3) (sevens 2)) (refused (at 10 2 2))
    (("the last bad entry", refused (at 10 4 2))
    ∷ ("the second; or the largest; or the first, column by column", refused (at 10 3 1))
    ∷ misplaced_row 2 2)
    ∷ tried (stand_left 3 2 (0 ∷ 0 ∷ 0 ∷ 0 ∷ []) (3 ∷ 0 ∷ []) (sevens 3) (sevens 2)) (refused (at 10 1 1)) (misplaced_row 1 1)
    ∷ tried (stand_left 2 1 (0 ∷ []) (replicate 127 0 ++ (2 ∷ [])) (sevens 3) (sevens 2)) (refused (at 10 128 1))
    (("row and column swapped", refused (at 10 1 128)) ∷ misplaced_row 128 1)
    -- both, or one of them and a short buffer
    ∷ tried (stand_left 3 2 (0 ∷ 0 ∷ 3 ∷ 0 ∷ []) (0 ∷ 3 ∷ []) [] []) (refused (at 5 2 1))
    (("a candidate told before the matrix", refused (at 10 1 2))
    ∷ ("the matrix's number at the candidate's place", refused (at 5 1 2))
    ∷ ("a candidate's number at the matrix's place", refused (at 10 2 1))
    ∷ ("the buffers told before the entries", refused (alone 6))
    ∷ misplaced 5 2 1)
    ∷ tried (stand_left 3 2 (0 ∷ 0 ∷ 0 ∷ 0 ∷ []) (0 ∷ 3 ∷ []) [] []) (refused (at 10 1 2))
    (("the buffers told before the entries", refused (alone 6)) ∷ misplaced_row 1 2)
    -- several faults at once
    ∷ tried (stand_left 4 65 (9 ∷ []) (9 ∷ []) [] []) (refused (alone 1)) (out_of_turn 1 (2 ∷ 3 ∷ 4 ∷ 5 ∷ 10 ∷ 6 ∷ []) (5 ∷ 10 ∷ []))
    ∷ tried (stand_left 3 65 (9 ∷ []) (9 ∷ []) [] []) (refused (alone 2)) (out_of_turn 2 (3 ∷ 4 ∷ 5 ∷ 10 ∷ 6 ∷ []) (5 ∷ 10 ∷ []))
    ∷ tried (stand_left 3 2 (9 ∷ []) (9 ∷ []) [] []) (refused (alone 3)) (out_of_turn 3 (4 ∷ 5 ∷ 10 ∷ 6 ∷ []) (5 ∷ 10 ∷ []))
    ∷ tried (stand_left 3 2 (9 ∷ 9 ∷ 9 ∷ 9 ∷ []) (9 ∷ []) [] []) (refused (alone 4)) (out_of_turn 4 (5 ∷ 10 ∷ 6 ∷ []) (5 ∷ 10 ∷ []))
    ∷ tried (stand_left 3 2 (9 ∷ 9 ∷ 9 ∷ 9 ∷ []) (9 ∷ 9 ∷ []) [] []) (refused (at 5 1 1))
    (("a later test's number, with its entry", refused (at 10 1 1)) ∷ numbered "a later test's number" (10 ∷ 6 ∷ []))
    ∷ tried (stand_left 3 2 (0 ∷ 0 ∷ 0 ∷ 0 ∷ []) (0 ∷ 0 ∷ []) [] []) (refused (alone 6))
    (numbered "another number" (0 ∷ 1 ∷ 2 ∷ 3 ∷ 4 ∷ 5 ∷ 7 ∷ 8 ∷ 9 ∷ 10 ∷ 11 ∷ []) ++ numbered_at "a place where no entry is bad" 1 1 (5 ∷ 6 ∷ 10 ∷ []))
    ∷ []

unfoldable pub wrong_chains : List Trial
wrong_chains =
    -- the identity modulo 5: twice x − 1
    tried (chain_on P6) (given 2, 1 ∷ 3 ∷ 1 ∷ 7 ∷ [], 1 ∷ 4 ∷ 1 ∷ 4 ∷ 7 ∷ [])
    (("nothing written", (given 2, sevens 4, sevens 5))
    ∷ ("the product not written", (given 2, sevens 4, 1 ∷ 4 ∷ 1 ∷ 4 ∷ 7 ∷ []))
    ∷ ("the stages not written", (given 2, 1 ∷ 3 ∷ 1 ∷ 7 ∷ [], sevens 5))
    ∷ ("the degree bytes missing", (given 2, 1 ∷ 3 ∷ 1 ∷ 7 ∷ [], 4 ∷ 4 ∷ 0 ∷ 0 ∷ 7 ∷ []))
    ∷ ("a sign lost: v·M = v gives x + 1", (given 2, 1 ∷ 3 ∷ 1 ∷ 7 ∷ [], 1 ∷ 1 ∷ 1 ∷ 1 ∷ 7 ∷ []))
    ∷ ("the common multiple of the stages for their product", (given 2, 4 ∷ 1 ∷ 0 ∷ 7 ∷ [], 1 ∷ 4 ∷ 1 ∷ 4 ∷ 7 ∷ []))
    ∷ ("a stage that comes twice passed over", (given 1, 4 ∷ 1 ∷ 0 ∷ 7 ∷ [], 1 ∷ 4 ∷ 0 ∷ 0 ∷ 7 ∷ []))
    ∷ ("the product without its leading 1", (given 2, 1 ∷ 3 ∷ 0 ∷ 7 ∷ [], 1 ∷ 4 ∷ 1 ∷ 4 ∷ 7 ∷ []))
    ∷ ("a byte beyond n + 1 changed in the product buffer", (given 2, 1 ∷ 3 ∷ 1 ∷ 0 ∷ [], 1 ∷ 4 ∷ 1 ∷ 4 ∷ 7 ∷ []))
    ∷ ("a byte beyond 2n changed in the stage buffer", (given 2, 1 ∷ 3 ∷ 1 ∷ 7 ∷ [], 1 ∷ 4 ∷ 1 ∷ 4 ∷ 0 ∷ []))
    ∷ ("the rows looked at counted as stages", (given 3, 1 ∷ 3 ∷ 1 ∷ 7 ∷ [], 1 ∷ 4 ∷ 1 ∷ 4 ∷ 7 ∷ []))
    ∷ ("one stage too few counted", (given 1, 1 ∷ 3 ∷ 1 ∷ 7 ∷ [], 1 ∷ 4 ∷ 1 ∷ 4 ∷ 7 ∷ []))
    ∷ (numbered_two "refused, and nothing is wrong" (sevens 4) (sevens 5) every_number
    ++ numbered_at_two "refused for an entry, and nothing is wrong" (sevens 4) (sevens 5) 1 1 (5 ∷ 10 ∷ [])))
    -- [0 1 | 0 0] modulo 2 with (0,1), which gives x; then e(1) gives x, and e(2) is passed over
    ∷ tried (chain_on P10) (given 2, 0 ∷ 0 ∷ 1 ∷ 7 ∷ [], 1 ∷ 0 ∷ 1 ∷ 0 ∷ 7 ∷ [])
    (("the candidates skipped; or columns for rows", (given 1, 0 ∷ 0 ∷ 1 ∷ 7 ∷ [], 2 ∷ 0 ∷ 0 ∷ 0 ∷ 7 ∷ []))
    ∷ ("the unit rows skipped", (given 1, 0 ∷ 1 ∷ 0 ∷ 7 ∷ [], 1 ∷ 0 ∷ 0 ∷ 0 ∷ 7 ∷ []))
    ∷ ("orders for relative orders", (given 2, 0 ∷ 0 ∷ 0 ∷ 7 ∷ [], 1 ∷ 0 ∷ 2 ∷ 0 ∷ 7 ∷ []))
    ∷ [])
    -- the same with (1,0), which gives x²; then both unit rows are passed over
    ∷ tried (chain_on P11) (given 1, 0 ∷ 0 ∷ 1 ∷ 7 ∷ [], 2 ∷ 0 ∷ 0 ∷ 0 ∷ 7 ∷ [])
    (("rows passed over counted as stages of degree 0", (given 3, 0 ∷ 0 ∷ 1 ∷ 7 ∷ [], 2 ∷ 0 ∷ 0 ∷ 0 ∷ 7 ∷ []))
    ∷ ("rows passed over counted and written as stages of degree 0", (given 3, 0 ∷ 0 ∷ 1 ∷ 7 ∷ [], 2 ∷ 0 ∷ 0 ∷ 0 ∷ 0 ∷ []))
    ∷ ("the degree for the number of stages", (given 2, 0 ∷ 0 ∷ 1 ∷ 7 ∷ [], 2 ∷ 0 ∷ 0 ∷ 0 ∷ 7 ∷ []))
    ∷ ("the leading 1 in the record", (given 1, 0 ∷ 0 ∷ 1 ∷ 7 ∷ [], 2 ∷ 0 ∷ 0 ∷ 1 ∷ 7 ∷ []))
    ∷ ("the rest of the 2n bytes left as it was", (given 1, 0 ∷ 0 ∷ 1 ∷ 7 ∷ [], 2 ∷ 0 ∷ 0 ∷ 7 ∷ 7 ∷ []))
    ∷ ("columns for rows", (given 2, 0 ∷ 0 ∷ 1 ∷ 7 ∷ [], 1 ∷ 0 ∷ 1 ∷ 0 ∷ 7 ∷ []))
    ∷ ("W grown by the row and not by its products with powers of M", (given 2, 0 ∷ 0 ∷ 0 ∷ 7 ∷ [], 2 ∷ 0 ∷ 0 ∷ 1 ∷ 7 ∷ []))
    ∷ [])
    -- the candidates in order, then the unit rows in order
    ∷ tried (chain_reply 3 2 (1 ∷ 0 ∷ 0 ∷ 2 ∷ []) (0 ∷ 1 ∷ []) (sevens 4) (sevens 5)) (given 2, 2 ∷ 0 ∷ 1 ∷ 7 ∷ [], 1 ∷ 1 ∷ 1 ∷ 2 ∷ 7 ∷ [])
    (("the unit rows first", (given 2, 2 ∷ 0 ∷ 1 ∷ 7 ∷ [], 1 ∷ 2 ∷ 1 ∷ 1 ∷ 7 ∷ [])) ∷ [])
    ∷ tried (chain_reply 3 2 (1 ∷ 0 ∷ 0 ∷ 2 ∷ []) [] (sevens 4) (sevens 5)) (given 2, 2 ∷ 0 ∷ 1 ∷ 7 ∷ [], 1 ∷ 2 ∷ 1 ∷ 1 ∷ 7 ∷ [])
    (("the unit rows from the last on", (given 2, 2 ∷ 0 ∷ 1 ∷ 7 ∷ [], 1 ∷ 1 ∷ 1 ∷ 2 ∷ 7 ∷ []))
    ∷ ("no candidates, no stages", (given 0, 1 ∷ 0 ∷ 0 ∷ 7 ∷ [], 0 ∷ 0 ∷ 0 ∷ 0 ∷ 7 ∷ []))
    ∷ numbered_two "an empty list refused" (sevens 4) (sevens 5) (4 ∷ []))
    -- the edges: 128 rows, 129; 258 for p, 257 for n
    ∷ tried (chain_reply 2 1 (1 ∷ []) (replicate 128 0) (sevens 2) (sevens 2)) (given 1, 1 ∷ 1 ∷ [], 1 ∷ 1 ∷ [])
    (numbered_two "128 rows refused" (sevens 2) (sevens 2) (4 ∷ []))
    ∷ tried (chain_reply 2 1 (1 ∷ []) (replicate 129 0) (sevens 2) (sevens 2)) (refused (alone 4), sevens 2, sevens 2)
    (("129 rows answered", (given 1, 1 ∷ 1 ∷ [], 1 ∷ 1 ∷ [])) ∷ [])
    ∷ tried (chain_reply 258 1 (1 ∷ []) [] (sevens 2) (sevens 2)) (refused (alone 1), sevens 2, sevens 2)
    (("p = 258 cut to a byte and answered as 2", (given 1, 1 ∷ 1 ∷ [], 1 ∷ 1 ∷ [])) ∷ [])
    ∷ tried (chain_reply 2 257 (1 ∷ []) [] (sevens 2) (sevens 2)) (refused (alone 2), sevens 2, sevens 2)
    (("n = 257 cut to a byte and answered as 1", (given 1, 1 ∷ 1 ∷ [], 1 ∷ 1 ∷ [])) ∷ [])
    -- what is too short or too large is refused, and no lent byte changes
    ∷ tried (chain_reply 3 2 (1 ∷ 0 ∷ 0 ∷ 2 ∷ []) (1 ∷ 0 ∷ 0 ∷ []) (sevens 4) (sevens 5)) (refused (alone 4), sevens 4, sevens 5)
    (("the whole rows of the list taken", (given 2, 2 ∷ 0 ∷ 1 ∷ 7 ∷ [], 1 ∷ 2 ∷ 1 ∷ 1 ∷ 7 ∷ []))
    ∷ ("the first byte of the product buffer changed", (refused (alone 4), 1 ∷ 7 ∷ 7 ∷ 7 ∷ [], sevens 5))
    ∷ ("a byte beyond n + 1 changed in the product buffer", (refused (alone 4), 7 ∷ 7 ∷ 7 ∷ 0 ∷ [], sevens 5))
    ∷ ("the first byte of the stage buffer changed", (refused (alone 4), sevens 4, 0 ∷ 7 ∷ 7 ∷ 7 ∷ 7 ∷ []))
    ∷ ("a byte beyond 2n changed in the stage buffer", (refused (alone 4), sevens 4, 7 ∷ 7 ∷ 7 ∷ 7 ∷ 0 ∷ []))
    ∷ [])
    ∷ tried (chain_reply 3 2 (1 ∷ 0 ∷ 0 ∷ 2 ∷ []) (3 ∷ 0 ∷ []) (sevens 4) (sevens 5)) (refused (at 10 1 1), sevens 4, sevens 5)
    (("an entry p of a candidate taken for 0", (given 2, 2 ∷ 0 ∷ 1 ∷ 7 ∷ [], 1 ∷ 2 ∷ 1 ∷ 1 ∷ 7 ∷ []))
    ∷ ("row and column written to a buffer", (refused (at 10 1 1), sevens 4, 1 ∷ 1 ∷ 7 ∷ 7 ∷ 7 ∷ []))
    ∷ [])
    ∷ tried (chain_reply 3 2 (1 ∷ 0 ∷ 0 ∷ 2 ∷ []) [] (sevens 2) (sevens 4)) (refused (alone 6), sevens 2, sevens 4)
    (("a product buffer of n bytes taken", (given 2, 2 ∷ 0 ∷ [], 1 ∷ 2 ∷ 1 ∷ 1 ∷ []))
    ∷ ("the stages written by a refused call", (refused (alone 6), sevens 2, 1 ∷ 2 ∷ 1 ∷ 1 ∷ []))
    ∷ [])
    ∷ tried (chain_reply 3 2 (0 ∷ 1 ∷ 2 ∷ 0 ∷ []) [] (sevens 3) (sevens 3)) (refused (alone 6), sevens 3, sevens 3)
    (("a stage buffer of 2n − 1 bytes taken, as the record is no longer", (given 1, 1 ∷ 0 ∷ 1 ∷ [], 2 ∷ 1 ∷ 0 ∷ []))
    ∷ ("the product written by a refused call", (refused (alone 6), 1 ∷ 0 ∷ 1 ∷ [], sevens 3))
    ∷ [])
    -- the first bad entry of the matrix, in reading order, rows and columns counted from 1
    ∷ tried (chain_left 3 2 (0 ∷ 3 ∷ 0 ∷ 0 ∷ []) (0 ∷ 0 ∷ []) (sevens 3) (sevens 4)) (refused (at 5 1 2))
    (("row and column swapped", refused (at 5 2 1))
    ∷ (misplaced 5 1 2 ++ numbered_at "another number" 1 2 (0 ∷ 1 ∷ 2 ∷ 3 ∷ 4 ∷ 6 ∷ 7 ∷ 8 ∷ 9 ∷ 10 ∷ 11 ∷ [])))
    ∷ tried (chain_left 3 2 (0 ∷ 0 ∷ 3 ∷ 0 ∷ []) (0 ∷ 0 ∷ []) (sevens 3) (sevens 4)) (refused (at 5 2 1))
    (("row and column swapped", refused (at 5 1 2)) ∷ ("the matrix taken for one row", refused (at 5 1 3)) ∷ misplaced 5 2 1)
    ∷ tried (chain_left 3 3 (0 ∷ 0 ∷ 3 ∷ 9 ∷ 0 ∷ 0 ∷ 0 ∷ 4 ∷ 0 ∷ []) [] (sevens 4) (sevens 6)) (refused (at 5 1 3))
    (("the last bad entry", refused (at 5 3 2))
    ∷ ("the second; or the largest; or the first, column by column", refused (at 5 2 1))
    ∷ ("row and column swapped", refused (at 5 3 1))
    ∷ misplaced 5 1 3)
    ∷ tried (chain_left 3 1 (3 ∷ []) [] (sevens 2) (sevens 2)) (refused (at 5 1 1)) (misplaced 5 1 1)
    -- of the candidates, whose rows are counted from 1 too
    ∷ tried (chain_left 3 2 (0 ∷ 0 ∷ 0 ∷ 0 ∷ []) (1 ∷ 0 ∷ 0 ∷ 1 ∷ 3 ∷ 0 ∷ []) (sevens 3) (sevens 4)) (refused (at 10 3 1))
    (("row and column swapped", refused (at 10 1 3))
    ∷ ("the candidates taken for one row", refused (at 10 1 5))
    ∷ ("the byte's number for the row; or rows counted on from the matrix's", refused (at 10 5 1))
    ∷ ("row 1, as for one vector", refused (at 10 1 1))
    ∷ ("row 0, as for a coefficient", refused (at 10 0 1))
    ∷ (misplaced_row 3 1 ++ numbered_at "another number" 3 1 (0 ∷ 1 ∷ 2 ∷ 3 ∷ 4 ∷ 6 ∷ 7 ∷ 8 ∷ 9 ∷ [])))
    ∷ tried (chain_left 3 2 (0 ∷ 0 ∷ 0 ∷ 0 ∷ []) (0 ∷ 0 ∷ 0 ∷ 3 ∷ 9 ∷ 0 ∷ 0 ∷ 4 ∷ []) (sevens 3) (sevens 4)) (refused (at 10 2 2))
    (("the last bad entry", refused (at 10 4 2))
    ∷ ("the second; or the largest; or the first, column by column", refused (at 10 3 1))
    ∷ misplaced_row 2 2)
    ∷ tried (chain_left 3 2 (0 ∷ 0 ∷ 0 ∷ 0 ∷ []) (3 ∷ 0 ∷ []) (sevens 3) (sevens 4)) (refused (at 10 1 1)) (misplaced_row 1 1)
    ∷ tried (chain_left 2 1 (0 ∷ []) (replicate 127 0 ++ (2 ∷ [])) (sevens 3) (sevens 4)) (refused (at 10 128 1))
    (("row and column swapped", refused (at 10 1 128)) ∷ misplaced_row 128 1)
    -- both, or one of them and a short buffer
    ∷ tried (chain_left 3 2 (0 ∷ 0 ∷ 3 ∷ 0 ∷ []) (0 ∷ 3 ∷ []) [] []) (refused (at 5 2 1))
    (("a candidate told before the matrix", refused (at 10 1 2))
    ∷ ("the matrix's number at the candidate's place", refused (at 5 1 2))
    ∷ ("a candidate's number at the matrix's place", refused (at 10 2 1))
    ∷ ("the buffers told before the entries", refused (alone 6))
    ∷ misplaced 5 2 1)
    ∷ tried (chain_left 3 2 (0 ∷ 0 ∷ 0 ∷ 0 ∷ []) (0 ∷ 3 ∷ []) [] []) (refused (at 10 1 2))
    (("the buffers told before the entries", refused (alone 6)) ∷ misplaced_row 1 2)
    -- several faults at once
    ∷ tried (chain_left 4 65 (9 ∷ []) (9 ∷ []) [] []) (refused (alone 1)) (out_of_turn 1 (2 ∷ 3 ∷ 4 ∷ 5 ∷ 10 ∷ 6 ∷ []) (5 ∷ 10 ∷ []))
    ∷ tried (chain_left 3 65 (9 ∷ []) (9 ∷ []) [] []) (refused (alone 2)) (out_of_turn 2 (3 ∷ 4 ∷ 5 ∷ 10 ∷ 6 ∷ []) (5 ∷ 10 ∷ []))
    ∷ tried (chain_left 3 2 (9 ∷ []) (9 ∷ []) [] []) (refused (alone 3)) (out_of_turn 3 (4 ∷ 5 ∷ 10 ∷ 6 ∷ []) (5 ∷ 10 ∷ []))
    ∷ tried (chain_left 3 2 (9 ∷ 9 ∷ 9 ∷ 9 ∷ []) (9 ∷ []) [] []) (refused (alone 4)) (out_of_turn 4 (5 ∷ 10 ∷ 6 ∷ []) (5 ∷ 10 ∷ []))
    ∷ tried (chain_left 3 2 (9 ∷ 9 ∷ 9 ∷ 9 ∷ []) (9 ∷ 9 ∷ []) [] []) (refused (at 5 1 1))
    (("a later test's number, with its entry", refused (at 10 1 1)) ∷ numbered "a later test's number" (10 ∷ 6 ∷ []))
    ∷ tried (chain_left 3 2 (0 ∷ 0 ∷ 0 ∷ 0 ∷ []) (0 ∷ 0 ∷ []) [] []) (refused (alone 6))
    (numbered "another number" (0 ∷ 1 ∷ 2 ∷ 3 ∷ 4 ∷ 5 ∷ 7 ∷ 8 ∷ 9 ∷ 10 ∷ 11 ∷ []) ++ numbered_at "a place where no entry is bad" 1 1 (5 ∷ 6 ∷ 10 ∷ []))
    ∷ []

unfoldable pub wrong_periods : List Trial
wrong_periods =
    -- [1 0 | 0 2] modulo 3
    tried (period_on P8) (given (Some 2))
    (("none for a period that there is", given None)
    ∷ ("the first unit row's return", given (Some 1))
    ∷ ("one too high", given (Some 3))
    ∷ ("twice the period", given (Some 4))
    ∷ ("counted from 0", given (Some 0))
    ∷ ("refused for an entry, and nothing is wrong", refused (at 5 1 1))
    ∷ numbered "refused, and nothing is wrong" every_number)
    -- the identity; [0 1 | 2 0] modulo 3, whose square is −1; unit rows that return after 4 and after 2 ticks; a period over 255
    ∷ tried (period_on P6) (given (Some 1))
    (("the power 0", given (Some 0)) ∷ ("the second power that is the identity", given (Some 2)) ∷ ("none", given None) ∷ [])
    ∷ tried (period_on P5) (given (Some 4)) (("the identity up to a scalar", given (Some 2)) ∷ ("none", given None) ∷ [])
    ∷ tried (period_reply 5 2 (2 ∷ 0 ∷ 0 ∷ 4 ∷ [])) (given (Some 4))
    (("the unit rows' returns multiplied", given (Some 8)) ∷ ("the last unit row's return", given (Some 2)) ∷ [])
    ∷ tried (period_reply 17 2 (0 ∷ 1 ∷ 14 ∷ 1 ∷ [])) (given (Some 288))
    (("the period cut to a byte", given (Some 32)) ∷ ("none over 255", given None) ∷ [])
    -- no power of these is the identity
    ∷ tried (period_on P10) (given None)
    (("a period for a matrix that has none", given (Some 1))
    ∷ ("the first power that comes again", given (Some 2))
    ∷ ("the end of the search", given (Some 65536))
    ∷ ("0 for none", given (Some 0))
    ∷ [])
    ∷ tried (period_reply 3 2 (1 ∷ 0 ∷ 0 ∷ 0 ∷ [])) (given None) (("the first power that comes again", given (Some 1)) ∷ [])
    -- the edges of p and n, the matrix's length and entries
    ∷ tried (period_reply 251 1 (250 ∷ [])) (given (Some 2)) (("p = 251 refused", refused (alone 1)) ∷ [])
    ∷ tried (period_reply 4 1 (3 ∷ [])) (refused (alone 1)) (("p = 4 answered", given (Some 2)) ∷ [])
    ∷ tried (period_reply 257 1 (256 ∷ [])) (refused (alone 1)) (("a prime over 251 answered", given (Some 2)) ∷ [])
    ∷ tried (period_reply 258 1 (1 ∷ [])) (refused (alone 1)) (("p = 258 cut to a byte and answered as 2", given (Some 1)) ∷ [])
    ∷ tried (period_reply 2 0 []) (refused (alone 2)) (("n = 0 answered", given (Some 1)) ∷ [])
    ∷ tried (period_reply 2 257 (1 ∷ [])) (refused (alone 2)) (("n = 257 cut to a byte and answered as 1", given (Some 1)) ∷ [])
    ∷ tried (period_reply 2 1 (1 ∷ 1 ∷ [])) (refused (alone 3)) (("the first n·n bytes taken", given (Some 1)) ∷ [])
    ∷ tried (period_reply 3 1 (4 ∷ [])) (refused (at 5 1 1)) (("an entry over p reduced first", given (Some 1)) ∷ [])
    -- the first bad entry of the matrix, in reading order, rows and columns counted from 1
    ∷ tried (period_reply 3 2 (0 ∷ 3 ∷ 0 ∷ 0 ∷ [])) (refused (at 5 1 2))
    (("row and column swapped", refused (at 5 2 1))
    ∷ (misplaced 5 1 2 ++ numbered_at "another number" 1 2 (0 ∷ 1 ∷ 2 ∷ 3 ∷ 4 ∷ 6 ∷ 7 ∷ 8 ∷ 9 ∷ 10 ∷ 11 ∷ [])))
    ∷ tried (period_reply 3 2 (0 ∷ 0 ∷ 3 ∷ 0 ∷ [])) (refused (at 5 2 1))
    (("row and column swapped", refused (at 5 1 2)) ∷ ("the matrix taken for one row", refused (at 5 1 3)) ∷ misplaced 5 2 1)
    ∷ tried (period_reply 3 3 (0 ∷ 0 ∷ 3 ∷ 9 ∷ 0 ∷ 0 ∷ 0 ∷ 4 ∷ 0 ∷ [])) (refused (at 5 1 3))
    (("the last bad entry", refused (at 5 3 2))
    ∷ ("the second; or the largest; or the first, column by column", refused (at 5 2 1))
    ∷ ("row and column swapped", refused (at 5 3 1))
    ∷ misplaced 5 1 3)
    ∷ tried (period_reply 3 1 (3 ∷ [])) (refused (at 5 1 1)) (("an entry p taken for 0", given None) ∷ misplaced 5 1 1)
    -- several faults at once
    ∷ tried (period_reply 4 65 (9 ∷ [])) (refused (alone 1)) (out_of_turn 1 (2 ∷ 3 ∷ 5 ∷ []) (5 ∷ []))
    ∷ tried (period_reply 3 65 (9 ∷ [])) (refused (alone 2)) (out_of_turn 2 (3 ∷ 5 ∷ []) (5 ∷ []))
    ∷ tried (period_reply 3 2 (9 ∷ [])) (refused (alone 3)) (out_of_turn 3 (5 ∷ []) (5 ∷ []))
    ∷ tried (period_reply 3 2 (9 ∷ 9 ∷ 9 ∷ 9 ∷ [])) (refused (at 5 1 1))
    (("the last bad entry", refused (at 5 2 2)) ∷ numbered "another number" (0 ∷ 1 ∷ 2 ∷ 3 ∷ 4 ∷ 6 ∷ 7 ∷ 8 ∷ 9 ∷ 10 ∷ 11 ∷ []))
    ∷ []

unfoldable pub wrong_writes : List Trial
wrong_writes =
    -- byte by byte: [1] modulo 2, no candidates, allowance 9
    tried (write_reply 2 1 (1 ∷ []) [] 9 (sevens 17))
    (given 13, 255 ∷ 70 ∷ 2 ∷ 1 ∷ 255 ∷ 65 ∷ 0 ∷ 9 ∷ 255 ∷ 82 ∷ 1 ∷ 255 ∷ 69 ∷ sevens 4)
    (("the marks missing", (given 9, 70 ∷ 2 ∷ 1 ∷ 65 ∷ 0 ∷ 9 ∷ 82 ∷ 1 ∷ 69 ∷ sevens 8))
    ∷ ("small letters", (given 13, 255 ∷ 102 ∷ 2 ∷ 1 ∷ 255 ∷ 97 ∷ 0 ∷ 9 ∷ 255 ∷ 114 ∷ 1 ∷ 255 ∷ 101 ∷ sevens 4))
    ∷ ("figures as text", (given 13, 255 ∷ 70 ∷ 50 ∷ 49 ∷ 255 ∷ 65 ∷ 48 ∷ 57 ∷ 255 ∷ 82 ∷ 49 ∷ 255 ∷ 69 ∷ sevens 4))
    ∷ ("the allowance in one byte", (given 12, 255 ∷ 70 ∷ 2 ∷ 1 ∷ 255 ∷ 65 ∷ 9 ∷ 255 ∷ 82 ∷ 1 ∷ 255 ∷ 69 ∷ sevens 5))
    ∷ ("the end's letter missing", (given 12, 255 ∷ 70 ∷ 2 ∷ 1 ∷ 255 ∷ 65 ∷ 0 ∷ 9 ∷ 255 ∷ 82 ∷ 1 ∷ 255 ∷ sevens 5))
    ∷ ("two A records", laid 17 (field 2 1 ∷ allow 0 9 ∷ allow 0 9 ∷ row (1 ∷ []) ∷ end ∷ []) [])
    ∷ ("a candidate's record without a candidate", laid 15 (field 2 1 ∷ allow 0 9 ∷ row (1 ∷ []) ∷ candidate [] ∷ end ∷ []) (7 ∷ 7 ∷ []))
    ∷ ("a zero row for no candidate", laid 16 (field 2 1 ∷ allow 0 9 ∷ row (1 ∷ []) ∷ candidate (0 ∷ []) ∷ end ∷ []) (7 ∷ []))
    ∷ numbered_one "an empty list refused" (sevens 17) (4 ∷ []))
    -- [2] modulo 3 with (1): 1,500 is 11·128 + 92
    ∷ tried (write_on 1500) (laid 16 (case_with 11 92) (7 ∷ []))
    (("nothing written", (given 16, sevens 17))
    ∷ ("no A record", laid 12 (field 3 1 ∷ row (2 ∷ []) ∷ candidate (1 ∷ []) ∷ end ∷ []) (sevens 5))
    ∷ ("the A record behind the rows", laid 16 (field 3 1 ∷ row (2 ∷ []) ∷ allow 11 92 ∷ candidate (1 ∷ []) ∷ end ∷ []) (7 ∷ []))
    ∷ ("the halves swapped", laid 16 (case_with 92 11) (7 ∷ []))
    ∷ ("256 in the place of 128", laid 16 (case_with 5 220) (7 ∷ []))
    ∷ ("the high half 0", laid 16 (case_with 0 92) (7 ∷ []))
    ∷ ("the default for the allowance", laid 16 (case_with 64 0) (7 ∷ []))
    ∷ ("the length one short", laid 15 (case_with 11 92) (7 ∷ []))
    ∷ ("the length one long; or the buffer's", laid 17 (case_with 11 92) (7 ∷ []))
    ∷ ("the length without the A record", laid 12 (case_with 11 92) (7 ∷ []))
    ∷ ("the number of records for the length", laid 5 (case_with 11 92) (7 ∷ []))
    ∷ ("a byte behind the case changed", laid 16 (case_with 11 92) (255 ∷ []))
    ∷ ("a byte behind the case zeroed", laid 16 (case_with 11 92) (0 ∷ []))
    ∷ ("the byte behind the case gone", laid 16 (case_with 11 92) [])
    ∷ ("the case at the buffer's end", (given 16, 7 ∷ flat (case_with 11 92)))
    ∷ ("n before p", laid 16 (field 1 3 ∷ allow 11 92 ∷ row (2 ∷ []) ∷ candidate (1 ∷ []) ∷ end ∷ []) (7 ∷ []))
    ∷ ("the candidates before the rows", laid 16 (field 3 1 ∷ allow 11 92 ∷ candidate (1 ∷ []) ∷ row (2 ∷ []) ∷ end ∷ []) (7 ∷ []))
    ∷ ("a candidate among the rows", laid 16 (field 3 1 ∷ allow 11 92 ∷ row (2 ∷ []) ∷ row (1 ∷ []) ∷ end ∷ []) (7 ∷ []))
    ∷ ("the candidates left out", laid 13 (field 3 1 ∷ allow 11 92 ∷ row (2 ∷ []) ∷ end ∷ []) (sevens 4))
    ∷ ("the E record missing", laid 14 (field 3 1 ∷ allow 11 92 ∷ row (2 ∷ []) ∷ candidate (1 ∷ []) ∷ []) (sevens 3))
    ∷ ("the E record missing and counted", laid 16 (field 3 1 ∷ allow 11 92 ∷ row (2 ∷ []) ∷ candidate (1 ∷ []) ∷ []) (sevens 3))
    ∷ (numbered_one "refused, and nothing is wrong" (sevens 17) every_number
    ++ numbered_at_one "refused for an entry, and nothing is wrong" (sevens 17) 1 1 (5 ∷ 10 ∷ [])))
    -- the edges of the halves
    ∷ tried (write_on 0) (laid 16 (case_with 0 0) (7 ∷ []))
    (("an allowance of 0 left out", laid 12 (field 3 1 ∷ row (2 ∷ []) ∷ candidate (1 ∷ []) ∷ end ∷ []) (sevens 5))
    ∷ ("the default for 0", laid 16 (case_with 64 0) (7 ∷ []))
    ∷ numbered_one "an allowance of 0 refused" (sevens 17) (9 ∷ []))
    ∷ tried (write_on 127) (laid 16 (case_with 0 127) (7 ∷ []))
    (("127 in the place of 128", laid 16 (case_with 1 0) (7 ∷ [])) ∷ ("the halves swapped", laid 16 (case_with 127 0) (7 ∷ [])) ∷ [])
    ∷ tried (write_on 128) (laid 16 (case_with 1 0) (7 ∷ []))
    (("128 in the low half", laid 16 (case_with 0 128) (7 ∷ [])) ∷ ("the halves swapped", laid 16 (case_with 0 1) (7 ∷ [])) ∷ [])
    ∷ tried (write_on 257) (laid 16 (case_with 2 1) (7 ∷ []))
    (("the allowance cut to a byte", laid 16 (case_with 0 1) (7 ∷ [])) ∷ ("256 in the place of 128", laid 16 (case_with 1 1) (7 ∷ [])) ∷ [])
    ∷ tried (write_on 8192) (laid 16 (case_with 64 0) (7 ∷ []))
    (("the default left out", laid 12 (field 3 1 ∷ row (2 ∷ []) ∷ candidate (1 ∷ []) ∷ end ∷ []) (sevens 5))
    ∷ ("256 in the place of 128", laid 16 (case_with 32 0) (7 ∷ []))
    ∷ [])
    ∷ tried (write_on 16383) (laid 16 (case_with 127 127) (7 ∷ []))
    (("256 in the place of 128", laid 16 (case_with 63 255) (7 ∷ [])) ∷ numbered_one "16,383 refused" (sevens 17) (9 ∷ []))
    ∷ tried (write_on 16384) (refused (alone 9), sevens 17)
    (("16,384 taken", laid 16 (case_with 128 0) (7 ∷ []))
    ∷ ("16,384 taken, by 256", laid 16 (case_with 64 0) (7 ∷ []))
    ∷ ("16,384 cut to what the halves hold", laid 16 (case_with 0 0) (7 ∷ []))
    ∷ ("16,384 taken for the most that there is", laid 16 (case_with 127 127) (7 ∷ []))
    ∷ ("the case written by a refused call", (refused (alone 9), flat (case_with 127 127) ++ (7 ∷ [])))
    ∷ ("the first lent byte changed by a refused call", (refused (alone 9), 255 ∷ sevens 16))
    ∷ ("a byte behind the case changed by a refused call", (refused (alone 9), sevens 16 ++ (0 ∷ [])))
    ∷ ("the lent bytes gone after a refused call", (refused (alone 9), []))
    ∷ (numbered_one "another number" (sevens 17) (0 ∷ 1 ∷ 2 ∷ 3 ∷ 4 ∷ 5 ∷ 6 ∷ 7 ∷ 8 ∷ 10 ∷ 11 ∷ 12 ∷ 13 ∷ [])
    ++ (numbered_at_one "a place beside 9" (sevens 17) 1 1 (9 ∷ []) ++ numbered_at_one "a scalar's place beside 9" (sevens 17) 0 1 (9 ∷ 11 ∷ []))))
    ∷ tried (write_on 65664) (refused (alone 9), sevens 17) (("the allowance cut to 16 bits", laid 16 (case_with 1 0) (7 ∷ [])) ∷ [])
    ∷ tried (write_on 4294967295) (refused (alone 9), sevens 17)
    (("both halves cut to a byte", laid 16 (case_with 255 127) (7 ∷ [])) ∷ ("the allowance taken for none", laid 16 (case_with 0 0) (7 ∷ [])) ∷ [])
    -- the rows in order, each from its first entry on: [1 2 | 3 4] modulo 5
    ∷ tried (write_reply 5 2 (1 ∷ 2 ∷ 3 ∷ 4 ∷ []) [] 9 (sevens 18))
    (laid 18 (field 5 2 ∷ allow 0 9 ∷ row (1 ∷ 2 ∷ []) ∷ row (3 ∷ 4 ∷ []) ∷ end ∷ []) [])
    (("columns for rows", laid 18 (field 5 2 ∷ allow 0 9 ∷ row (1 ∷ 3 ∷ []) ∷ row (2 ∷ 4 ∷ []) ∷ end ∷ []) [])
    ∷ ("the rows from the last on", laid 18 (field 5 2 ∷ allow 0 9 ∷ row (3 ∷ 4 ∷ []) ∷ row (1 ∷ 2 ∷ []) ∷ end ∷ []) [])
    ∷ ("each row from its last entry on", laid 18 (field 5 2 ∷ allow 0 9 ∷ row (2 ∷ 1 ∷ []) ∷ row (4 ∷ 3 ∷ []) ∷ end ∷ []) [])
    ∷ ("the first row again", laid 18 (field 5 2 ∷ allow 0 9 ∷ row (1 ∷ 2 ∷ []) ∷ row (1 ∷ 2 ∷ []) ∷ end ∷ []) [])
    ∷ ("the first row alone", laid 14 (field 5 2 ∷ allow 0 9 ∷ row (1 ∷ 2 ∷ []) ∷ end ∷ []) (sevens 4))
    ∷ ("the matrix in one record", laid 16 (field 5 2 ∷ allow 0 9 ∷ row (1 ∷ 2 ∷ 3 ∷ 4 ∷ []) ∷ end ∷ []) (7 ∷ 7 ∷ []))
    ∷ [])
    -- then the candidates in order: [1] modulo 5 with (2), (3)
    ∷ tried (write_reply 5 1 (1 ∷ []) (2 ∷ 3 ∷ []) 9 (sevens 19))
    (laid 19 (field 5 1 ∷ allow 0 9 ∷ row (1 ∷ []) ∷ candidate (2 ∷ []) ∷ candidate (3 ∷ []) ∷ end ∷ []) [])
    (("the candidates from the last on", laid 19 (field 5 1 ∷ allow 0 9 ∷ row (1 ∷ []) ∷ candidate (3 ∷ []) ∷ candidate (2 ∷ []) ∷ end ∷ []) [])
    ∷ ("the candidates before the rows", laid 19 (field 5 1 ∷ allow 0 9 ∷ candidate (2 ∷ []) ∷ candidate (3 ∷ []) ∷ row (1 ∷ []) ∷ end ∷ []) [])
    ∷ ("the first candidate again", laid 19 (field 5 1 ∷ allow 0 9 ∷ row (1 ∷ []) ∷ candidate (2 ∷ []) ∷ candidate (2 ∷ []) ∷ end ∷ []) [])
    ∷ ("the first candidate alone", laid 16 (field 5 1 ∷ allow 0 9 ∷ row (1 ∷ []) ∷ candidate (2 ∷ []) ∷ end ∷ []) (sevens 3))
    ∷ ("the candidates in one record", laid 17 (field 5 1 ∷ allow 0 9 ∷ row (1 ∷ []) ∷ candidate (2 ∷ 3 ∷ []) ∷ end ∷ []) (7 ∷ 7 ∷ []))
    ∷ [])
    -- the edges of p, n and the list
    ∷ tried (write_reply 251 1 (250 ∷ []) (250 ∷ []) 9 (sevens 16))
    (laid 16 (field 251 1 ∷ allow 0 9 ∷ row (250 ∷ []) ∷ candidate (250 ∷ []) ∷ end ∷ []) [])
    (numbered_one "p = 251 refused" (sevens 16) (1 ∷ []))
    ∷ tried (write_reply 4 1 (1 ∷ []) [] 9 (sevens 13)) (refused (alone 1), sevens 13)
    (("p = 4 written", laid 13 (field 4 1 ∷ allow 0 9 ∷ row (1 ∷ []) ∷ end ∷ []) []) ∷ [])
    ∷ tried (write_reply 257 1 (1 ∷ []) [] 9 (sevens 13)) (refused (alone 1), sevens 13)
    (("a prime over 251 written, cut to a byte", laid 13 (field 1 1 ∷ allow 0 9 ∷ row (1 ∷ []) ∷ end ∷ []) []) ∷ [])
    ∷ tried (write_reply 258 1 (1 ∷ []) [] 9 (sevens 13)) (refused (alone 1), sevens 13)
    (("p = 258 cut to a byte and written as 2", laid 13 (field 2 1 ∷ allow 0 9 ∷ row (1 ∷ []) ∷ end ∷ []) []) ∷ [])
    ∷ tried (write_reply 2 64 (replicate 4096 0) [] 9 (sevens 4234))
    (laid 4234 (field 2 64 ∷ allow 0 9 ∷ (replicate 64 (row (replicate 64 0)) ++ (end ∷ []))) [])
    (numbered_one "n = 64 refused" (sevens 4234) (2 ∷ []))
    ∷ tried (write_reply 2 65 (replicate 4225 0) [] 9 (sevens 4365)) (refused (alone 2), sevens 4365)
    (("n = 65 written", laid 4365 (field 2 65 ∷ allow 0 9 ∷ (replicate 65 (row (replicate 65 0)) ++ (end ∷ []))) []) ∷ [])
    ∷ tried (write_reply 2 257 (1 ∷ []) [] 9 (sevens 13)) (refused (alone 2), sevens 13)
    (("n = 257 cut to a byte and written as 1", laid 13 (field 2 1 ∷ allow 0 9 ∷ row (1 ∷ []) ∷ end ∷ []) []) ∷ [])
    ∷ tried (write_reply 2 0 [] [] 9 (sevens 10)) (refused (alone 2), sevens 10)
    (("n = 0 written", laid 10 (field 2 0 ∷ allow 0 9 ∷ end ∷ []) []) ∷ [])
    ∷ tried (write_reply 2 1 (1 ∷ []) (replicate 128 0) 9 (sevens 397))
    (laid 397 (field 2 1 ∷ allow 0 9 ∷ row (1 ∷ []) ∷ (replicate 128 (candidate (0 ∷ [])) ++ (end ∷ []))) [])
    (("the length cut to a byte", laid 141 (field 2 1 ∷ allow 0 9 ∷ row (1 ∷ []) ∷ (replicate 128 (candidate (0 ∷ [])) ++ (end ∷ []))) [])
    ∷ (
      "the last candidate left out",
      laid 394 (field 2 1 ∷ allow 0 9 ∷ row (1 ∷ []) ∷ (replicate 127 (candidate (0 ∷ [])) ++ (end ∷ []))) (sevens 3),
    )
    ∷ numbered_one "128 candidates refused" (sevens 397) (4 ∷ []))
    ∷ tried (write_reply 2 1 (1 ∷ []) (replicate 129 0) 9 (sevens 400)) (refused (alone 4), sevens 400)
    (("129 candidates written", laid 400 (field 2 1 ∷ allow 0 9 ∷ row (1 ∷ []) ∷ (replicate 129 (candidate (0 ∷ [])) ++ (end ∷ []))) [])
    ∷ (
      "128 of 129 candidates written",
      laid 397 (field 2 1 ∷ allow 0 9 ∷ row (1 ∷ []) ∷ (replicate 128 (candidate (0 ∷ [])) ++ (end ∷ []))) (sevens 3),
    )
    ∷ [])
    -- what is too long, too short or too large is refused, and no lent byte changes
    ∷ tried (write_reply 3 1 (2 ∷ 2 ∷ []) (1 ∷ []) 0 (sevens 17)) (refused (alone 3), sevens 17)
    (("the first n·n bytes taken", laid 16 (case_with 0 0) (7 ∷ [])) ∷ [])
    ∷ tried (write_reply 3 2 (2 ∷ 0 ∷ 0 ∷ 2 ∷ []) (1 ∷ []) 0 (sevens 23)) (refused (alone 4), sevens 23)
    (("the whole rows of the list written", laid 18 (field 3 2 ∷ allow 0 0 ∷ row (2 ∷ 0 ∷ []) ∷ row (0 ∷ 2 ∷ []) ∷ end ∷ []) (sevens 5))
    ∷ (
      "the last candidate filled up with zeros",
      laid 22 (field 3 2 ∷ allow 0 0 ∷ row (2 ∷ 0 ∷ []) ∷ row (0 ∷ 2 ∷ []) ∷ candidate (1 ∷ 0 ∷ []) ∷ end ∷ []) (7 ∷ []),
    )
    ∷ [])
    ∷ tried (write_reply 3 1 (5 ∷ []) (1 ∷ []) 0 (sevens 17)) (refused (at 5 1 1), sevens 17)
    (("an entry over p written", laid 16 (field 3 1 ∷ allow 0 0 ∷ row (5 ∷ []) ∷ candidate (1 ∷ []) ∷ end ∷ []) (7 ∷ []))
    ∷ ("an entry over p reduced first", laid 16 (case_with 0 0) (7 ∷ []))
    ∷ ("row and column written to the buffer", (refused (at 5 1 1), 1 ∷ 1 ∷ sevens 15))
    ∷ [])
    ∷ tried (write_reply 3 1 (2 ∷ []) (4 ∷ []) 0 (sevens 17)) (refused (at 10 1 1), sevens 17)
    (("an entry over p of a candidate written", laid 16 (field 3 1 ∷ allow 0 0 ∷ row (2 ∷ []) ∷ candidate (4 ∷ []) ∷ end ∷ []) (7 ∷ []))
    ∷ ("an entry over p of a candidate reduced first", laid 16 (case_with 0 0) (7 ∷ []))
    ∷ ("the rows written by a refused call", (refused (at 10 1 1), flat (field 3 1 ∷ allow 0 0 ∷ row (2 ∷ []) ∷ []) ++ sevens 6))
    ∷ [])
    -- a buffer as long as the case is taken; one byte less is too short, and so is one that would hold it without its A record
    ∷ tried (write_reply 3 1 (2 ∷ []) (1 ∷ []) 9 (sevens 16)) (laid 16 (case_with 0 9) [])
    (numbered_one "a buffer as long as the case refused" (sevens 16) (6 ∷ []))
    ∷ tried (write_reply 3 1 (2 ∷ []) (1 ∷ []) 9 (sevens 15)) (refused (alone 6), sevens 15)
    (("a buffer one byte short taken", (given 16, flat (field 3 1 ∷ allow 0 9 ∷ row (2 ∷ []) ∷ candidate (1 ∷ []) ∷ []) ++ (255 ∷ [])))
    ∷ ("a buffer that is longer afterwards", laid 16 (case_with 0 9) [])
    ∷ ("the case without its candidate", laid 13 (field 3 1 ∷ allow 0 9 ∷ row (2 ∷ []) ∷ end ∷ []) (7 ∷ 7 ∷ []))
    ∷ (
      "as much as fits written by a refused call",
      (refused (alone 6), flat (field 3 1 ∷ allow 0 9 ∷ row (2 ∷ []) ∷ candidate (1 ∷ []) ∷ []) ++ (255 ∷ [])),
    )
    ∷ ("the short buffer's first byte changed", (refused (alone 6), 255 ∷ sevens 14))
    ∷ ("the short buffer's last byte changed", (refused (alone 6), sevens 14 ++ (255 ∷ [])))
    ∷ [])
    ∷ tried (write_reply 3 1 (2 ∷ []) (1 ∷ []) 8192 (sevens 12)) (refused (alone 6), sevens 12)
    (("the default left out, so that the case fits", laid 12 (field 3 1 ∷ row (2 ∷ []) ∷ candidate (1 ∷ []) ∷ end ∷ []) []) ∷ [])
    -- the first bad entry of the matrix, in reading order, rows and columns counted from 1
    ∷ tried (write_left 3 2 (0 ∷ 3 ∷ 0 ∷ 0 ∷ []) (0 ∷ 0 ∷ []) 9 (sevens 22)) (refused (at 5 1 2))
    (("row and column swapped", refused (at 5 2 1))
    ∷ (misplaced 5 1 2 ++ numbered_at "another number" 1 2 (0 ∷ 1 ∷ 2 ∷ 3 ∷ 4 ∷ 6 ∷ 7 ∷ 8 ∷ 9 ∷ 10 ∷ 11 ∷ [])))
    ∷ tried (write_left 3 2 (0 ∷ 0 ∷ 3 ∷ 0 ∷ []) (0 ∷ 0 ∷ []) 9 (sevens 22)) (refused (at 5 2 1))
    (("row and column swapped", refused (at 5 1 2))
    ∷ ("the matrix taken for one row", refused (at 5 1 3))
    ∷ ("its record, and its byte in the record", refused (at 5 4 3))
    ∷ misplaced 5 2 1)
    ∷ tried (write_left 3 3 (0 ∷ 0 ∷ 3 ∷ 9 ∷ 0 ∷ 0 ∷ 0 ∷ 4 ∷ 0 ∷ []) [] 9 (sevens 25)) (refused (at 5 1 3))
    (("the last bad entry", refused (at 5 3 2))
    ∷ ("the second; or the largest; or the first, column by column", refused (at 5 2 1))
    ∷ ("row and column swapped", refused (at 5 3 1))
    ∷ misplaced 5 1 3)
    ∷ tried (write_left 3 1 (3 ∷ []) [] 9 (sevens 13)) (refused (at 5 1 1)) (misplaced 5 1 1)
    -- of the candidates, whose rows are counted from 1 too
    ∷ tried (write_left 3 2 (0 ∷ 0 ∷ 0 ∷ 0 ∷ []) (1 ∷ 0 ∷ 0 ∷ 1 ∷ 3 ∷ 0 ∷ []) 9 (sevens 30)) (refused (at 10 3 1))
    (("row and column swapped", refused (at 10 1 3))
    ∷ ("the candidates taken for one row", refused (at 10 1 5))
    ∷ ("the byte's number for the row; or rows counted on from the matrix's", refused (at 10 5 1))
    ∷ ("row 1, as for one vector", refused (at 10 1 1))
    ∷ ("row 0, as for a coefficient", refused (at 10 0 1))
    ∷ (misplaced_row 3 1 ++ numbered_at "another number" 3 1 (0 ∷ 1 ∷ 2 ∷ 3 ∷ 4 ∷ 6 ∷ 7 ∷ 8 ∷ 9 ∷ [])))
    ∷ tried (write_left 3 2 (0 ∷ 0 ∷ 0 ∷ 0 ∷ []) (0 ∷ 0 ∷ 0 ∷ 3 ∷ 9 ∷ 0 ∷ 0 ∷ 4 ∷ []) 9 (sevens 34)) (refused (at 10 2 2))
    (("the last bad entry", refused (at 10 4 2))
    ∷ ("the second; or the largest; or the first, column by column", refused (at 10 3 1))
    ∷ misplaced_row 2 2)
    ∷ tried (write_left 2 1 (0 ∷ []) (replicate 127 0 ++ (2 ∷ [])) 9 (sevens 397)) (refused (at 10 128 1))
    (("row and column swapped", refused (at 10 1 128)) ∷ misplaced_row 128 1)
    -- both, or one of them and a short buffer
    ∷ tried (write_left 3 2 (0 ∷ 0 ∷ 3 ∷ 0 ∷ []) (0 ∷ 3 ∷ []) 9 []) (refused (at 5 2 1))
    (("a candidate told before the matrix", refused (at 10 1 2))
    ∷ ("the matrix's number at the candidate's place", refused (at 5 1 2))
    ∷ ("a candidate's number at the matrix's place", refused (at 10 2 1))
    ∷ ("the buffer told before the entries", refused (alone 6))
    ∷ misplaced 5 2 1)
    ∷ tried (write_left 3 2 (0 ∷ 0 ∷ 0 ∷ 0 ∷ []) (0 ∷ 3 ∷ []) 9 []) (refused (at 10 1 2))
    (("the buffer told before the entries", refused (alone 6)) ∷ misplaced_row 1 2)
    -- one fault, and an allowance that is too large: 9 stands behind all but 6
    ∷ tried (write_left 4 1 (0 ∷ []) [] 16384 (sevens 13)) (refused (alone 1)) (("9 before 1", refused (alone 9)) ∷ [])
    ∷ tried (write_left 3 0 [] [] 16384 (sevens 10)) (refused (alone 2)) (("9 before 2", refused (alone 9)) ∷ [])
    ∷ tried (write_left 3 1 [] [] 16384 (sevens 13)) (refused (alone 3)) (("9 before 3", refused (alone 9)) ∷ [])
    ∷ tried (write_left 3 2 (0 ∷ 0 ∷ 0 ∷ 0 ∷ []) (0 ∷ []) 16384 (sevens 22)) (refused (alone 4)) (("9 before 4", refused (alone 9)) ∷ [])
    ∷ tried (write_left 3 1 (3 ∷ []) [] 16384 (sevens 13)) (refused (at 5 1 1)) (("9 before 5", refused (alone 9)) ∷ misplaced 5 1 1)
    ∷ tried (write_left 3 1 (0 ∷ []) (3 ∷ []) 16384 (sevens 16)) (refused (at 10 1 1)) (("9 before 10", refused (alone 9)) ∷ misplaced_row 1 1)
    ∷ tried (write_left 3 1 (0 ∷ []) [] 16384 (sevens 12)) (refused (alone 9)) (out_of_turn 9 (6 ∷ []) [])
    -- several faults at once
    ∷ tried (write_left 4 65 (9 ∷ []) (9 ∷ []) 16384 []) (refused (alone 1)) (out_of_turn 1 (2 ∷ 3 ∷ 4 ∷ 5 ∷ 10 ∷ 9 ∷ 6 ∷ []) (5 ∷ 10 ∷ []))
    ∷ tried (write_left 3 65 (9 ∷ []) (9 ∷ []) 16384 []) (refused (alone 2)) (out_of_turn 2 (3 ∷ 4 ∷ 5 ∷ 10 ∷ 9 ∷ 6 ∷ []) (5 ∷ 10 ∷ []))
    ∷ tried (write_left 3 2 (9 ∷ []) (9 ∷ []) 16384 []) (refused (alone 3)) (out_of_turn 3 (4 ∷ 5 ∷ 10 ∷ 9 ∷ 6 ∷ []) (5 ∷ 10 ∷ []))
    ∷ tried (write_left 3 2 (9 ∷ 9 ∷ 9 ∷ 9 ∷ []) (9 ∷ []) 16384 []) (refused (alone 4)) (out_of_turn 4 (5 ∷ 10 ∷ 9 ∷ 6 ∷ []) (5 ∷ 10 ∷ []))
    ∷ tried (write_left 3 2 (9 ∷ 9 ∷ 9 ∷ 9 ∷ []) (9 ∷ 9 ∷ []) 16384 []) (refused (at 5 1 1))
    (("a later test's number, with its entry", refused (at 10 1 1)) ∷ numbered "a later test's number" (10 ∷ 9 ∷ 6 ∷ []))
    ∷ tried (write_left 3 2 (0 ∷ 0 ∷ 0 ∷ 0 ∷ []) (9 ∷ 9 ∷ []) 16384 []) (refused (at 10 1 1)) (numbered "a later test's number" (9 ∷ 6 ∷ []))
    ∷ tried (write_left 3 2 (0 ∷ 0 ∷ 0 ∷ 0 ∷ []) (0 ∷ 0 ∷ []) 9 []) (refused (alone 6))
    (numbered "another number" (0 ∷ 1 ∷ 2 ∷ 3 ∷ 4 ∷ 5 ∷ 7 ∷ 8 ∷ 9 ∷ 10 ∷ 11 ∷ 12 ∷ 13 ∷ [])
    ++ numbered_at "a place where no entry is bad" 1 1 (5 ∷ 6 ∷ 9 ∷ 10 ∷ []))
    ∷ []

unfoldable pub wrong_answers : List Trial
wrong_answers = wrong_inverses ++ (wrong_orders ++ (wrong_images ++ (wrong_stands ++ (wrong_chains ++ (wrong_periods ++ wrong_writes)))))
