-- The listings hold: the functions of Run, which give the lines of a sheet on every input, are run on the cases.
--   listings_hold     every listing is the sheet of its file, nothing else is, and what is wrong is not
--   empty_prints      an empty file prints REFUSED 0, and nothing else
-- Assumes nothing.
use mathlib.Core.Path.{◌≡◌, refl, sym, ap, subst, ◌∙◌}
use Rattle.std.specs.Prelude.{Option, None, Some}
use mathlib.Core.Bool.{Bool, false, true≢false}
use mathlib.Core.List.{List, [], ◌∷◌, map, flatten}
use Prim.Native.Nat.{ℕ, ◌<◌, ◌≤◌}
use native.Mathlib.Omega.{arith}
use Prim.Native.String.{String}
use lib.ListN.{length}
use lib.Dec.{eqb}
use borrow.Author.Tests.{eq-eqb}
use Rattle.algebra.specs.Field.{fp, 𝟘, 𝟙, ◌⊕◌, ◌⊗◌, neg, is_zero}
use Rattle.algebra.specs.InverseOrZero.{inv_or_𝟘, inv_or_𝟘-steps}
use Rattle.algebra.specs.Row.{unit, 0ᵥ, ◌+ᵥ◌, ◌·ᵥ◌, comb}
use Rattle.algebra.specs.Poly.{coef, poly, ◌⊞◌, ◌⊡◌, ◌⊠◌, act}
use Rattle.algebra.specs.Gcd.{size, head, monic, divide_turn, divide, gcd-steps, gcd, lcm, lcms}
use Rattle.algebra.specs.Echelon.{lead, deeper, clear, reduce}
use Rattle.algebra.specs.Orders.{units, product}
use Rattle.algebra.specs.Spin.{long, clip, tail, clip_kept, new_kept, spin, spin_over, order_of, keep, chain}
use Rattle.meaning.specs.Ascii.{ascii}
use Rattle.meaning.specs.Bytes.{Small, tab, row, row_at, byte_rows, rows, times, bytes, e}
use Rattle.meaning.specs.Bounds.{most_candidates}
use Rattle.meaning.specs.Stand.{sum, standing_of}
use Rattle.meaning.specs.Period.{longest}
use Rattle.meaning.specs.Refusal.{is_prime, all_below}
use Rattle.meaning.specs.Case.{record_bytes, flat, Case, records, case_bytes, RowsOf, Halves, WellFormed, default_allowance, IsCase, Place, matrix_bytes, candidate_bytes, allowance_of}
use Rattle.meaning.specs.Line.{digit, digits, decimal, spaced, line_bytes, text}
use Rattle.meaning.specs.Sheet.{IsSheet, refused}
use Rattle.promises.specs.Run.{taken_of, witness_of, orders_of, stand_orders, stand_taken, stand_poly, stand_witness, stand_of, chain_of}
use Rattle.promises.specs.Run.{same, same_rows, first_power, next_power, period_from, period_of, lines_of}
use Rattle.promises.proofs.Found.{same_refl}
use Rattle.promises.proofs.Sheet.{case_sheet}
use Rattle.answers.specs.Listing.{Listing, Prints, Never, AllPrint, squares, eighteen, listings}
use Rattle.promises.proofs.Sheet.{sheet_unique}

-- the bytes of the case, and what the functions print for it; and what both should be
run : Listing → List ℕ × List ℕ
run x =
    let c = x.case in
    (case_bytes c, text (lines_of c.p c.n (matrix_bytes c) (candidate_bytes c) (allowance_of c)))

claim : Listing → List ℕ × List ℕ
claim x = (x.file, ascii x.print)

run_prints : (x : Listing) → WellFormed x.case → run x ≡ claim x → Prints x
unfolding run claim
run_prints x W q =
    let i : IsCase x.file x.case = record { well_formed = W; whole = sym (ap (λ y. y.0) q) } in
    let S = subst (IsSheet x.file) (ap (λ y. y.1) q) (case_sheet x.case i) in
    (S, λ t T. sheet_unique T S)

abbrev AllWell : List Listing → Type 0
AllWell [] = Unit {0}
AllWell (x ∷ xs) = WellFormed x.case × AllWell xs

listings-run : map run listings ≡ map claim listings
unfolding run claim is_prime all_below fp inv_or_𝟘 inv_or_𝟘-steps 𝟘 𝟙 ◌⊕◌ ◌⊗◌ neg is_zero unit 0ᵥ ◌+ᵥ◌ ◌·ᵥ◌ comb act coef poly ◌⊞◌ ◌⊡◌ ◌⊠◌ size head
    monic divide_turn divide gcd-steps gcd lcm lcms lead deeper clear reduce units product long clip tail clip_kept new_kept spin spin_over
    order_of keep chain tab row row_at byte_rows rows times bytes e sum longest taken_of witness_of standing_of orders_of
    stand_orders stand_taken stand_poly stand_witness stand_of chain_of same same_rows first_power next_power period_from period_of lines_of
    record_bytes flat records case_bytes default_allowance digit digits decimal spaced line_bytes text flatten listings
listings-run = refl

pair_of : (a b : ℕ) → a < 3 → b < 3 → (length (a ∷ b ∷ []) ≡ 2) × Small 3 (a ∷ b ∷ [])
pair_of a b h k = (refl, (h, (k, tt)))

-- a case of the listings is well-formed if its halves and its rows are
well : (m cs : List (List ℕ)) (a : Option (ℕ × ℕ)) → Halves a → length m ≡ 2 → RowsOf 3 2 m → length cs ≤ most_candidates → RowsOf 3 2 cs → WellFormed (squares m cs a)
unfolding is_prime all_below
well m cs a h q r f l = record { prime = refl; least = omega arith; most = omega arith; halves = h; square = q; rows = r; few = f; listed = l }

listings_well : AllWell listings
unfolding listings
listings_well =
    let none-one = pair_of 0 1 (omega arith) (omega arith) in
    let one_none = pair_of 1 0 (omega arith) (omega arith) in
    let none-two = pair_of 0 2 (omega arith) (omega arith) in
    let two_none = pair_of 2 0 (omega arith) (omega arith) in (
      well _ _ None tt refl (none-one, (two_none, tt)) (omega arith) (one_none, tt),
      (
        well _ _ (Some (0, 9)) (omega arith, omega arith) refl (one_none, (none-two, tt)) (omega arith) (one_none, (one_none, tt)),
        (
          well _ _ (Some (0, 9)) (omega arith, omega arith) refl (one_none, (none-two, tt)) (omega arith) (one_none, (none-one, tt)),
          tt,
        ),
      ),
    )

-- what is wrong has other bytes
differ : (a b : List ℕ) → same eqb a b ≡ false → ¬ (a ≡ b)
differ a b q e = true≢false (sym (same_refl eqb (λ x. eq-eqb x x refl) b) ∙ ap (λ c. same eqb c b) (sym e) ∙ q)

tests : Listing → List Bool
tests x = map (λ t. same eqb (ascii t) (ascii x.print)) x.wrong

all_false : List String → List Bool
all_false ts = map (λ t. false) ts

tests_never : (x : Listing) → Prints x → (ts : List String) → map (λ t. same eqb (ascii t) (ascii x.print)) ts ≡ all_false ts → Never x.file ts
unfolding all_false
tests_never x P [] q = tt
tests_never x P (t ∷ ts) q = (λ S. differ (ascii t) (ascii x.print) (cc) (P.1 (ascii t) S), tests_never x P ts (cc))

listings_tested : map tests listings ≡ map (λ x. all_false x.wrong) listings
unfolding tests all_false same listings
listings_tested = refl

hold : (xs : List Listing) → AllWell xs → map run xs ≡ map claim xs → map tests xs ≡ map (λ x. all_false x.wrong) xs → AllPrint xs
unfolding tests
hold [] W q r = tt
hold (x ∷ xs) W q r = let P = run_prints x W.0 (cc) in ((P, tests_never x P x.wrong (cc)), hold xs W.1 (cc) (cc))

pub listings_hold : AllPrint listings
listings_hold = hold listings listings_well listings-run listings_tested

-- an empty file is no case, and begins the first listing's
eighteen_case : IsCase eighteen.file eighteen.case
unfolding listings record_bytes flat records case_bytes
eighteen_case = record { well_formed = listings_well.0; whole = refl }

empty_not : (c : Case) → ¬ IsCase [] c
unfolding record_bytes flat records case_bytes
empty_not c i = let q = i.whole in let z : ◌≡◌ {A = ℕ} 0 1 = cc in omega arith

empty_place : Place [] 0
empty_place =
    record { within = omega arith; before = record { rest = eighteen.file; case = eighteen.case; is = eighteen_case }; at_it = λ l. absurd (omega arith) }

empty_sheet : IsSheet [] (ascii "REFUSED 0\n")
unfolding digit digits decimal spaced line_bytes text
empty_sheet = refused 0 empty_not empty_place refl

pub empty_prints : IsSheet [] (ascii "REFUSED 0\n") × ((t : List ℕ) → IsSheet [] t → t ≡ ascii "REFUSED 0\n")
empty_prints = (empty_sheet, λ t S. sheet_unique S empty_sheet)
