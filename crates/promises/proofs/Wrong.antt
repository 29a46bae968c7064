-- The table of wrong answers holds. Each call has a reply that its contract permits, which can be computed, and no other one is permitted: so a
-- reply that differs from the computed one is shut out. One comparison is computed for each wrong answer of the table.
--   corrected r            the same call, with the answer and the buffers that `.._exists` gives
--   corrected_permitted    that reply is permitted
--   corrected_only         whatever is permitted is that reply
--   answer_numbers, standing_number, outcome_numbers, option_numbers, reply_numbers   an answer with its buffers in numbers
--   same_reply              whether two replies have the same numbers
--   run_trial               of a trial the right reply corrected, and of each wrong one whether it is the same when corrected
--   claim_trial             what these should be: the right reply, and no wrong one
--   replies_shut, trials_shut   where they are, the claim of the table holds
--   trials_run             they are: computed
--   wrong_answers_lem          in every trial of the table the right reply is permitted, and no wrong one is
-- Assumes nothing.
use mathlib.Core.Path.{◌≡◌, refl, ap, ap₂, subst}
use mathlib.Core.Bool.{Bool, false}
use mathlib.Core.List.{List, [], ◌∷◌, map}
use Rattle.std.specs.Prelude.{Option, None, Some}
use Prim.Native.Nat.{ℕ}
use Prim.Native.String.{String}
use Rattle.algebra.specs.Field.{fp, 𝟘, 𝟙, ◌⊕◌, ◌⊗◌, neg, is_zero}
use Rattle.algebra.specs.InverseOrZero.{inv_or_𝟘, inv_or_𝟘-steps}
use Rattle.algebra.specs.Row.{unit, 0ᵥ, ◌+ᵥ◌, ◌·ᵥ◌, comb}
use Rattle.algebra.specs.Poly.{coef, poly, ◌⊞◌, ◌⊡◌, ◌⊠◌, act}
use Rattle.algebra.specs.Gcd.{size, head, monic, divide_turn, divide, gcd-steps, gcd, lcm, lcms}
use Rattle.algebra.specs.Echelon.{lead, deeper, clear, reduce}
use Rattle.algebra.specs.Orders.{units, product}
use Rattle.algebra.specs.Spin.{long, clip, tail, clip_kept, new_kept, spin, spin_over, order_of, keep, chain}
use Rattle.meaning.specs.Bytes.{tab, row, poly_of, row_at, byte_rows, rows, times, bytes, e, write, padded}
use Rattle.meaning.specs.Polynomial.{image}
use Rattle.meaning.specs.Stand.{sum, Standing, proved, short, Outcome, standing_of}
use Rattle.meaning.specs.Chain.{stage_bytes}
use Rattle.meaning.specs.Period.{longest}
use Rattle.meaning.specs.Entry.{cell_at, first_bad, bad_cell}
use Rattle.meaning.specs.Refusal.{alone, at, refuse, refuse_at, all_below, is_prime, no_prime, no_size, no_matrix, no_rows, no_vector, no_polynomial}
use Rattle.meaning.specs.Refusal.{bad_entry, bad_coefficient, bad_scalar, no_allowance, too_short, first}
use Rattle.meaning.specs.Refusal.{inverse_refusal, order_refusal, image_refusal, stand_refusal, chain_refusal, period_refusal}
use Rattle.meaning.specs.Calls.{Answer, refused, given}
use Rattle.meaning.specs.Case.{record_bytes, flat, records, case_bytes}
use Rattle.meaning.specs.Writing.{case_of, case_written, write_refusal}
use Rattle.promises.specs.Run.{taken_of, witness_of, orders_of, stand_orders, stand_taken, stand_poly, stand_witness, stand_of, chain_of}
use Rattle.promises.specs.Run.{same, same_rows, first_power, next_power, period_from, period_of, inverse_of}
use Rattle.promises.specs.Wrong.{Reply, inverse_reply, order_reply, image_reply, stand_reply, chain_reply, period_reply, write_reply}
use Rattle.promises.specs.Wrong.{Permitted, ShutOut, Trial, AllShut}
use Rattle.promises.specs.Wrong.{wrong_inverses, wrong_orders, wrong_images, wrong_stands, wrong_chains, wrong_periods, wrong_writes, wrong_answers}
use Rattle.promises.proofs.Found.{same_rows_false}
use Rattle.meaning.proofs.Called.{called_exists}
use Rattle.promises.proofs.Calls.{inverse_exists, order_exists, image_exists, stand_exists, chain_exists, period_exists, write_exists}
use Rattle.promises.proofs.Calls.{inverse_unique, order_unique, image_unique, stand_unique, chain_unique, period_unique, write_unique}

corrected : Reply → Reply
corrected (inverse_reply p a x) = inverse_reply p a (inverse_exists p a).0
corrected (order_reply p n m v out x) = let c = order_exists p n m v out in order_reply p n m v out (c.0, c.1)
corrected (image_reply p n m v f out x) = let c = image_exists p n m v f out in image_reply p n m v f out (c.0, c.1)
corrected (stand_reply p n m cs a poly image x) =
    let c = stand_exists p n m cs a (poly, image) in
    stand_reply p n m cs a poly image (c.0, c.1.0, c.1.1)
corrected (chain_reply p n m cs product stages x) =
    let c = chain_exists p n m cs (product, stages) in
    chain_reply p n m cs product stages (c.0, c.1.0, c.1.1)
corrected (period_reply p n m x) = period_reply p n m (period_exists p n m).0
corrected (write_reply p n m cs a out x) = let c = write_exists p n m cs a out in write_reply p n m cs a out (c.0, c.1)

corrected_permitted : (r : Reply) → Permitted (corrected r)
unfolding corrected
corrected_permitted (inverse_reply p a x) = (inverse_exists p a).1
corrected_permitted (order_reply p n m v out x) = (order_exists p n m v out).2
corrected_permitted (image_reply p n m v f out x) = (image_exists p n m v f out).2
corrected_permitted (stand_reply p n m cs a poly image x) = (stand_exists p n m cs a (poly, image)).2
corrected_permitted (chain_reply p n m cs product stages x) = (chain_exists p n m cs (product, stages)).2
corrected_permitted (period_reply p n m x) = (period_exists p n m).1
corrected_permitted (write_reply p n m cs a out x) = (write_exists p n m cs a out).2

corrected_only : (r : Reply) → Permitted r → r ≡ corrected r
unfolding corrected
corrected_only (inverse_reply p a x) h = ap (inverse_reply p a) (inverse_unique h (inverse_exists p a).1)
corrected_only (order_reply p n m v out x) h =
    let u = order_unique h (order_exists p n m v out).2 in
    ap₂ (λ y b. order_reply p n m v out (y, b)) u.0 u.1
corrected_only (image_reply p n m v f out x) h =
    let u = image_unique p n m v f h (image_exists p n m v f out).2 in
    ap₂ (λ y b. image_reply p n m v f out (y, b)) u.0 u.1
corrected_only (stand_reply p n m cs a poly image x) h =
    let u = stand_unique h (stand_exists p n m cs a (poly, image)).2 in
    ap₂ (λ y b. stand_reply p n m cs a poly image (y, b.0, b.1)) u.0 u.1
corrected_only (chain_reply p n m cs product stages x) h =
    let u = chain_unique h (chain_exists p n m cs (product, stages)).2 in
    ap₂ (λ y b. chain_reply p n m cs product stages (y, b.0, b.1)) u.0 u.1
corrected_only (period_reply p n m x) h = ap (period_reply p n m) (period_unique p n m h (period_exists p n m).1)
corrected_only (write_reply p n m cs a out x) h =
    let u = write_unique p n m cs a h (write_exists p n m cs a out).2 in
    ap₂ (λ y b. write_reply p n m cs a out (y, b)) u.0 u.1

-- replies with other numbers are other replies; that the numbers tell all apart need not be known
answer_numbers : {A : Type 0} → (A → List ℕ) → Answer A → List ℕ
answer_numbers f (refused (alone k)) = 0 ∷ k ∷ []
answer_numbers f (refused (at k r c)) = 0 ∷ k ∷ r ∷ c ∷ []
answer_numbers f (given r) = 1 ∷ f r

standing_number : Standing → ℕ
standing_number proved = 0
standing_number short = 1

outcome_numbers : Outcome → List ℕ
outcome_numbers r = standing_number r.standing ∷ r.degree ∷ r.taken ∷ r.spent ∷ r.witness ∷ []

option_numbers : Option ℕ → List ℕ
option_numbers None = []
option_numbers (Some t) = t ∷ []

reply_numbers : Reply → List (List ℕ)
reply_numbers (inverse_reply p a x) = answer_numbers option_numbers x ∷ []
reply_numbers (order_reply p n m v out x) = answer_numbers (λ r. r ∷ []) x.0 ∷ x.1 ∷ []
reply_numbers (image_reply p n m v f out x) = answer_numbers (λ r. []) x.0 ∷ x.1 ∷ []
reply_numbers (stand_reply p n m cs a poly image x) = answer_numbers outcome_numbers x.0 ∷ x.1 ∷ x.2 ∷ []
reply_numbers (chain_reply p n m cs product stages x) = answer_numbers (λ r. r ∷ []) x.0 ∷ x.1 ∷ x.2 ∷ []
reply_numbers (period_reply p n m x) = answer_numbers option_numbers x ∷ []
reply_numbers (write_reply p n m cs a out x) = answer_numbers (λ r. r ∷ []) x.0 ∷ x.1 ∷ []

same_reply : Reply → Reply → Bool
same_reply r s = same_rows (reply_numbers r) (reply_numbers s)

run_trial : Trial → Reply × List Bool
run_trial t = (corrected t.right, map (λ w. same_reply w.1 (corrected w.1)) t.wrong)

claim_trial : Trial → Reply × List Bool
claim_trial t = (t.right, map (λ w. false) t.wrong)

replies_shut : (ws : List (String × Reply)) → map (λ w. same_reply w.1 (corrected w.1)) ws ≡ map (λ w. false) ws → ShutOut ws
unfolding same_reply
replies_shut [] q = tt
replies_shut (w ∷ ws) q = (λ h. same_rows_false _ _ (cc) (ap reply_numbers (corrected_only w.1 h)), replies_shut ws (cc))

trials_shut : (ts : List Trial) → map run_trial ts ≡ map claim_trial ts → AllShut ts
unfolding run_trial claim_trial
trials_shut [] q = tt
trials_shut (t ∷ ts) q =
    let h : run_trial t ≡ claim_trial t = cc in
    ((subst Permitted (ap (λ x. x.0) h) (corrected_permitted t.right), replies_shut t.wrong (ap (λ x. x.1) h)), trials_shut ts (cc))

trials_run : map run_trial wrong_answers ≡ map claim_trial wrong_answers
unfolding run_trial claim_trial same_reply reply_numbers answer_numbers standing_number outcome_numbers option_numbers corrected called_exists inverse_exists
    order_exists image_exists stand_exists chain_exists period_exists write_exists cell_at first_bad bad_cell refuse refuse_at is_prime all_below no_prime
    no_size no_matrix no_rows no_vector no_polynomial bad_entry bad_coefficient bad_scalar no_allowance too_short first inverse_refusal order_refusal image_refusal
    stand_refusal chain_refusal period_refusal write_refusal record_bytes flat records case_bytes case_of case_written fp inv_or_𝟘 inv_or_𝟘-steps 𝟘 𝟙 ◌⊕◌ ◌⊗◌
    neg is_zero unit 0ᵥ ◌+ᵥ◌ ◌·ᵥ◌ comb act coef poly ◌⊞◌ ◌⊡◌ ◌⊠◌ size head monic divide_turn divide gcd-steps gcd lcm lcms lead deeper clear reduce
    units product long clip tail clip_kept new_kept spin spin_over order_of keep chain tab row poly_of row_at byte_rows rows times bytes e write padded image
    stage_bytes sum longest taken_of witness_of standing_of orders_of stand_orders stand_taken stand_poly stand_witness stand_of chain_of same same_rows
    first_power next_power period_from period_of inverse_of wrong_inverses wrong_orders wrong_images wrong_stands wrong_chains wrong_periods wrong_writes
    wrong_answers
trials_run = refl

pub wrong_answers_lem : AllShut wrong_answers
wrong_answers_lem = trials_shut wrong_answers trials_run
