-- What a call answers and writes, from what was found.
--   refused_exit    a refused call returns its refusal, and has written nothing
--   order_written   a buffer with the order at its front
--   taken_outcome g s w   what the stand returns for the rows taken g, the standing s and the witness w
--   gathered_common   the least polynomial that sends the taken rows to zero is the lcm of their orders
--   gathered-stand    what was gathered, and the test of its polynomial, are the stand
--   stand-written   the stand's two buffers, with the coefficients and the image of the witness
--   chain-written   the chain's two buffers, with the product and the stage record
--   inverse_told, order_told, image_told, stand_told, chain_told, period_told   what is known of an input that is not refused
--   given_told      a call that is not refused gives its result
--   told            these, for the calls
-- Assumes nothing.
use mathlib.Core.Path.{◌≡◌, sym, ap, ◌∙◌}
use mathlib.Core.List.{List}
use Prim.Native.Nat.{ℕ, suc, ◌+◌, ◌<◌, ◌≤◌}
use native.Mathlib.Omega.{arith}
use lib.ListN.{length, take}
use Rattle.algebra.specs.Poly.{coef}
use Rattle.algebra.specs.Orders.{polys}
use Rattle.algebra.proofs.Poly.{least_same}
use Rattle.algebra.proofs.Orders.{multiples_kill, kills_multiples, orders_take}
use Rattle.meaning.specs.Bytes.{Small, row, rows, times, bytes, write}
use Rattle.meaning.specs.Polynomial.{IsOrder, IsLcm}
use Rattle.meaning.specs.Stand.{Standing, Tested, Outcome, IsStand, witness_row}
use Rattle.meaning.specs.Chain.{stage_bytes, stage_room}
use Rattle.std.specs.Prelude.{Option, None, Some, Result}
use Rattle.std.specs.Result.{IsErrAnd}
use Rattle.std.proofs.lemmas.Result.{err_from_is_err_and}
use Rattle.reasons.specs.declared.Reason.{Reason}
use Rattle.reasons.specs.Reasons.{as_refusal, answer_of}
use Rattle.algebra.specs.Field.{Prime}
use Rattle.meaning.specs.Bounds.{widest, coefficients, largest_prime, Sound, SoundRows}
use Rattle.meaning.specs.Refusal.{Refusal, inverse_refusal, order_refusal, image_refusal, stand_refusal, chain_refusal, period_refusal}
use Rattle.meaning.proofs.Refusal.{inverse_sound, order_sound, image_sound, stand_sound, chain_sound, period_sound}
use Rattle.meaning.proofs.Called.{refused_by, given_by}
use Rattle.meaning.specs.Calls.{Called, given, OrderResult, StandResult, ChainResult}
use Rattle.meaning.proofs.Bytes.{times_linear}
use Rattle.meaning.proofs.Unique.{least-lcm}
use Rattle.meaning.proofs.Degrees.{chain_record}
use Rattle.meaning.proofs.Written.{coefficient_bytes, padded_front}
use Rattle.poly.specs.declared.Polynomial.{Polynomial}
use Rattle.poly.specs.Polynomial.{po, Good}
use Rattle.taken.specs.declared.Taken.{Taken}
use Rattle.taken.specs.Gathered.{Gathered}
use Rattle.stages.specs.declared.Links.{Links}
use Rattle.stages.specs.Looking.{IsLinked}

pub refused_exit : {B C : Type 0} {R : B → C → Type 0} {t : Option Refusal} (r : Reason) (x : Result B Reason) (old : C) → IsErrAnd x (λ e. e ≡ r) → Some (as_refusal r) ≡ t
    → Called t R old (answer_of x) old
refused_exit r x old h e = let p = err_from_is_err_and x h in rw (p.1, p.2) (refused_by (sym e))

-- the first n + 1 coefficients
good_bytes : {p : ℕ} {f : Polynomial} (n : ℕ) → Good p f → n ≤ widest → take (n + 1) f.c ≡ bytes (suc n) (coef (po p f))
good_bytes {p} {f} n G h = coefficient_bytes p n f.c G.small (omega (arith, G.places))

pub order_written : {p n : ℕ} {m v old new : List ℕ} {f : Polynomial} → IsOrder p n m (row p v) f.deg (po p f) → Good p f → n ≤ widest
    → new ≡ write (take (n + 1) f.c) old → OrderResult p n m v old f.deg new
order_written {p} {n} {old = old} {f = f} A G h e = record { poly = po p f; order = A; buffer = e ∙ ap (λ l. write l old) (good_bytes n G h) }

-- what the stand returns for the rows taken, with a standing and a witness
abbrev pub taken_outcome : Taken → Standing → ℕ → Outcome
taken_outcome g s w = record { standing = s; degree = g.poly.deg; taken = g.taken; spent = g.spent; witness = w }

-- the lcm of the orders of the taken rows, and the stand
module _ {p n a : ℕ} {m cs : List ℕ} {g : Taken} (G : Gathered p n m cs a g) where
  gathered_common : IsLcm (polys (take g.taken G.orders)) g.poly.deg (po p g.poly)
  gathered_common =
      let L = times_linear p n m in
      let vs = take g.taken (rows p n cs) in
      let os = take g.taken G.orders in
      let T = orders_take (times p n m) g.taken (rows p n cs) G.orders G.each in
      least-lcm (least_same (kills_multiples L vs os T) (multiples_kill L vs os T) G.least)

  gathered-stand : (s : Standing) (w : ℕ) → Tested (times p n m) n (po p g.poly) s w → IsStand p n m cs a (taken_outcome g s w) (po p g.poly)
  gathered-stand s w T = record {
    orders = G.orders;
    each = G.each;
    front = G.front;
    spent = G.spent;
    common = gathered_common;
    tested = T;
  }

pub stand-written : {p n a : ℕ} {m cs img : List ℕ} {g : Taken} {old new : List ℕ × List ℕ} (s : Standing) (w : ℕ) → Gathered p n m cs a g
    → Tested (times p n m) n (po p g.poly) s w → n ≤ widest → new.0 ≡ write (take (n + 1) g.poly.c) old.0
    → img ≡ bytes n (witness_row (times p n m) (po p g.poly) s w) → new.1 ≡ write img old.1
    → StandResult p n m cs a old (taken_outcome g s w) new
stand-written {p} {n} {g = g} {old = old} s w G T h e b x = record {
  poly = po p g.poly;
  stand = gathered-stand G s w T;
  polynomial = e ∙ ap (λ l. write l old.0) (good_bytes n G.good h);
  witness = x ∙ ap (λ l. write l old.1) b;
}

pub chain-written : {p n : ℕ} {m cs : List ℕ} {c : Links} {old new : List ℕ × List ℕ} → IsLinked p n m cs c → n ≤ widest
    → new.0 ≡ write (take (n + 1) c.product.c) old.0 → new.1 ≡ write (take (stage_room n) c.«record») old.1
    → ChainResult p n m cs old c.stages new
chain-written {n = n} {m} {cs} {old = old} L h e x =
    let F = L.product in
    let short = chain_record F.good.prime n m cs L.stages L.chain in
    record {
      stages = L.stages;
      chain = L.chain;
      number = L.number;
      product = e ∙ ap (λ l. write l old.0) (good_bytes n F.good h ∙ ap (bytes (suc n)) F.value);
      record_content = x ∙ ap (λ l. write l old.1) (ap (take (stage_room n)) L.record_content ∙ padded_front _ _ (stage_bytes L.stages) short (omega arith));
    }

-- what is known of an input that is not refused
pub inverse_told : (p a : ℕ) → None ≡ inverse_refusal p a → Prime p × (p ≤ largest_prime) × (a < p)
inverse_told p a e = inverse_sound p a (sym e)

pub order_told : (p n : ℕ) (m v out : List ℕ) → None ≡ order_refusal p n m v out → Sound p n m × (length v ≡ n) × Small p v × (n + 1 ≤ length out)
order_told p n m v out e = order_sound p n m v out (sym e)

pub image_told : (p n : ℕ) (m v f out : List ℕ) → None ≡ image_refusal p n m v f out
    → Sound p n m × (length v ≡ n) × (1 ≤ length f) × (length f ≤ coefficients) × Small p v × Small p f × (n ≤ length out)
image_told p n m v f out e = image_sound p n m v f out (sym e)

pub stand_told : (p n : ℕ) (m cs poly image : List ℕ) → None ≡ stand_refusal p n m cs poly image
    → Sound p n m × SoundRows p n cs × (n + 1 ≤ length poly) × (n ≤ length image)
stand_told p n m cs poly image e = stand_sound p n m cs poly image (sym e)

pub chain_told : (p n : ℕ) (m cs product stages : List ℕ) → None ≡ chain_refusal p n m cs product stages
    → Sound p n m × SoundRows p n cs × (n + 1 ≤ length product) × (stage_room n ≤ length stages)
chain_told p n m cs product stages e = chain_sound p n m cs product stages (sym e)

pub period_told : (p n : ℕ) (m : List ℕ) → None ≡ period_refusal p n m → Sound p n m
period_told p n m e = period_sound p n m (sym e)

pub given_told : {A B : Type 0} (q : Option Refusal) (R : A → B → Type 0) (old new : B) (r : A) → None ≡ q → R r new → Called q R old (given r) new
given_told q R old new r e h = given_by (sym e) h

pub ruleset told = (refused_exit, inverse_told, order_told, image_told, stand_told, chain_told, period_told, given_told)
