-- One result for every input: for each call a permitted answer and buffer content exists, and any two permitted ones agree.
-- That a refusal is the one that the table gives, and is given in no other case, is proved in `Called` of meaning.
-- What `.._exists` permits is what the functions of Run find, and can be computed: these laws unfold.
--   inverse_exists, order_exists, image_exists, stand_exists, chain_exists, period_exists, write_exists
--                    a permitted answer, with what the buffers hold
--   inverse_unique, order_unique, image_unique, stand_unique, chain_unique, period_unique, write_unique
--                    any two agree, buffers included
-- Assumes nothing.
use mathlib.Core.Path.{◌≡◌, refl, sym, ◌∙◌, Σ_path}
use mathlib.Core.List.{List}
use Rattle.std.specs.Prelude.{Option}
use Prim.Native.Nat.{ℕ}
use Rattle.meaning.specs.Bytes.{row, times}
use Rattle.meaning.specs.Stand.{Outcome}
use Rattle.meaning.specs.Refusal.{inverse_refusal, period_refusal}
use Rattle.meaning.specs.Calls.{Answer, InverseCall, OrderCall, ImageCall, StandCall, ChainCall, PeriodCall}
use Rattle.meaning.specs.Writing.{WriteCall}
use Rattle.meaning.proofs.Refusal.{inverse_sound, order_sound, stand_sound, chain_sound}
use Rattle.meaning.proofs.Called.{called_exists, called_unique}
use Rattle.meaning.proofs.Unique.{order_only, stand-only, witness_only, chain-only, period_only, inverse_only, alike_stage_bytes}
use Rattle.promises.specs.Run.{period_of, inverse_of}
use Rattle.promises.proofs.Found.{inverse_found, order_found, stand_found, chain_found, period_found}
use Rattle.algebra.proofs.Alike.{alike_length, alike_product}

unfoldable pub inverse_exists : (p a : ℕ) → (answer : Answer (Option ℕ)) × InverseCall p a answer
inverse_exists p a =
    let c = called_exists (inverse_refusal p a) tt (λ q. let k = inverse_sound p a q in (inverse_of p a, tt, inverse_found p a k.0 k.2)) in
    (c.0, c.2)

pub inverse_unique : {p a : ℕ} {x y : Answer (Option ℕ)} → InverseCall p a x → InverseCall p a y → x ≡ y
inverse_unique {p} {a} A B = (called_unique (λ q r s u w C D. (inverse_only p a r s (inverse_sound p a q).0 C D, refl)) A B).0

unfoldable pub order_exists : (p n : ℕ) (m v old : List ℕ) → (answer : Answer ℕ) × (new : List ℕ) × OrderCall p n m v old answer new
order_exists p n m v old =
    called_exists _ old (λ q.
    let k = order_sound p n m v old q in
    (_, _, record { poly = _; order = order_found k.0.prime n m v k.1; buffer = refl }))

pub order_unique : {p n : ℕ} {m v old s t : List ℕ} {x y : Answer ℕ} → OrderCall p n m v old x s → OrderCall p n m v old y t → (x ≡ y) × (s ≡ t)
order_unique {p} {n} {m} {v} {old} =
    called_unique (λ q r u b d C D.
    let o = order_only (order_sound p n m v old q).0.prime n m (row p v) C.order D.order in
    (o.0, cc))

unfoldable pub image_exists : (p n : ℕ) (m v f old : List ℕ) → (answer : Answer (Unit {0})) × (new : List ℕ) × ImageCall p n m v f old answer new
image_exists p n m v f old = called_exists _ old (λ q. (tt, _, refl))

pub image_unique : (p n : ℕ) (m v f : List ℕ) {old s t : List ℕ} {x y : Answer (Unit {0})} → ImageCall p n m v f old x s → ImageCall p n m v f old y t
    → (x ≡ y) × (s ≡ t)
image_unique p n m v f = called_unique (λ q r u b d C D. (refl, C ∙ sym D))

unfoldable pub stand_exists : (p n : ℕ) (m cs : List ℕ) (a : ℕ) (old : List ℕ × List ℕ)
    → (answer : Answer Outcome) × (new : List ℕ × List ℕ) × StandCall p n m cs a old answer new
stand_exists p n m cs a old =
    called_exists _ old (λ q.
    let k = stand_sound p n m cs old.0 old.1 q in
    (_, (_, _), record { poly = _; stand = stand_found k.0.prime n m cs a; polynomial = refl; witness = refl }))

pub stand_unique : {p n : ℕ} {m cs : List ℕ} {a : ℕ} {old s t : List ℕ × List ℕ} {x y : Answer Outcome} → StandCall p n m cs a old x s
    → StandCall p n m cs a old y t → (x ≡ y) × (s ≡ t)
stand_unique {p} {n} {m} {cs} {a} {old} =
    called_unique (λ q r u b d C D.
    let k = stand_sound p n m cs old.0 old.1 q in
    let o = stand-only k.0.prime n m cs a r u C.poly D.poly C.stand D.stand in
    let w = witness_only (times p n m) C.poly D.poly o.1 r.standing r.witness in
    (o.0, Σ_path (cc) (cc)))

unfoldable pub chain_exists : (p n : ℕ) (m cs : List ℕ) (old : List ℕ × List ℕ)
    → (answer : Answer ℕ) × (new : List ℕ × List ℕ) × ChainCall p n m cs old answer new
chain_exists p n m cs old =
    called_exists _ old (λ q.
    let k = chain_sound p n m cs old.0 old.1 q in
    (_, (_, _), record { stages = _; chain = chain_found k.0.prime n m cs; number = refl; product = refl; record_content = refl }))

pub chain_unique : {p n : ℕ} {m cs : List ℕ} {old s t : List ℕ × List ℕ} {x y : Answer ℕ} → ChainCall p n m cs old x s → ChainCall p n m cs old y t
    → (x ≡ y) × (s ≡ t)
chain_unique {p} {n} {m} {cs} {old} =
    called_unique (λ q r u b d C D.
    let k = chain_sound p n m cs old.0 old.1 q in
    let o = chain-only k.0.prime n m cs C.stages D.stages C.chain D.chain in
    let e = alike_length C.stages D.stages o in
    let f = alike_product C.stages D.stages o in
    let l = alike_stage_bytes C.stages D.stages o in
    (cc, Σ_path (cc) (cc)))

unfoldable pub period_exists : (p n : ℕ) (m : List ℕ) → (answer : Answer (Option ℕ)) × PeriodCall p n m answer
period_exists p n m =
    let c = called_exists (period_refusal p n m) tt (λ q. (period_of p n m, tt, period_found p n m)) in
    (c.0, c.2)

pub period_unique : (p n : ℕ) (m : List ℕ) {x y : Answer (Option ℕ)} → PeriodCall p n m x → PeriodCall p n m y → x ≡ y
period_unique p n m A B = (called_unique (λ q r s u w C D. (period_only p n m r s C D, refl)) A B).0

unfoldable pub write_exists : (p n : ℕ) (m cs : List ℕ) (a : ℕ) (old : List ℕ) → (answer : Answer ℕ) × (new : List ℕ) × WriteCall p n m cs a old answer new
write_exists p n m cs a old = called_exists _ old (λ q. (_, _, (refl, refl)))

pub write_unique : (p n : ℕ) (m cs : List ℕ) (a : ℕ) {old s t : List ℕ} {x y : Answer ℕ} → WriteCall p n m cs a old x s → WriteCall p n m cs a old y t
    → (x ≡ y) × (s ≡ t)
write_unique p n m cs a = called_unique (λ q r u b d C D. (C.0 ∙ sym D.0, C.1 ∙ sym D.1))
