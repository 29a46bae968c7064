-- A call's answer is a refusal or a result, and says which (01: "no lent byte changes" where it is refused).
--   refused_given     a refusal is no result
--   refused_by, given_by   a call that is refused, and one that gives a result
--   called_refused    a refusal is the one that the table gives, and nothing lent has changed
--   called_given      a result is given where no test of the table applies
--   called_exists     a call has an answer where it has a result whenever nothing is refused
--   called_unique     and one answer and one content of the buffers where its results are unique
-- Assumes nothing.
use mathlib.Core.Path.{◌≡◌, refl, sym, ap, ◌∙◌, subst}
use Rattle.std.specs.Prelude.{Option, None, Some}
use Rattle.std.proofs.lemmas.Option.{none-some}
use Prim.Native.Nat.{ℕ}
use native.Mathlib.Omega.{arith}
use Rattle.meaning.specs.Refusal.{Refusal}
use Rattle.meaning.specs.Calls.{Answer, refused, given, Called}

pub refused_given : {A : Type 0} (k : Refusal) (r : A) → ¬ (refused k ≡ given r)
refused_given k r e = let z : ◌≡◌ {A = ℕ} 0 1 = cc in omega arith

pub refused_by : {A B : Type 0} {q : Option Refusal} {R : A → B → Type 0} {old : B} {k : Refusal} → q ≡ Some k → Called q R old (refused k) old
refused_by {k} e = record {
  refusal = λ j w. (cc, refl);
  result = λ w. absurd (none-some k (sym w ∙ e));
}

pub given_by : {A B : Type 0} {q : Option Refusal} {R : A → B → Type 0} {old new : B} {r : A} → q ≡ None → R r new → Called q R old (given r) new
given_by {r} e h = record {
  refusal = λ j w. absurd (none-some j (sym e ∙ w));
  result = λ w. (r, refl, h);
}

-- a refusal: the one that the table gives, and nothing lent has changed
pub called_refused : {A B : Type 0} {R : A → B → Type 0} {q : Option Refusal} {old new : B} {k : Refusal} → Called q R old (refused k) new → (q ≡ Some k) × (new ≡ old)
called_refused {q = q} {old = old} {new = new} {k = k} h = go q refl
  where
    go : (o : Option Refusal) → q ≡ o → (q ≡ Some k) × (new ≡ old)
    go None e = let r = h.result e in absurd (refused_given k r.0 r.1)
    go (Some j) e = let r = h.refusal j e in (cc, r.1)

-- a result: no test of the table applies
pub called_given : {A B : Type 0} {R : A → B → Type 0} {q : Option Refusal} {old new : B} {r : A} → Called q R old (given r) new → (q ≡ None) × R r new
called_given {R = R} {q = q} {new = new} {r = r} h = go q refl
  where
    go : (o : Option Refusal) → q ≡ o → (q ≡ None) × R r new
    go None e =
        let s = h.result e in
        let d : s.0 ≡ r = cc in
        (e, subst (λ t. R t new) d s.2)
    go (Some j) e = absurd (refused_given j r (sym (h.refusal j e).0))

-- a call has a result where its results exist when nothing is refused
unfoldable pub called_exists : {A B : Type 0} {R : A → B → Type 0} (q : Option Refusal) (old : B) → (q ≡ None → (r : A) × (new : B) × R r new)
    → (answer : Answer A) × (new : B) × Called q R old answer new
called_exists None old h =
    let r = h refl in
    (given r.0, r.1, record { refusal = λ k e. absurd (none-some k e); result = λ e. (r.0, refl, r.2) })
called_exists (Some j) old h =
    (refused j, old, record { refusal = λ k e. (cc, refl); result = λ e. absurd (none-some j (sym e)) })

-- and one result where its results are unique when nothing is refused
pub called_unique : {A B : Type 0} {R : A → B → Type 0} {q : Option Refusal} {old x y : B} {a b : Answer A}
    → (q ≡ None → (r s : A) (u w : B) → R r u → R s w → (r ≡ s) × (u ≡ w)) → Called q R old a x → Called q R old b y → (a ≡ b) × (x ≡ y)
called_unique {q = q} {x = x} {y = y} {a = a} {b = b} h A B = go q refl
  where
    go : (o : Option Refusal) → q ≡ o → (a ≡ b) × (x ≡ y)
    go None e =
        let r = A.result e in
        let s = B.result e in
        let d = h e r.0 s.0 x y r.2 s.2 in
        (r.1 ∙ ap given d.0 ∙ sym s.1, d.1)
    go (Some k) e =
        let r = A.refusal k e in
        let s = B.refusal k e in
        (r.0 ∙ sym s.0, r.1 ∙ sym s.1)
