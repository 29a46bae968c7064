-- The case of a design, written from its values.
--   Values t v m cs   the case of the text t has the numbers v, and the buffers m and cs hold its matrix and its candidates
--   drawn_values   so it is where the design is a case
--   values_write   what the writer does with them, it does with those of the case
--   drawn_wrong    where it is none, that is told
-- Assumes nothing.
use mathlib.Core.Path.{◌≡◌, refl, sym, ap, ap₂, subst, ◌∙◌}
use mathlib.Core.List.{List}
use Rattle.std.proofs.lemmas.Option.{none-some, same_Some}
use Prim.Native.Nat.{ℕ, ◌*◌, ◌-◌, ◌≤◌}
use native.Mathlib.Nat.{mul-le-mul}
use native.Mathlib.Omega.{arith}
use lib.ListN.{length, take, replicate, length-append}
use Rattle.meaning.specs.Bytes.{padded}
use Rattle.meaning.specs.Bounds.{widest, most_candidates, matrix_room, candidate_room}
use Rattle.meaning.specs.Case.{Case, allowance_of, matrix_bytes, candidate_bytes}
use Rattle.meaning.specs.Writing.{WriteCall}
use Rattle.meaning.specs.Design.{IsDesign}
use Rattle.meaning.proofs.Case.{flatten_length, case_sound}
use Rattle.meaning.proofs.Written.{padded_take}
use Rattle.std.specs.Prelude.{Result, Ok, Err}
use Rattle.casefile.specs.declared.Case.{Case as Numbers}
use Rattle.reasons.specs.declared.Reason.{Reason}
use Rattle.reasons.specs.Reasons.{answer_of}
use Rattle.design.specs.declared.Design.{Design}
use Rattle.design.specs.declared.Mistake.{Mistake}
use Rattle.design.specs.Drawn.{drawn_of, wrong_of, DesignIs, drawn_case, wrong_spot, MadeIs, made_case, made_none}

pub record Values (t : List ℕ) (v : Numbers) (m cs : List ℕ) : Type 0 where
  pub case : Case
  pub is : IsDesign t case
  pub same : ◌≡◌ {A = ℕ × ℕ × ℕ × ℕ} (v.p, v.n, v.allowance, v.count) (case.p, case.n, allowance_of case, length case.candidates)
  pub few : v.n * v.n ≤ matrix_room
  pub few_listed : v.count * v.n ≤ candidate_room
  pub within : v.n * v.n ≤ length m
  pub within_listed : v.count * v.n ≤ length cs
  pub entries : take (v.n * v.n) m ≡ matrix_bytes case
  pub listed : take (v.count * v.n) cs ≡ candidate_bytes case

padded_covers : (k : ℕ) (l : List ℕ) → length l ≤ length (padded k l)
unfolding padded
padded_covers k l = omega (arith, length-append l (replicate (k - length l) 0))

pub drawn_values : {t : List ℕ} {r : Design} {v : Numbers} → DesignIs t r → r.answer ≡ Ok v → Values t v r.matrix r.candidates
drawn_values {t} {r} {v = x} (drawn_case c I v m cs) e =
    let n = x.n in
    let k = x.count in
    let W = I.well_formed in
    let s = same_Some (x.p, n, x.allowance, k) (c.p, c.n, allowance_of c, length c.candidates) (sym (ap drawn_of e) ∙ v) in
    let size : n ≡ c.n = ap (λ x. x.1) s in
    let count : k ≡ length c.candidates = ap (λ x. x.3) s in
    let wide : n ≤ widest = omega (arith, size, W.most) in
    let some-listed : k ≤ most_candidates = omega (arith, count, W.few) in
    record {
      case = c;
      is = I;
      same = s;
      few = mul-le-mul wide wide;
      few_listed = mul-le-mul some-listed wide;
      within = omega (arith, padded_covers matrix_room (matrix_bytes c), ap length m, (case_sound c W).matrix, ap₂ ◌*◌ size size);
      within_listed =
          omega (arith, padded_covers candidate_room (candidate_bytes c), ap length cs, flatten_length c.p c.n c.candidates W.listed, ap₂ ◌*◌ count size);
      entries = ap₂ (λ j l. take (j * j) l) size m ∙ sym (padded_take (c.n * c.n) matrix_room (matrix_bytes c) (case_sound c W).matrix);
      listed = (λ i. take (count i * size i) (cs i))
          ∙ sym (padded_take (length c.candidates * c.n) candidate_room (candidate_bytes c) (flatten_length c.p c.n c.candidates W.listed));
    }
drawn_values (wrong_spot q f none_is B w n ds) e = absurd (none-some _ (sym (ap wrong_of e) ∙ w))

pub values_write : {t m cs old new : List ℕ} {v : Numbers} {w : Result ℕ Reason} (U : Values t v m cs)
    → WriteCall v.p v.n (take (v.n * v.n) m) (take (v.count * v.n) cs) v.allowance old (answer_of w) new → MadeIs t old (Ok w) new
values_write {old = old} {new = new} {w = w} U C =
    let s = U.same in
    made_case U.case w U.is refl
    (subst (λ (x : ℕ × ℕ × List ℕ × List ℕ × ℕ). WriteCall x.0 x.1 x.2 x.3 x.4 old (answer_of w) new)
    (λ i. ((s i).0, (s i).1, U.entries i, U.listed i, (s i).2)) C)

pub drawn_wrong : {t old new : List ℕ} {r : Design} {m : Mistake} → DesignIs t r → r.answer ≡ Err m → new ≡ old → MadeIs t old (Err m) new
drawn_wrong (drawn_case c I v m cs) f h = absurd (none-some _ (sym (ap drawn_of f) ∙ v))
drawn_wrong (wrong_spot p e none_is A v m cs) f h = made_none p e none_is A (sym (ap wrong_of f) ∙ v) h
