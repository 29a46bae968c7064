-- What the calls answered is what the sheet says.
--   stages_read      the stages of a record, whatever stands behind it
--   stood_given, chained_given   the lines of a stand and of a chain
--   StandDone, ChainDone   what these calls answered, on buffers of zeros
--   stand_given, chain_given   it is a result, where the values are sound
--   stand_ok, chain_ok, period_ok   so no call refuses them
--   CaseAnswers      what the calls answered on a case, and what their buffers hold
--   case_lines        the lines read off all the answers
--   CaseLines        they are the sheet's, and there is room for them
--   case_lines_lem       so it is, where the values are sound
-- Assumes nothing.
use mathlib.Core.Path.{◌≡◌, refl, sym, ap, ap₂, ◌∙◌, subst}
use mathlib.Core.List.{List, [], ◌∷◌, ◌++◌, map, append_assoc}
use Rattle.std.specs.Prelude.{Option, Result, Ok, Err, IsOk}
use Prim.Native.Nat.{ℕ, suc, ◌+◌, ◌-◌, ◌^◌, ◌<◌, ◌≤◌}
use native.Mathlib.Numerals.{add-one}
use native.Mathlib.Nat.{le_refl}
use native.Mathlib.Omega.{arith}
use lib.ListN.{length, take, drop, replicate, length-append, length-replicate}
use lib.Seq.{take_at, drop_at}
use Rattle.algebra.specs.Field.{Prime}
use Rattle.algebra.specs.Row.{S}
use Rattle.algebra.specs.Poly.{coef, act}
use Rattle.algebra.specs.Orders.{WithDegree, Stages, end, pass, stage, product}
use Rattle.meaning.specs.Bytes.{times, e, bytes, write, padded}
use Rattle.meaning.specs.Bounds.{coefficients, widest, Sound, SoundRows}
use Rattle.meaning.specs.Stand.{Outcome, witness_row}
use Rattle.meaning.specs.Chain.{stage_bytes, stage_room}
use Rattle.meaning.specs.Calls.{given, StandResult, StandCall, ChainResult, ChainCall, PeriodCall}
use Rattle.meaning.specs.Line.{Line, text}
use Rattle.meaning.specs.Sheet.{field_line, stand_lines, stage_line, chain_line, period_line, SheetLines, sheet_room}
use Rattle.meaning.proofs.Bytes.{bytes_length, bytes-monic}
use Rattle.meaning.proofs.Degrees.{stand_degree}
use Rattle.meaning.proofs.Refusal.{sound_stand, sound_chain, sound_period}
use Rattle.meaning.proofs.SheetRoom.{sheet_lines_room}
use Rattle.meaning.proofs.Called.{refused_given}
use Rattle.meaning.proofs.Written.{written_front}
use Rattle.reasons.specs.declared.Reason.{Reason}
use Rattle.reasons.specs.Reasons.{answer_of}
use Rattle.calls.specs.Answers.{outcome_of, stood_of}
use Rattle.calls.specs.declared.Stood.{Stood}
use Rattle.calls.specs.declared.Stood.TheVariants as stood
use Rattle.sheet.specs.Lines.{counts_line, unwitnessed_line, stood_lines, StoodFits, StagesIn, stage_lines_in, chained_lines, perioded_lines}

-- the stand
stood_given : {p n a : ℕ} {m cs poly image : List ℕ} {o : Outcome} {old : List ℕ × List ℕ} (r : Stood) → Prime p → outcome_of r ≡ o
    → (R : StandResult p n m cs a old o (poly, image))
    → (stood_lines n r poly image ≡ stand_lines n (times p n m) o.standing o R.poly) × StoodFits n r poly image
stood_given {n = n} {a} {m} {cs} {o = o} {old = old} (stood.Proved c) P z R =
    let f = R.poly in
    let d = stand_degree P n m cs a o f R.stand in
    let w = written_front (c.degree + 1) (suc n) (coef f) old.0 (omega (arith, ap (λ (o : Outcome). o.degree) z)) R.polynomial in (
      ap (λ l. counts_line "STAND proved" c ∷ record { word = "MINPOLY"; numbers = l } ∷ unwitnessed_line ∷ []) (w.0 ∙ ap (λ k. bytes k (coef f)) (add-one c.degree))
          ∙ ap (λ (o : Outcome). stand_lines n (times _ n m) o.standing o f) z,
      w.1,
    )
stood_given {n = n} {a} {m} {cs} {o = o} {old = old} (stood.Short c u) P z R =
    let f = R.poly in
    let X = times _ n m in
    let d = stand_degree P n m cs a o f R.stand in
    let w = written_front (c.degree + 1) (suc n) (coef f) old.0 (omega (arith, ap (λ (o : Outcome). o.degree) z)) R.polynomial in
    let v = written_front n n (act X f (e u)) old.1 (le_refl n) (R.witness ∙ ap (λ (o : Outcome). write (bytes n (witness_row X f o.standing o.witness)) old.1) (sym z)) in (
      ap₂ (λ l i. counts_line "STAND short" c ∷ record { word = "DIVISOR"; numbers = l } ∷ record { word = "WITNESS"; numbers = u ∷ i } ∷ [])
          (w.0 ∙ ap (λ k. bytes k (coef f)) (add-one c.degree)) v.0
          ∙ ap (λ (o : Outcome). stand_lines n X o.standing o f) z,
      (w.1, v.1),
    )

-- the stages of the record, whatever stands behind it
stages_read : {p : ℕ} {X : S p → S p} → Prime p → (seen vs : List (S p)) (st : List (WithDegree p)) → Stages X seen vs st → (rest : List ℕ)
    → (stage_lines_in (length st) (stage_bytes st ++ rest) ≡ map stage_line st) × StagesIn (length st) (stage_bytes st ++ rest)
unfolding stage_lines_in StagesIn stage_bytes
stages_read P seen vs st end rest = (refl, tt)
stages_read P seen vs st (pass h A) rest = stages_read P _ _ _ A rest
stages_read P seen vs st (stage {s} {st = ss} h l A) rest =
    let b = bytes s.deg (coef s.poly) in
    let r = stage_bytes ss ++ rest in
    let c = append_assoc b (stage_bytes ss) rest in
    let i = stages_read P _ _ ss A rest in
    let t : take s.deg ((b ++ stage_bytes ss) ++ rest) ≡ b = ap (take s.deg) c ∙ take_at b r s.deg (bytes_length _ _) in
    let d : drop s.deg ((b ++ stage_bytes ss) ++ rest) ≡ r = ap (drop s.deg) c ∙ drop_at b r s.deg (bytes_length _ _) in (
      ap₂ (λ l k. record { word = "STAGE"; numbers = l } ∷ k)
          (ap (λ l. l ++ (1 ∷ [])) t ∙ sym (bytes-monic P.big s.deg (coef s.poly) l.monic))
          (ap (stage_lines_in (length ss)) d ∙ i.0),
      (omega (arith, ap length c, length-append b r, bytes_length s.deg (coef s.poly)), subst (StagesIn (length ss)) (sym d) i.1),
    )

chained_given : {p n count : ℕ} {m cs prod stages : List ℕ} {old : List ℕ × List ℕ} → Prime p → (R : ChainResult p n m cs old count (prod, stages))
    → (chained_lines n count prod stages ≡ map stage_line R.stages ++ (chain_line n R.stages ∷ [])) × (n + 1 ≤ length prod) × StagesIn count stages
unfolding write padded
chained_given {n = n} {count} {stages = stages} {old = old} P R =
    let st = R.stages in
    let z : count ≡ length st = R.number in
    let w = written_front (n + 1) (suc n) (coef (product st)) old.0 (omega arith) R.product in
    let rest = replicate (stage_room n - length (stage_bytes st)) 0 ++ drop (length (padded (stage_room n) (stage_bytes st))) old.1 in
    let l : stages ≡ stage_bytes st ++ rest = R.record_content ∙ append_assoc (stage_bytes st) _ _ in
    let i = stages_read P [] _ st R.chain rest in (
      ap₂ (λ x y. x ++ (record { word = "CHAIN"; numbers = y } ∷ [])) (ap₂ stage_lines_in z l ∙ i.0) (w.0 ∙ ap (λ k. bytes k (coef (product st))) (add-one n)),
      w.1,
      subst (StagesIn count) (sym l) (subst (λ j. StagesIn j (stage_bytes st ++ rest)) (sym z) i.1),
    )

pub record CaseAnswers : Type 0 where
  pub stood : Stood
  pub poly : List ℕ
  pub image : List ℕ
  pub count : ℕ
  pub product : List ℕ
  pub stages : List ℕ
  pub period : Option ℕ

-- all the lines
abbrev pub case_lines : (p n : ℕ) → CaseAnswers → List Line
case_lines p n A = field_line p n ∷ (stood_lines n A.stood A.poly A.image ++ (chained_lines n A.count A.product A.stages ++ perioded_lines A.period))

pub record CaseLines (p n : ℕ) (m cs : List ℕ) (a : ℕ) (A : CaseAnswers) : Type 0 where
  pub lines : SheetLines p n m cs a (case_lines p n A)
  pub stood_fits : StoodFits n A.stood A.poly A.image
  pub size_in_bounds : n + 1 ≤ length A.product
  pub stages_in : StagesIn A.count A.stages
  pub room : length (text (case_lines p n A)) ≤ sheet_room

-- no call refuses sound values
answered : {B : Type 0} (r : Result B Reason) (x : B) → answer_of r ≡ given x → IsOk r
answered (Ok y) x q = refl
answered (Err k) x q = absurd (refused_given _ x q)

stood_answered : (r : Result Stood Reason) (o : Outcome) → stood_of r ≡ given o → IsOk r
stood_answered (Ok s) o q = refl
stood_answered (Err k) o q = absurd (refused_given _ o q)

abbrev pub StandDone : (p n : ℕ) → List ℕ → List ℕ → ℕ → Result Stood Reason → List ℕ → List ℕ → Type 0
StandDone p n m cs a r poly image = StandCall p n m cs a (replicate coefficients 0, replicate widest 0) (stood_of r) (poly, image)

abbrev pub ChainDone : (p n : ℕ) → List ℕ → List ℕ → Result ℕ Reason → List ℕ → List ℕ → Type 0
ChainDone p n m cs r prod stages = ChainCall p n m cs (replicate coefficients 0, replicate (stage_room widest) 0) (answer_of r) (prod, stages)

pub stand_given : {p n a : ℕ} {m cs poly image : List ℕ} (r : Result Stood Reason) → Sound p n m → SoundRows p n cs → StandDone p n m cs a r poly image
    → (o : Outcome) × (stood_of r ≡ given o) × StandResult p n m cs a (replicate coefficients 0, replicate widest 0) o (poly, image)
stand_given {p} {n} {m = m} {cs} r D B F =
    F.result (sound_stand p n m cs _ _ D B (simp length-replicate (omega (arith, D.size))) (simp length-replicate D.size))

pub chain_given : {p n : ℕ} {m cs prod stages : List ℕ} (r : Result ℕ Reason) → Sound p n m → SoundRows p n cs → ChainDone p n m cs r prod stages
    → (k : ℕ) × (answer_of r ≡ given k) × ChainResult p n m cs (replicate coefficients 0, replicate (stage_room widest) 0) k (prod, stages)
chain_given {p} {n} {m = m} {cs} r D B G =
    G.result (sound_chain p n m cs _ _ D B (simp length-replicate (omega (arith, D.size))) (simp length-replicate (omega (arith, D.size))))

pub stand_ok : {p n a : ℕ} {m cs poly image : List ℕ} (r : Result Stood Reason) → Sound p n m → SoundRows p n cs → StandDone p n m cs a r poly image → IsOk r
stand_ok r D B F = let (o, so, S) = stand_given r D B F in stood_answered r o so

pub chain_ok : {p n : ℕ} {m cs prod stages : List ℕ} (r : Result ℕ Reason) → Sound p n m → SoundRows p n cs → ChainDone p n m cs r prod stages → IsOk r
chain_ok r D B G = let (k, sk, C) = chain_given r D B G in answered r k sk

pub period_ok : {p n : ℕ} {m : List ℕ} (r : Result (Option ℕ) Reason) → Sound p n m → PeriodCall p n m (answer_of r) → IsOk r
period_ok {p} {n} {m} r D H = let (t, st, T) = H.result (sound_period p n m D) in answered r t st

pub case_lines_lem : {p n a : ℕ} {m cs : List ℕ} {A : CaseAnswers} → Sound p n m → SoundRows p n cs → a < 2 ^ 32
    → StandDone p n m cs a (Ok A.stood) A.poly A.image → ChainDone p n m cs (Ok A.count) A.product A.stages
    → PeriodCall p n m (given A.period) → CaseLines p n m cs a A
case_lines_lem {p} {n} {a} {m} {cs} {A} D B h F G H =
    let (o, so, S) = stand_given (Ok A.stood) D B F in
    let (k, sk, K) = chain_given (Ok A.count) D B G in
    let (t, st, T) = H.result (sound_period p n m D) in
    let outcome : outcome_of A.stood ≡ o = cc in
    let number : k ≡ A.count = cc in
    let period : A.period ≡ t = cc in
    let x = stood_given A.stood D.prime outcome S in
    let C : ChainResult p n m cs (replicate coefficients 0, replicate (stage_room widest) 0) A.count (A.product, A.stages)
    = subst (λ k. ChainResult p n m cs (replicate coefficients 0, replicate (stage_room widest) 0) k (A.product, A.stages)) number K in
    let y = chained_given D.prime C in
    let L : SheetLines p n m cs a (case_lines p n A) = record {
      outcome = o;
      poly = S.poly;
      stand = S.stand;
      stages = C.stages;
      chain = C.chain;
      period = t;
      returns = T;
      lines = ap (λ l. field_line p n ∷ l) (ap₂ ◌++◌ x.0 (ap₂ ◌++◌ y.0 (ap (λ t. period_line t ∷ []) period) ∙ append_assoc (map stage_line C.stages) _ _));
    } in
    record { lines = L; stood_fits = x.1; size_in_bounds = y.1; stages_in = y.2; room = sheet_lines_room n m cs a _ D B (omega arith) L }
