-- What a sheet promises, of any bytes that are the sheet of a file, however they are read as lines.
--   case_refused_by_none   a well-formed case is refused by none of the calls that its sheet tells of, where the buffers are long enough
--   sheet_lines_found       the functions of Run give the lines of a sheet
--   case_sheet             and the sheet of a case
--   sheet_found            a file that is a case or has a place has a sheet
--   sheet_unique           a file has one sheet
--   sheet_room_lem             a file of fewer than 2^64 bytes has a sheet that fits a buffer of `sheet_room` bytes
--   sheet_lines            however the bytes of a sheet are read as lines, these are its lines
--   sheet_minpoly          what stands behind MINPOLY is the minimal polynomial of the file's matrix
--   sheet_divisor          what stands behind DIVISOR divides it and is another one, as the WITNESS line shows
--   sheet_refused          what stands behind REFUSED is the place, and the file is no case
-- Assumes nothing.
use mathlib.Core.Path.{◌≡◌, refl, sym, ap, subst, ◌∙◌}
use mathlib.Core.Bool.{Bool, true, not, ◌&&◌, and-eq-true_iff}
use mathlib.Core.Logic.{◌⊎◌, inl, inr, ⊎_elim}
use mathlib.Core.List.{List, [], ◌∷◌, ◌++◌, map}
use Rattle.std.specs.Prelude.{Option, None, Some}
use Prim.Native.Nat.{ℕ, suc, ◌+◌, ◌*◌, ◌^◌, ◌<◌, ◌≤◌}
use Prim.Native.String.{String}
use native.Mathlib.Omega.{arith}
use lib.ListN.{length}
use lib.Dec.{T, T_not}
use lib.Text.{eqt, eqt_refl}
use Rattle.algebra.specs.Field.{Prime}
use Rattle.algebra.specs.Row.{S}
use Rattle.algebra.specs.Poly.{Poly, coef, act}
use Rattle.algebra.specs.Orders.{WithDegree}
use Rattle.algebra.proofs.Act.{act-coef}
use Rattle.meaning.specs.Bytes.{times, e, bytes}
use Rattle.meaning.specs.Stand.{Standing, proved, short, Outcome}
use Rattle.meaning.specs.Case.{Case, Halves, WellFormed, IsCase, Place, default_allowance, allowance_in, matrix_bytes, candidate_bytes, allowance_of}
use Rattle.meaning.specs.Refusal.{stand_refusal, chain_refusal, period_refusal}
use Rattle.meaning.specs.Line.{Line, text}
use Rattle.meaning.specs.Print.{Wordy}
use Rattle.meaning.specs.Sheet.{field_line, stand_lines, stage_line, chain_line, period_line, refused_line, SheetLines, IsSheet, sheet, refused, sheet_room}
use Rattle.meaning.proofs.Bytes.{e_below}
use Rattle.meaning.proofs.Refusal.{is_prime_prime, sound_stand, sound_chain, sound_period}
use Rattle.meaning.proofs.Case.{case_sound, case_sound_rows}
use Rattle.meaning.proofs.SheetRoom.{sheet_lines_room, refused_room}
use Rattle.meaning.proofs.Print.{text_injective}
use Rattle.meaning.proofs.Sheet.{sheet_lines_only, sheet_lines_wordy, refused_wordy}
use Rattle.meaning.proofs.CaseBytes.{case_unique}
use Rattle.meaning.proofs.Place.{place_unique}
use Rattle.promises.specs.Run.{stand_of, stand_poly, chain_of, period_of, lines_of}
use Rattle.promises.specs.Sheet.{LinesOf, Has, MinimalIn, DivisorIn}
use Rattle.promises.proofs.Found.{stand_found, chain_found, period_found, minimal_found}
use Rattle.promises.proofs.Demand2.{polynomial_divides, proved_minimal, short_witness}

case_prime : {s : List ℕ} {c : Case} → IsCase s c → Prime c.p
case_prime {c} i = (is_prime_prime c.p i.well_formed.prime).0

pub case_refused_by_none : (c : Case) → WellFormed c → (poly image product stages : List ℕ) → c.n + 1 ≤ length poly → c.n ≤ length image → c.n + 1 ≤ length product
    → 2 * c.n ≤ length stages
    → (stand_refusal c.p c.n (matrix_bytes c) (candidate_bytes c) poly image ≡ None)
    × (chain_refusal c.p c.n (matrix_bytes c) (candidate_bytes c) product stages ≡ None)
    × (period_refusal c.p c.n (matrix_bytes c) ≡ None)
case_refused_by_none c W poly image product stages h i j k =
    let A = case_sound c W in
    let B = case_sound_rows c W in (
      sound_stand c.p c.n (matrix_bytes c) (candidate_bytes c) poly image A B h i,
      sound_chain c.p c.n (matrix_bytes c) (candidate_bytes c) product stages A B j k,
      sound_period c.p c.n (matrix_bytes c) A,
    )

sheet_lines_found : {p : ℕ} → Prime p → (n : ℕ) (m cs : List ℕ) (a : ℕ) → SheetLines p n m cs a (lines_of p n m cs a)
unfolding lines_of
sheet_lines_found {p} P n m cs a =
    record {
      outcome = stand_of p n m cs a;
      poly = stand_poly p n m cs a;
      stand = stand_found P n m cs a;
      stages = chain_of p n m cs;
      chain = chain_found P n m cs;
      period = period_of p n m;
      returns = period_found p n m;
      lines = refl;
    }

-- the sheet of a case, by the functions of Run
pub case_sheet : {s : List ℕ} (c : Case) → IsCase s c → IsSheet s (text (lines_of c.p c.n (matrix_bytes c) (candidate_bytes c) (allowance_of c)))
case_sheet c i = sheet c _ i (sheet_lines_found (case_prime i) c.n (matrix_bytes c) (candidate_bytes c) (allowance_of c)) refl

pub sheet_found : (s : List ℕ) → ((c : Case) × IsCase s c) ⊎ ((k : ℕ) × ((c : Case) → ¬ IsCase s c) × Place s k) → (t : List ℕ) × IsSheet s t
sheet_found s (inl (c, i)) = (_, case_sheet c i)
sheet_found s (inr (k, n, P)) = (text (refused_line k ∷ []), refused k n P refl)

pub sheet_unique : {s t u : List ℕ} → IsSheet s t → IsSheet s u → t ≡ u
sheet_unique (sheet c xs i L q) (sheet d ys j M r) =
    let same = sheet_lines_only (case_prime i) c.n (matrix_bytes c) (candidate_bytes c) (allowance_of c) xs ys L (subst (λ b. LinesOf b ys) (case_unique j i) M) in
    q ∙ ap text same ∙ sym r
sheet_unique (sheet c xs i L q) (refused k n P r) = absurd (n c i)
sheet_unique (refused k n P q) (sheet d ys j M r) = absurd (n d j)
sheet_unique {s} (refused j n P q) (refused k o Q r) = q ∙ ap (λ k. text (refused_line k ∷ [])) (place_unique s j k P Q) ∙ sym r

allowance_bound : (a : Option (ℕ × ℕ)) → Halves a → allowance_in a ≤ 16383
unfolding default_allowance
allowance_bound None h = omega arith
allowance_bound (Some a) h = omega (arith, h.0, h.1)

pub sheet_room_lem : {s t : List ℕ} → IsSheet s t → length s < 2 ^ 64 → length t ≤ sheet_room
sheet_room_lem (sheet c xs i L q) h =
    let W = i.well_formed in
    let bound = allowance_bound c.allowance W.halves in
    rw q (sheet_lines_room c.n (matrix_bytes c) (candidate_bytes c) (allowance_of c) xs (case_sound c W) (case_sound_rows c W) (omega arith) L)
sheet_room_lem (refused k n P q) h = rw q (refused_room k (omega (arith, P.within)))

-- lines with other words are passed over
abbrev other_word : String → String → Bool
other_word v w = not (eqt v w)

other_word_lem : (v w : String) → other_word v w ≡ true → ¬ (v ≡ w)
other_word_lem v w h q = T_not (eqt v w) (subst T (sym h) tt) (subst (λ x. T (eqt v x)) q (eqt_refl v))

abbrev others : List Line → String → Bool
others [] w = true
others (x ∷ xs) w = other_word x.word w && others xs w

has_past : (xs ys : List Line) (w : String) (l : List ℕ) → others xs w ≡ true → Has (xs ++ ys) w l → Has ys w l
has_past [] ys w l q h = h
has_past (x ∷ xs) ys w l q (inl h) = absurd (other_word_lem x.word w ((and-eq-true_iff (other_word x.word w) (others xs w)).0 q).0 h.0)
has_past (x ∷ xs) ys w l q (inr h) = has_past xs ys w l ((and-eq-true_iff (other_word x.word w) (others xs w)).0 q).1 h

stages_past : {p : ℕ} (w : String) (l : List ℕ) → other_word "STAGE" w ≡ true → (st : List (WithDegree p)) (ys : List Line) → Has (map stage_line st ++ ys) w l → Has ys w l
stages_past w l q [] ys h = h
stages_past w l q (s ∷ st) ys (inl h) = absurd (other_word_lem "STAGE" w q h.0)
stages_past w l q (s ∷ st) ys (inr h) = stages_past w l q st ys h

-- behind the lines of the stand there are STAGE, CHAIN and PERIOD lines only
abbrev behind : {p : ℕ} → ℕ → List (WithDegree p) → Option ℕ → List Line
behind n st o = map stage_line st ++ (chain_line n st ∷ period_line o ∷ [])

behind_not : {p : ℕ} (w : String) (l : List ℕ) → other_word "STAGE" w ≡ true → other_word "CHAIN" w ≡ true → other_word "PERIOD" w ≡ true → other_word "PERIOD none" w ≡ true
    → (n : ℕ) (st : List (WithDegree p)) (o : Option ℕ) → ¬ Has (behind n st o) w l
behind_not w l s c y z n st o h = last o (stages_past w l s st (chain_line n st ∷ period_line o ∷ []) h)
  where
    last : (o : Option ℕ) → ¬ Has (chain_line n st ∷ period_line o ∷ []) w l
    last o (inl h) = other_word_lem "CHAIN" w c h.0
    last None (inr (inl h)) = other_word_lem "PERIOD none" w z h.0
    last (Some t) (inr (inl h)) = other_word_lem "PERIOD" w y h.0
    last None (inr (inr x)) = elim x [ ]
    last (Some t) (inr (inr x)) = elim x [ ]

-- so a MINPOLY line is that of a proved stand, a DIVISOR line that of a short one, with its WITNESS line behind it, and a REFUSED line that of no case
abbrev printed_lines : {p : ℕ} → ℕ → (S p → S p) → Standing → Outcome → Poly p → List (WithDegree p) → Option ℕ → List Line
printed_lines {p} n X s r f st o = field_line p n ∷ (stand_lines n X s r f ++ behind n st o)

stand_past : {p : ℕ} (n : ℕ) (X : S p → S p) (s : Standing) (r : Outcome) (f : Poly p) (st : List (WithDegree p)) (o : Option ℕ) (w : String) (l : List ℕ)
    → others (field_line p n ∷ stand_lines n X s r f) w ≡ true → Has (printed_lines n X s r f st o) w l → Has (behind n st o) w l
stand_past {p} n X s r f st o w l q h = has_past (field_line p n ∷ stand_lines n X s r f) (behind n st o) w l q h

minpoly_proved : {p : ℕ} (n : ℕ) (X : S p → S p) (s : Standing) (r : Outcome) (f : Poly p) (st : List (WithDegree p)) (o : Option ℕ) (l : List ℕ)
    → Has (printed_lines n X s r f st o) "MINPOLY" l → (s ≡ proved) × (l ≡ bytes (suc r.degree) (coef f))
minpoly_proved n X proved r f st o l (inl h) = absurd (other_word_lem "FIELD" "MINPOLY" refl h.0)
minpoly_proved n X proved r f st o l (inr (inl h)) = absurd (other_word_lem "STAND proved" "MINPOLY" refl h.0)
minpoly_proved n X proved r f st o l (inr (inr (inl h))) = (refl, sym h.1)
minpoly_proved n X proved r f st o l (inr (inr (inr (inl h)))) = absurd (other_word_lem "WITNESS none" "MINPOLY" refl h.0)
minpoly_proved n X proved r f st o l (inr (inr (inr (inr h)))) = absurd (behind_not "MINPOLY" l refl refl refl refl n st o h)
minpoly_proved n X short r f st o l h = absurd (behind_not "MINPOLY" l refl refl refl refl n st o (stand_past n X short r f st o "MINPOLY" l refl h))

divisor_short : {p : ℕ} (n : ℕ) (X : S p → S p) (s : Standing) (r : Outcome) (f : Poly p) (st : List (WithDegree p)) (o : Option ℕ) (l : List ℕ)
    → Has (printed_lines n X s r f st o) "DIVISOR" l
    → (s ≡ short) × (l ≡ bytes (suc r.degree) (coef f)) × Has (printed_lines n X s r f st o) "WITNESS" (r.witness ∷ bytes n (act X f (e r.witness)))
divisor_short n X short r f st o l (inl h) = absurd (other_word_lem "FIELD" "DIVISOR" refl h.0)
divisor_short n X short r f st o l (inr (inl h)) = absurd (other_word_lem "STAND short" "DIVISOR" refl h.0)
divisor_short n X short r f st o l (inr (inr (inl h))) = (refl, sym h.1, inr (inr (inr (inl (refl, refl)))))
divisor_short n X short r f st o l (inr (inr (inr (inl h)))) = absurd (other_word_lem "WITNESS" "DIVISOR" refl h.0)
divisor_short n X short r f st o l (inr (inr (inr (inr h)))) = absurd (behind_not "DIVISOR" l refl refl refl refl n st o h)
divisor_short n X proved r f st o l h = absurd (behind_not "DIVISOR" l refl refl refl refl n st o (stand_past n X proved r f st o "DIVISOR" l refl h))

refused_nowhere : {p : ℕ} (n : ℕ) (X : S p → S p) (s : Standing) (r : Outcome) (f : Poly p) (st : List (WithDegree p)) (o : Option ℕ) (l : List ℕ)
    → ¬ Has (printed_lines n X s r f st o) "REFUSED" l
refused_nowhere n X proved r f st o l h = behind_not "REFUSED" l refl refl refl refl n st o (stand_past n X proved r f st o "REFUSED" l refl h)
refused_nowhere n X short r f st o l h = behind_not "REFUSED" l refl refl refl refl n st o (stand_past n X short r f st o "REFUSED" l refl h)

pub sheet_lines : {s t : List ℕ} → IsSheet s t → (xs : List Line) → Wordy xs → t ≡ text xs
    → ((c : Case) × IsCase s c × LinesOf c xs) ⊎ ((k : ℕ) × ((c : Case) → ¬ IsCase s c) × Place s k × (xs ≡ refused_line k ∷ []))
sheet_lines (sheet c ys i L q) xs W r = inl (c, i, subst (LinesOf c) (text_injective ys xs (sheet_lines_wordy L) W (sym q ∙ r)) L)
sheet_lines (refused k n P q) xs W r = inr (k, n, P, text_injective xs (refused_line k ∷ []) W (refused_wordy k) (sym r ∙ q))

refused_alone : (xs : List Line) (k : ℕ) → xs ≡ refused_line k ∷ [] → (w : String) (l : List ℕ) → Has xs w l → ("REFUSED" ≡ w) × (k ∷ [] ≡ l)
refused_alone xs k q w l h = alone (subst (λ ys. Has ys w l) q h)
  where
    alone : Has (refused_line k ∷ []) w l → ("REFUSED" ≡ w) × (k ∷ [] ≡ l)
    alone (inl a) = a
    alone (inr x) = elim x [ ]

minimal_in : {p n : ℕ} {m cs : List ℕ} {a : ℕ} {xs : List Line} → SheetLines p n m cs a xs → (l : List ℕ) → Has xs "MINPOLY" l → MinimalIn p n m l
minimal_in {p} {n} {m} {cs} {a} L l h =
    let r = L.outcome in
    let (standing, listed) = minpoly_proved n (times p n m) r.standing r L.poly L.stages L.period l (subst (λ ys. Has ys "MINPOLY" l) L.lines h) in
    record { degree = r.degree; poly = L.poly; minimal = proved_minimal L.stand standing; listed = listed }

divisor_in : {p n : ℕ} {m cs : List ℕ} {a : ℕ} {xs : List Line} → Prime p → SheetLines p n m cs a xs → (l : List ℕ) → Has xs "DIVISOR" l → DivisorIn p n m xs l
divisor_in {p} {n} {m} {cs} {a} P L l h =
    let r = L.outcome in
    let f = L.poly in
    let X = times p n m in
    let (standing, listed, image) = divisor_short n X r.standing r f L.stages L.period l (subst (λ ys. Has ys "DIVISOR" l) L.lines h) in
    let (d, g, M) = minimal_found P n m in
    let w = short_witness L.stand standing in
    record {
      degree = r.degree;
      poly = f;
      monic = L.stand.common.monic;
      listed = listed;
      whole_degree = d;
      whole = g;
      minimal = M;
      divides = polynomial_divides L.stand g M.member;
      other = λ q. w.unsent (act-coef X f g q (e r.witness) ∙ M.member (e r.witness) (e_below n r.witness w.from w.to));
      witness = r.witness;
      first = w;
      image = subst (λ ys. Has ys "WITNESS" (r.witness ∷ bytes n (act X f (e r.witness)))) (sym L.lines) image;
    }

pub sheet_minpoly : {s t : List ℕ} → IsSheet s t → (xs : List Line) → Wordy xs → t ≡ text xs → (l : List ℕ) → Has xs "MINPOLY" l
    → (c : Case) × IsCase s c × MinimalIn c.p c.n (matrix_bytes c) l
sheet_minpoly S xs W q l h =
    ⊎_elim (λ a. (a.0, a.1, minimal_in a.2 l h)) (λ b. absurd (other_word_lem "REFUSED" "MINPOLY" refl (refused_alone xs b.0 b.3 "MINPOLY" l h).0)) (sheet_lines S xs W q)

pub sheet_divisor : {s t : List ℕ} → IsSheet s t → (xs : List Line) → Wordy xs → t ≡ text xs → (l : List ℕ) → Has xs "DIVISOR" l
    → (c : Case) × IsCase s c × DivisorIn c.p c.n (matrix_bytes c) xs l
sheet_divisor S xs W q l h =
    ⊎_elim (λ a. (a.0, a.1, divisor_in (case_prime a.1) a.2 l h)) (λ b. absurd (other_word_lem "REFUSED" "DIVISOR" refl (refused_alone xs b.0 b.3 "DIVISOR" l h).0)) (sheet_lines S xs W q)

pub sheet_refused : {s t : List ℕ} → IsSheet s t → (xs : List Line) → Wordy xs → t ≡ text xs → (l : List ℕ) → Has xs "REFUSED" l
    → (k : ℕ) × (l ≡ k ∷ []) × ((c : Case) → ¬ IsCase s c) × Place s k
sheet_refused S xs W q l h =
    ⊎_elim
    (λ a. let L = a.2 in absurd (refused_nowhere a.0.n _ L.outcome.standing L.outcome L.poly L.stages L.period l (subst (λ ys. Has ys "REFUSED" l) L.lines h)))
    (λ b. (b.0, sym (refused_alone xs b.0 b.3 "REFUSED" l h).1, b.1, b.2))
    (sheet_lines S xs W q)
