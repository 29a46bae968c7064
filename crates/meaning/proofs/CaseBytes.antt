-- The bytes of a case: how many there are, and that they tell which case it is.
--   parts_length     the length of a case, by its A record, its rows and its candidates
--   case_length      by n and the number of candidates
--   case_longest     01: "The longest case has 12,682 bytes."
--   case_unique      two cases with the same bytes are the same
-- Assumes nothing.
use mathlib.Core.Path.{◌≡◌, refl, sym, ap, ap₂, subst₂, ◌∙◌}
use mathlib.Core.List.{List, [], ◌∷◌, ◌++◌, map}
use Rattle.std.specs.Prelude.{Option, None, Some}
use Prim.Native.Nat.{ℕ, suc, ◌+◌, ◌*◌, ◌≤◌}
use native.Mathlib.Nat.{mul-le-mul, zero-mul, suc-mul}
use native.Mathlib.Omega.{arith}
use lib.ListN.{length, get_or, take, drop, length-append}
use lib.Seq.{take_at, drop_at}
use Rattle.meaning.specs.Bounds.{most_candidates, widest}
use Rattle.meaning.specs.Case.{Record, record_bytes, flat, Case, allow_record, records, case_bytes, RowsOf, IsCase, longest_case}
use Rattle.meaning.specs.Case.Record.{field, row, candidate, end}
use Rattle.meaning.proofs.Flat.{flat_length}

-- f makes a record of a mark and entries
abbrev Marked : (List ℕ → Record) → ℕ → Type 0
Marked f b = (l : List ℕ) → record_bytes (f l) ≡ 255 ∷ b ∷ l

marked-flat_length : (f : List ℕ → Record) (b : ℕ) → Marked f b → (p n : ℕ) (xs : List (List ℕ)) → RowsOf p n xs → length (flat (map f xs)) ≡ length xs * (n + 2)
unfolding flat
marked-flat_length f b m p n [] r = sym (zero-mul (n + 2))
marked-flat_length f b m p n (x ∷ xs) r =
    let e : length (record_bytes (f x)) ≡ suc (suc n) = ap length (m x) ∙ ap (λ k. suc (suc k)) r.0.0 in
    let i = marked-flat_length f b m p n xs r.1 in
    length-append (record_bytes (f x)) (flat (map f xs)) ∙ (omega (arith, suc-mul (length xs) (n + 2)))

row_flat_length : (p n : ℕ) (xs : List (List ℕ)) → RowsOf p n xs → length (flat (map row xs)) ≡ length xs * (n + 2)
unfolding record_bytes
row_flat_length = marked-flat_length row 82 (λ l. refl)

candidate_flat_length : (p n : ℕ) (xs : List (List ℕ)) → RowsOf p n xs → length (flat (map candidate xs)) ≡ length xs * (n + 2)
unfolding record_bytes
candidate_flat_length = marked-flat_length candidate 67 (λ l. refl)

-- the A record has four bytes, where there is one
allow_most : (a : Option (ℕ × ℕ)) → length (flat (allow_record a)) ≤ 4
unfolding flat record_bytes
allow_most None = omega arith
allow_most (Some a) = omega arith

pub parts_length : (p n : ℕ) (a : Option (ℕ × ℕ)) (xs ys : List (List ℕ)) → RowsOf p n xs → RowsOf p n ys
    → length (flat (field p n ∷ (allow_record a ++ (map row xs ++ (map candidate ys ++ (end ∷ []))))))
    ≡ 4 + (length (flat (allow_record a)) + (length xs * (n + 2) + (length ys * (n + 2) + 2)))
unfolding flat record_bytes
parts_length p n a xs ys r t =
    let ends : List Record = map candidate ys ++ (end ∷ []) in
    let body : List Record = map row xs ++ ends in
    length-append (record_bytes (field p n)) (flat (allow_record a ++ body))
    ∙ ap (λ k. 4 + k)
    (flat_length (allow_record a) body
    ∙ ap (λ k. length (flat (allow_record a)) + k)
    (flat_length (map row xs) ends
    ∙ ap₂ ◌+◌ (row_flat_length p n xs r) (flat_length (map candidate ys) (end ∷ []) ∙ ap (λ k. k + 2) (candidate_flat_length p n ys t))))

case_length : {s : List ℕ} {c : Case} → IsCase s c
    → length s ≡ 4 + (length (flat (allow_record c.allowance)) + (c.n * (c.n + 2) + (length c.candidates * (c.n + 2) + 2)))
unfolding case_bytes records
case_length {s} {c} i =
    let w = i.well_formed in
    ap length i.whole ∙ parts_length c.p c.n c.allowance c.matrix c.candidates w.rows w.listed
    ∙ ap (λ j. 4 + (length (flat (allow_record c.allowance)) + (j * (c.n + 2) + (length c.candidates * (c.n + 2) + 2)))) w.square

pub case_longest : {s : List ℕ} {c : Case} → IsCase s c → length s ≤ longest_case
case_longest {s} {c} i =
    let w = i.well_formed in
    let wide : c.n + 2 ≤ widest + 2 = omega (arith, w.most) in
    let rows : c.n * (c.n + 2) ≤ widest * (widest + 2) = mul-le-mul w.most wide in
    let candidates : length c.candidates * (c.n + 2) ≤ most_candidates * (widest + 2) = mul-le-mul w.few wide in
    omega (arith, case_length i, allow_most c.allowance)

-- n entries in front of more are known by the bytes, and so is what follows
entries_same : (n : ℕ) (l k : List ℕ) {t u : List ℕ} → length l ≡ n → length k ≡ n → l ++ t ≡ k ++ u → (l ≡ k) × (t ≡ u)
entries_same n l k {t} {u} a b e =
    (sym (take_at l t n a) ∙ ap (take n) e ∙ take_at k u n b, sym (drop_at l t n a) ∙ ap (drop n) e ∙ drop_at k u n b)

-- so are the candidates, up to E
candidates_same : (p n : ℕ) (ys zs : List (List ℕ)) → RowsOf p n ys → RowsOf p n zs
    → flat (map candidate ys ++ (end ∷ [])) ≡ flat (map candidate zs ++ (end ∷ [])) → ys ≡ zs
unfolding flat record_bytes
candidates_same p n [] [] r v e = refl
candidates_same p n [] (z ∷ zs) r v e = let q : ◌≡◌ {A = ℕ} 69 67 = ap (λ l. get_or l 1 0) e in absurd (omega arith)
candidates_same p n (y ∷ ys) [] r v e = let q : ◌≡◌ {A = ℕ} 67 69 = ap (λ l. get_or l 1 0) e in absurd (omega arith)
candidates_same p n (y ∷ ys) (z ∷ zs) r v e =
    let s = entries_same n y z r.0.0 v.0.0 (ap (drop 2) e) in
    ap₂ ◌∷◌ s.0 (candidates_same p n ys zs r.1 v.1 s.1)

-- as many rows, and what follows them
rows_same : (p n : ℕ) (xs ws : List (List ℕ)) (t u : List Record) → RowsOf p n xs → RowsOf p n ws → length xs ≡ length ws
    → flat (map row xs ++ t) ≡ flat (map row ws ++ u) → (xs ≡ ws) × (flat t ≡ flat u)
unfolding flat record_bytes
rows_same p n [] [] t u r v k e = (refl, e)
rows_same p n [] (w ∷ ws) t u r v k e = absurd (omega arith)
rows_same p n (x ∷ xs) [] t u r v k e = absurd (omega arith)
rows_same p n (x ∷ xs) (w ∷ ws) t u r v k e =
    let s = entries_same n x w r.0.0 v.0.0 (ap (drop 2) e) in
    let i = rows_same p n xs ws t u r.1 v.1 (omega arith) s.1 in
    (ap₂ ◌∷◌ s.0 i.0, i.1)

-- an R record comes first where there are rows, and so the A record is known, or that there is none
rows_letter : (xs : List (List ℕ)) (t : List Record) → 1 ≤ length xs → get_or (flat (map row xs ++ t)) 1 0 ≡ 82
unfolding flat record_bytes
rows_letter [] t h = absurd (omega arith)
rows_letter (x ∷ xs) t h = refl

allow_same : (a b : Option (ℕ × ℕ)) (t u : List Record) → get_or (flat t) 1 0 ≡ 82 → get_or (flat u) 1 0 ≡ 82
    → flat (allow_record a ++ t) ≡ flat (allow_record b ++ u) → (a ≡ b) × (flat t ≡ flat u)
unfolding flat record_bytes
allow_same None None t u h k e = (refl, e)
allow_same None (Some b) t u h k e = let q : get_or (flat t) 1 0 ≡ 65 = ap (λ l. get_or l 1 0) e in absurd (omega arith)
allow_same (Some a) None t u h k e = let q : 65 ≡ get_or (flat u) 1 0 = ap (λ l. get_or l 1 0) e in absurd (omega arith)
allow_same (Some a) (Some b) t u h k e = (ap (λ l. Some (get_or l 2 0, get_or l 3 0)) e, ap (drop 4) e)

pub case_unique : {s : List ℕ} {c d : Case} → IsCase s c → IsCase s d → c ≡ d
unfolding case_bytes records flat record_bytes
case_unique {s} {c} {d} i j =
    let v = i.well_formed in
    let w = j.well_formed in
    let e : case_bytes c ≡ case_bytes d = sym i.whole ∙ j.whole in
    let p : c.p ≡ d.p = ap (λ l. get_or l 2 0) e in
    let n : c.n ≡ d.n = ap (λ l. get_or l 3 0) e in
    let A = allow_same c.allowance d.allowance _ _ (rows_letter c.matrix _ (omega (arith, v.square, v.least)))
    (rows_letter d.matrix _ (omega (arith, w.square, w.least))) (ap (drop 4) e) in
    let R = rows_same c.p c.n c.matrix d.matrix _ _ v.rows (subst₂ (λ p n. RowsOf p n d.matrix) (sym p) (sym n) w.rows)
    (omega (arith, v.square, w.square)) A.1 in
    let C = candidates_same c.p c.n c.candidates d.candidates v.listed
    (subst₂ (λ p n. RowsOf p n d.candidates) (sym p) (sym n) w.listed) R.1 in
    λ k. record { p = p k; n = n k; allowance = A.0 k; matrix = R.0 k; candidates = C k }
