-- The values that records come to, one after another.
--   noted_all_append   records behind records
--   gathered_more     one more record at the end is one more `noted`
--   gathered_case     the records of a case come to the case
--   Starts xs x       a well-formed case has the records xs, and then x
--   starts_room       so there is a place for x behind what xs come to
-- Assumes nothing.
use mathlib.Core.Path.{◌≡◌, refl, sym, ap, subst, ◌∙◌}
use mathlib.Core.List.{List, [], ◌∷◌, ◌++◌, map, flatten, append_assoc, append-nil}
use Rattle.std.specs.Prelude.{Option, None, Some}
use Prim.Native.Nat.{ℕ, suc, ◌*◌, ◌<◌, ◌≤◌}
use native.Mathlib.Nat.{mul-le-mul, suc-mul}
use native.Mathlib.Omega.{arith}
use lib.ListN.{length, length-append}
use Rattle.meaning.specs.Case.{Record, Case, allow_record, records, RowsOf, WellFormed}
use Rattle.meaning.specs.Case.Record.{field, allow, row, candidate, end}
use Rattle.meaning.proofs.Case.{flatten_length, rows_of_split}
use Rattle.meaning.specs.Bounds.{widest}
use Rattle.casefile.specs.Gathered.{no_values, noted, noted_all, gathered, Behind, RoomFor}

noted_all_append : (g : Case) (xs ys : List Record) → noted_all g (xs ++ ys) ≡ noted_all (noted_all g xs) ys
unfolding noted_all
noted_all_append g [] ys = refl
noted_all_append g (x ∷ xs) ys = noted_all_append (noted g x) xs ys

pub gathered_more : (xs : List Record) (x : Record) → gathered (xs ++ (x ∷ [])) ≡ noted (gathered xs) x
unfolding noted_all
gathered_more xs x = noted_all_append no_values xs (x ∷ [])

-- all rows, all candidates
noted_all_rows : (p n : ℕ) (a : Option (ℕ × ℕ)) (ms cs ls : List (List ℕ)) (xs : List Record)
    → noted_all (record { p = p; n = n; allowance = a; matrix = ms; candidates = cs }) (map row ls ++ xs)
    ≡ noted_all (record { p = p; n = n; allowance = a; matrix = ms ++ ls; candidates = cs }) xs
unfolding noted_all
noted_all_rows p n a ms cs [] xs = ap (λ m. noted_all (record { p = p; n = n; allowance = a; matrix = m; candidates = cs }) xs) (sym (append-nil ms))
noted_all_rows p n a ms cs (l ∷ ls) xs =
    noted_all_rows p n a (ms ++ (l ∷ [])) cs ls xs
    ∙ ap (λ m. noted_all (record { p = p; n = n; allowance = a; matrix = m; candidates = cs }) xs) (append_assoc ms (l ∷ []) ls)

noted_all_candidates : (p n : ℕ) (a : Option (ℕ × ℕ)) (ms cs ls : List (List ℕ)) (xs : List Record)
    → noted_all (record { p = p; n = n; allowance = a; matrix = ms; candidates = cs }) (map candidate ls ++ xs)
    ≡ noted_all (record { p = p; n = n; allowance = a; matrix = ms; candidates = cs ++ ls }) xs
unfolding noted_all
noted_all_candidates p n a ms cs [] xs = ap (λ m. noted_all (record { p = p; n = n; allowance = a; matrix = ms; candidates = m }) xs) (sym (append-nil cs))
noted_all_candidates p n a ms cs (l ∷ ls) xs =
    noted_all_candidates p n a ms (cs ++ (l ∷ [])) ls xs
    ∙ ap (λ m. noted_all (record { p = p; n = n; allowance = a; matrix = ms; candidates = m }) xs) (append_assoc cs (l ∷ []) ls)

noted_all-tail : (p n : ℕ) (a : Option (ℕ × ℕ)) (ms cs : List (List ℕ))
    → noted_all (record { p = p; n = n; allowance = a; matrix = []; candidates = [] }) (map row ms ++ (map candidate cs ++ (end ∷ [])))
    ≡ record { p = p; n = n; allowance = a; matrix = ms; candidates = cs }
unfolding noted_all
noted_all-tail p n a ms cs = noted_all_rows p n a [] [] ms (map candidate cs ++ (end ∷ [])) ∙ noted_all_candidates p n a ms [] cs (end ∷ [])

gathered_parts : (p n : ℕ) (a : Option (ℕ × ℕ)) (ms cs : List (List ℕ))
    → gathered (field p n ∷ (allow_record a ++ (map row ms ++ (map candidate cs ++ (end ∷ [])))))
    ≡ record { p = p; n = n; allowance = a; matrix = ms; candidates = cs }
unfolding noted_all
gathered_parts p n None ms cs = noted_all-tail p n None ms cs
gathered_parts p n (Some a) ms cs = noted_all-tail p n (Some a) ms cs

pub gathered_case : (c : Case) → gathered (records c) ≡ c
unfolding records
gathered_case c = gathered_parts c.p c.n c.allowance c.matrix c.candidates

-- what is there stays, and more comes behind it
noted_all_matrix : (g : Case) (xs : List Record) → (ls : List (List ℕ)) × ((noted_all g xs).matrix ≡ g.matrix ++ ls)
unfolding noted_all
noted_all_matrix g [] = ([], sym (append-nil g.matrix))
noted_all_matrix g (field p n ∷ xs) = noted_all_matrix (noted g (field p n)) xs
noted_all_matrix g (allow high low ∷ xs) = noted_all_matrix (noted g (allow high low)) xs
noted_all_matrix g (row l ∷ xs) = let i = noted_all_matrix (noted g (row l)) xs in (l ∷ i.0, i.1 ∙ append_assoc g.matrix (l ∷ []) i.0)
noted_all_matrix g (candidate l ∷ xs) = noted_all_matrix (noted g (candidate l)) xs
noted_all_matrix g (end ∷ xs) = noted_all_matrix g xs

noted_all_listed : (g : Case) (xs : List Record) → (ls : List (List ℕ)) × ((noted_all g xs).candidates ≡ g.candidates ++ ls)
unfolding noted_all
noted_all_listed g [] = ([], sym (append-nil g.candidates))
noted_all_listed g (field p n ∷ xs) = noted_all_listed (noted g (field p n)) xs
noted_all_listed g (allow high low ∷ xs) = noted_all_listed (noted g (allow high low)) xs
noted_all_listed g (row l ∷ xs) = noted_all_listed (noted g (row l)) xs
noted_all_listed g (candidate l ∷ xs) = let i = noted_all_listed (noted g (candidate l)) xs in (l ∷ i.0, i.1 ∙ append_assoc g.candidates (l ∷ []) i.0)
noted_all_listed g (end ∷ xs) = noted_all_listed g xs

-- a row l of a case, behind the rows xs
rows_behind : {c : Case} {most : ℕ} {whole : List (List ℕ)} {l : List ℕ} (xs : List (List ℕ)) → WellFormed c → RowsOf c.p c.n whole
    → (ys : List (List ℕ)) × (whole ≡ (xs ++ (l ∷ [])) ++ ys) → length whole ≤ most → Behind (length xs) most (most * widest) (flatten xs) l
rows_behind {c} {most} {l = l} xs w r (ys, e) few =
    let these = rows_of_split c.p c.n xs (l ∷ []) (rows_of_split c.p c.n (xs ++ (l ∷ [])) ys (subst (RowsOf c.p c.n) e r)).0 in
    let size = flatten_length c.p c.n xs these.0 in
    let long : length l ≡ c.n = these.1.0.0 in
    let fewer : length xs < most = omega (arith, ap length e, length-append (xs ++ (l ∷ [])) ys, length-append xs (l ∷ [])) in
    let most_bytes : suc (length xs) * c.n ≤ most * widest = mul-le-mul fewer w.most in
    record { fewer = fewer; place = size ∙ ap (λ k. length xs * k) (sym long); fits = omega (arith, suc-mul (length xs) c.n) }

pub record Starts (xs : List Record) (x : Record) : Type 0 where
  pub case : Case
  pub well_formed : WellFormed case
  pub to_come : List Record
  pub listed : records case ≡ xs ++ (x ∷ to_come)

starts_noted : {xs : List Record} {x : Record} (f : Starts xs x) → f.case ≡ noted_all (noted (gathered xs) x) f.to_come
unfolding noted_all
starts_noted {xs} {x} f = sym (gathered_case f.case) ∙ ap gathered f.listed ∙ noted_all_append no_values xs (x ∷ f.to_come)

pub starts_room : (xs : List Record) (x : Record) → Starts xs x → RoomFor (gathered xs) x
starts_room xs (field p n) f = tt
starts_room xs (allow high low) f = tt
starts_room xs (row l) f =
    let w = f.well_formed in
    let g : Case = gathered xs in
    let i = noted_all_matrix (noted g (row l)) f.to_come in
    rows_behind g.matrix w w.rows (i.0, ap (λ (c : Case). c.matrix) (starts_noted f) ∙ i.1) (omega (arith, w.square, w.most))
starts_room xs (candidate l) f =
    let w = f.well_formed in
    let g : Case = gathered xs in
    let i = noted_all_listed (noted g (candidate l)) f.to_come in
    rows_behind g.candidates w w.listed (i.0, ap (λ (c : Case). c.candidates) (starts_noted f) ∙ i.1) w.few
starts_room xs end f = tt
