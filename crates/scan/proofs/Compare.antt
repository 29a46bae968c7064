-- Records are known by their bytes.
--   takes_compare    of two lists of records from one state on, whose bytes begin alike, one is a front of the other
--   over_last        behind records that lead to Over no more come
-- Assumes nothing.
use mathlib.Core.Path.{◌≡◌, refl, sym, ap, ap₂, subst, ◌∙◌}
use mathlib.Core.Logic.{◌⊎◌, inl, inr, ⊎_elim}
use mathlib.Core.List.{List, [], ◌∷◌, ◌++◌, append_assoc, append_cancel_left}
use Prim.Native.Nat.{ℕ}
use lib.ListN.{get_or, take, drop}
use lib.Seq.{take_at}
use lib.Dec.{eqb}
use Rattle.meaning.specs.Case.{Record, record_bytes, flat}
use Rattle.meaning.specs.Case.Record.{field, allow, row, candidate, end}
use Rattle.scan.specs.declared.Head.{Head}
use Rattle.scan.specs.declared.State.{State}
use Rattle.scan.specs.declared.State.TheVariants.{Start, Opening, Modulus, Size, Body, Letter, Entries, Over, Dead}
use Rattle.algebra.specs.Field.{pick}
use Rattle.scan.specs.Machine.{run, Viable}
use Rattle.scan.proofs.Records.{Fits, Takes, fits_viable, fits_comes, takes_split, takes_end, over_takes}
use Rattle.scan.proofs.Records.Fits.{fits_field, fits_allow, fits_row, fits_candidate, fits_end}
use Rattle.scan.proofs.Records.Takes.{stays, takes}

-- the number of entries of an R or C record in a state
abbrev width : State → ℕ
width Start = 0
width Opening = 0
width Modulus = 0
width (Size p) = 0
width (Body h) = h.n
width (Letter h) = 0
width (Entries h bound left) = 0
width (Over h) = 0
width Dead = 0

-- the record that bytes begin with, by its letter, where R and C have n entries
abbrev known : ℕ → List ℕ → Record
known n t =
    pick (eqb (get_or t 1 0) 70) (field (get_or t 2 0) (get_or t 3 0))
    (pick (eqb (get_or t 1 0) 65) (allow (get_or t 2 0) (get_or t 3 0))
    (pick (eqb (get_or t 1 0) 82) (row (take n (drop 2 t))) (pick (eqb (get_or t 1 0) 67) (candidate (take n (drop 2 t))) end)))

fits-known : {q z : State} {x : Record} → Fits q x z → (t : List ℕ) → known (width q) (record_bytes x ++ t) ≡ x
unfolding record_bytes
fits-known (fits_field P h k) t = refl
fits-known (fits_allow f h k) t = refl
fits-known (fits_row {l = l} h e s) t = ap row (take_at l t _ e)
fits-known (fits_candidate {l = l} h k e s) t = ap candidate (take_at l t _ e)
fits-known (fits_end h) t = refl

fits_same : {q y z : State} {x w : Record} (t u : List ℕ) → Viable q → Fits q x y → Fits q w z → record_bytes x ++ t ≡ record_bytes w ++ u → (x ≡ w) × (y ≡ z)
fits_same {q} {x = x} {w = w} t u g f h e =
    let same : x ≡ w = sym (fits-known f t) ∙ ap (known (width q)) e ∙ fits-known h u in
    (same, sym (fits_comes f g) ∙ ap (λ r. run q (record_bytes r)) same ∙ fits_comes h g)

-- of two lists of records from one state on, whose bytes begin alike, one is a front of the other
pub takes_compare : {q y z : State} {xs ys : List Record} (t u : List ℕ) → Viable q → Takes q xs y → Takes q ys z → flat xs ++ t ≡ flat ys ++ u
    → ((ws : List Record) × (ys ≡ xs ++ ws)) ⊎ ((ws : List Record) × (xs ≡ ys ++ ws))
unfolding flat
takes_compare {ys = ys} t u g stays b e = inl (ys, refl)
takes_compare {xs = xs} t u g (takes f a) stays e = inr (xs, refl)
takes_compare {z = z} t u g (takes {x = x} {xs = xs} f a) (takes {x = w} {xs = ys} h b) e =
    let i : record_bytes x ++ (flat xs ++ t) ≡ record_bytes w ++ (flat ys ++ u) =
    sym (append_assoc (record_bytes x) (flat xs) t) ∙ e ∙ append_assoc (record_bytes w) (flat ys) u in
    let s = fits_same (flat xs ++ t) (flat ys ++ u) g f h i in
    ⊎_elim (λ l. inl (l.0, ap₂ ◌∷◌ (sym s.0) l.1)) (λ l. inr (l.0, ap₂ ◌∷◌ s.0 l.1))
    (takes_compare t u (fits_viable f g) a (subst (λ p. Takes p ys z) (sym s.1) b)
    (append_cancel_left (record_bytes x) _ _ (i ∙ ap (λ r. record_bytes r ++ (flat ys ++ u)) (sym s.0))))

-- behind records that lead to Over no more come
pub over_last : {q z : State} {h : Head} (xs ws : List Record) → Takes q xs (Over h) → Takes q (xs ++ ws) z → Viable q → ws ≡ []
over_last {z = z} xs ws a b g =
    let r = takes_split xs b in
    over_takes (subst (λ p. Takes p ws z) (sym (takes_end r.1 g) ∙ takes_end a g) r.2)
