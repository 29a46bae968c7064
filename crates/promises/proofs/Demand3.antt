-- Demand 3, its three sentences: a longer list or a larger allowance, another sequence of the rows, the adding of reported unit rows.
--   more_taken, more_divides   with more rows behind, a larger allowance, or both: no fewer rows are taken, and the polynomial divides the new one
--   more_keeps       a proved one stays, with its mark
--   weight p n m b   the degree of the order of the row with the bytes b
--   reordered        where all rows are taken, another sequence changes nothing
--   GrownSo ..       the list after k additions, and its stand
--   run-next         while it is short, a run goes on
--   additions_bounded   each addition raises the degree, which never passes n; the list is within the bounds, and all of it is taken
--   additions_end    proved is reached after at most n − d additions, d the first degree
-- Assumes nothing.
use mathlib.Core.Path.{◌≡◌, refl, sym, ap, ap₂, subst, ◌∙◌}
use mathlib.Core.Logic.{∥∥₁_elim}
use mathlib.Core.HLevel.{×_prop}
use mathlib.Core.List.Permᴰ
use mathlib.Core.List.{List, [], ◌∷◌, ◌++◌, map, Perm, Permᴰ}
use Prim.Native.Nat.{ℕ, zero, suc, ◌+◌, ◌*◌, ◌/◌, ◌<◌, ◌≤◌}
use native.Mathlib.Nat.{ℕ_set, add-zero, mul-le-mul, div-eq_of_eq-mul_left, le_refl, le_of_eq, le_trans, le_of_suc-le-suc, not-suc-le-zero}
use native.Mathlib.Omega.{arith}
use lib.ListN.{length, take, length-append, length-map}
use lib.Seq.{take_all, take-length, take-append-le}
use Rattle.algebra.specs.Field.{Prime}
use Rattle.algebra.specs.Row.{S, Linear}
use Rattle.algebra.specs.Poly.{Poly, coef, ◌∣◌, Least, Kills}
use Rattle.algebra.specs.Orders.{AllBelow, WithDegree, Orders, KillsAll}
use Rattle.algebra.specs.Spin.{order_of}
use Rattle.algebra.proofs.Act.{act-coef}
use Rattle.algebra.proofs.Poly.{divides_antisym, divides_grows, least_unique, least_same, kills_ideal}
use Rattle.algebra.proofs.Orders.{kills_all_ideal, kills_every_ideal, kills_last, least_inside, orders_unique, kills_take}
use Rattle.algebra.proofs.Chain.{annihilator}
use Rattle.algebra.proofs.Row.{S_set}
use Rattle.meaning.specs.Bytes.{Small, row, times, byte_rows, rows, e, bytes}
use Rattle.meaning.specs.Stand.{sum, degs, Standing, proved, short, Outcome, IsStand}
use Rattle.meaning.specs.Bounds.{most_candidates, full_allowance, Sound, SoundRows}
use Rattle.meaning.proofs.Bytes.{times_machine, times_linear, e_below, bytes_length, bytes_small, row_bytes, rows_count, rows_below, rows_append, rows_one}
use Rattle.meaning.proofs.Refusal.{small_append}
use Rattle.meaning.proofs.Unique.{alike_degs, tested_only, outcome_path}
use Rattle.promises.specs.Run.{orders_of, stand_of}
use Rattle.meaning.proofs.Degrees.{orders_count, stand_degree, order_degree}
use Rattle.promises.proofs.Found.{orders_of_orders, stand_found}
use Rattle.promises.specs.Additions.{FromBounds, added, Run, start, more, AfterAdditions, RunProved}
use Rattle.promises.proofs.Demand2.{polynomial_least, polynomial_divides, proved_minimal, minimal_proved, short_witness}

-- rows and their orders, one for each
-- more rows behind leave the degrees of the front as they are
orders_front : {p : ℕ} {X : S p → S p} → Prime p → Linear X → (vs ws : List (S p)) (os qs : List (WithDegree p)) → Orders X vs os → Orders X (vs ++ ws) qs
    → (t : ℕ) → t ≤ length vs → take t (degs os) ≡ take t (degs qs)
orders_front P L vs ws os qs O Q zero h = refl
orders_front P L [] ws os qs O Q (suc t) h = absurd (not-suc-le-zero h)
orders_front P L (v ∷ vs) ws [] qs O Q (suc t) h = absurd O
orders_front P L (v ∷ vs) ws (o ∷ os) [] O Q (suc t) h = absurd Q
orders_front P L (v ∷ vs) ws (o ∷ os) (q ∷ qs) O Q (suc t) h =
    ap₂ ◌∷◌ (least_unique P (kills_ideal L v) O.0 Q.0).0 (orders_front P L vs ws os qs O.1 Q.1 t (le_of_suc-le-suc h))

module _ {p n : ℕ} {m cs : List ℕ} {a : ℕ} {r : Outcome} {f : Poly p} (A : IsStand p n m cs a r f) where
  stand_count : length (degs A.orders) ≡ length (rows p n cs)
  stand_count = orders_count (times p n m) (rows p n cs) A.orders A.each

  taken_within : r.taken ≤ length (rows p n cs)
  taken_within = omega (arith, stand_count, A.front.within)

  -- where the allowance pays for all rows, all are taken
  all_paid : sum (degs A.orders) ≤ a → r.taken ≡ length (rows p n cs)
  all_paid h =
      let l = A.front.longest (length (degs A.orders)) (le_refl _) (rw take-length h) in
      omega (arith, stand_count, taken_within)

  spent_all : r.taken ≡ length (rows p n cs) → r.spent ≡ sum (degs A.orders)
  spent_all h = A.spent ∙ ap sum (take_all r.taken (degs A.orders) (le_of_eq (stand_count ∙ sym h)))

  least_all : r.taken ≡ length (rows p n cs) → Least (KillsAll (times p n m) (rows p n cs)) r.degree f
  least_all h =
      subst (λ vs. Least (KillsAll (times p n m) vs) r.degree f) (take_all r.taken (rows p n cs) (le_of_eq (sym h)))
      (polynomial_least A)

-- (a) a longer list with the same front, a larger allowance, or both: as many rows or more are taken, the polynomial divides the new one
module _ {p n : ℕ} {m cs : List ℕ} {a b : ℕ} {r s : Outcome} {f g : Poly p} (ds : List ℕ) (P : Prime p) (z : 0 < n)
    (q : length cs ≡ length cs / n * n) (le : a ≤ b) (A : IsStand p n m cs a r f) (B : IsStand p n m (cs ++ ds) b s g) where
  pub more_taken : r.taken ≤ s.taken
  more_taken =
      let w = rows_append p n z (length cs / n) cs ds q in
      let t = taken_within A in
      let l = stand_count B ∙ ap length w ∙ length-append (rows p n cs) _ in
      let O = subst (λ vs. Orders (times p n m) vs B.orders) w B.each in
      let c = ap sum (orders_front P (times_linear p n m) (rows p n cs) _ A.orders B.orders A.each O r.taken t) in
      B.front.longest r.taken (omega arith) (omega (arith, A.front.affordable))

  pub more_divides : f ∣ g
  more_divides =
      let X = times p n m in
      let w = ap (take r.taken) (rows_append p n z (length cs / n) cs ds q) ∙ take-append-le r.taken (rows p n cs) _ (taken_within A) in
      least_inside (kills_all_ideal (times_linear p n m) (take r.taken (rows p n cs)))
      (λ h K. subst (λ vs. KillsAll X vs h) w (kills_take X _ h r.taken s.taken more_taken K)) (polynomial_least A) (polynomial_least B)

  -- and a proved polynomial stays, with its mark
  pub more_keeps : r.standing ≡ proved → (s.standing ≡ proved) × (r.degree ≡ s.degree) × (coef f ≡ coef g)
  more_keeps h =
      let K = (proved_minimal A h).member in
      let c = divides_antisym P r.degree s.degree f g A.common.monic B.common.monic more_divides (polynomial_divides B f K) in
      (minimal_proved B ((kills_every_ideal (times_linear p n m) n).resp f g c.1 K), c.0, c.1)

-- what another sequence of the rows does not change: a sum over them, their number, and what sends them all to zero
perm_sum : (w : List ℕ → ℕ) {bs ds : List (List ℕ)} → Permᴰ bs ds → sum (map w bs) ≡ sum (map w ds)
unfolding sum
perm_sum w Permᴰ.nil = refl
perm_sum w (Permᴰ.cons q π) = ap₂ ◌+◌ (ap w q) (perm_sum w π)
perm_sum w (Permᴰ.swap q u) = omega (arith, ap w q, ap w u)
perm_sum w (Permᴰ.trans π ρ) = perm_sum w π ∙ perm_sum w ρ

perm_count : {bs ds : List (List ℕ)} → Permᴰ bs ds → length bs ≡ length ds
perm_count Permᴰ.nil = refl
perm_count (Permᴰ.cons q π) = ap suc (perm_count π)
perm_count (Permᴰ.swap q u) = refl
perm_count (Permᴰ.trans π ρ) = perm_count π ∙ perm_count ρ

perm_kills : {p : ℕ} (X : S p → S p) (f : Poly p) {bs ds : List (List ℕ)} → Permᴰ bs ds → KillsAll X (map (row p) bs) f → KillsAll X (map (row p) ds) f
perm_kills X f Permᴰ.nil h = tt
perm_kills {p} X f (Permᴰ.cons q π) h = (subst (λ b. Kills X (row p b) f) q h.0, perm_kills X f π h.1)
perm_kills {p} X f (Permᴰ.swap q u) h = (subst (λ b. Kills X (row p b) f) u h.1.0, (subst (λ b. Kills X (row p b) f) q h.0, h.1.1))
perm_kills X f (Permᴰ.trans π ρ) h = perm_kills X f ρ (perm_kills X f π h)

-- the degree of a row's order
weight : (p n : ℕ) → List ℕ → List ℕ → ℕ
weight p n m b = (order_of (times p n m) n (row p b)).deg

weights : (p n : ℕ) (m : List ℕ) (bs : List (List ℕ)) → degs (orders_of (times p n m) n (map (row p) bs)) ≡ map (weight p n m) bs
unfolding orders_of weight
weights p n m [] = refl
weights p n m (b ∷ bs) = ap (λ l. weight p n m b ∷ l) (weights p n m bs)

stand_weights : {p : ℕ} → Prime p → {n : ℕ} {m cs : List ℕ} {a : ℕ} {r : Outcome} {f : Poly p} → (A : IsStand p n m cs a r f)
    → sum (degs A.orders) ≡ sum (map (weight p n m) (byte_rows n cs))
unfolding rows
stand_weights {p} P {n} {m} {cs} A =
    let M = times_machine p n m in
    let os = orders_of (times p n m) n (rows p n cs) in
    let O = orders_of_orders P (times p n m) n M (rows p n cs) (rows_below p n cs) in
    ap sum (alike_degs A.orders os (orders_unique P M.linear (rows p n cs) A.orders os A.each O) ∙ weights p n m (byte_rows n cs))

-- (b) where all are taken, another sequence of the same rows changes nothing: all are taken again, with the same polynomial, mark and unit row
pub reordered : {p n : ℕ} {m cs ds : List ℕ} {a : ℕ} {r s : Outcome} {f g : Poly p} → Prime p → Perm (byte_rows n cs) (byte_rows n ds)
    → IsStand p n m cs a r f → IsStand p n m ds a s g → r.taken ≡ length (rows p n cs) → (s ≡ r) × (coef g ≡ coef f) × (s.taken ≡ length (rows p n ds))
unfolding rows
reordered {p} {n} {m} {cs} {ds} {a} {r} {s} {f} {g} P π A B h =
    let w = tested_only X n g f same.1 s.standing r.standing s.witness r.witness B.tested A.tested in
    let count = all ∙ length-map (byte_rows n ds) (row p) ∙ number ∙ sym (length-map (byte_rows n cs) (row p)) ∙ sym h in
    (outcome_path s r w.0 same.0 count (spent_all B all ∙ cost ∙ sym (spent_all A h)) w.1, same.1, all)
  where
    X : S p → S p
    X = times p n m

    cost : sum (degs B.orders) ≡ sum (degs A.orders)
    cost = ∥∥₁_elim π (ℕ_set _ _) (λ d. stand_weights P B ∙ sym (perm_sum (weight p n m) d) ∙ sym (stand_weights P A))

    number : length (byte_rows n ds) ≡ length (byte_rows n cs)
    number = ∥∥₁_elim π (ℕ_set _ _) (λ d. sym (perm_count d))

    all : s.taken ≡ length (rows p n ds)
    all = all_paid B (omega (arith, cost, A.spent, spent_all A h, A.front.affordable))

    same : (s.degree ≡ r.degree) × (coef g ≡ coef f)
    same =
        ∥∥₁_elim π (×_prop (ℕ_set _ _) (S_set _ _))
        (λ d. least_unique P (kills_all_ideal (times_linear p n m) (rows p n cs))
        (least_same (λ k. perm_kills X k (Permᴰ.symm d)) (λ k. perm_kills X k d) (least_all B all)) (least_all A h))

-- (c) adding reported unit rows, within the bounds of `FromBounds`. Each addition raises the degree, which never passes n; the list never passes 128
-- rows, and all rows are taken throughout
-- k rows cost at most k·n
orders_cost : {p : ℕ} → Prime p → (n : ℕ) (m : List ℕ) (vs : List (S p)) → AllBelow n vs → (os : List (WithDegree p)) → Orders (times p n m) vs os
    → sum (degs os) ≤ length vs * n
unfolding sum
orders_cost P n m [] b [] O = omega arith
orders_cost P n m [] b (o ∷ os) O = absurd O
orders_cost P n m (v ∷ vs) b [] O = absurd O
orders_cost P n m (v ∷ vs) b (o ∷ os) O =
    omega (arith, order_degree P n m v b.0 o.deg o.poly O.0, orders_cost P n m vs b.1 os O.1)

-- what is known of a run: the list is the first one with k rows behind it
record GrownSo (p n : ℕ) (m cs : List ℕ) (a : ℕ) (r : Outcome) (k : ℕ) (ds : List ℕ) (s : Outcome) : Type 0 where
  risen : r.degree + k ≤ s.degree
  whole : length ds ≡ (length cs / n + k) * n
  entries : Small p ds
  poly : Poly p
  stand : IsStand p n m ds a s poly

module _ {p n : ℕ} {m : List ℕ} {a : ℕ} (A : Sound p n m) {ds : List ℕ} {s : Outcome} {f : Poly p} (S : IsStand p n m ds a s f) where
  -- 128 rows are paid for
  rows_paid : full_allowance ≤ a → length ds / n ≤ most_candidates → s.taken ≡ length (rows p n ds)
  rows_paid le h =
      let c = orders_cost A.prime n m (rows p n ds) (rows_below p n ds) S.orders S.each in
      let b = mul-le-mul (le_trans (le_of_eq (rows_count p n ds)) h) A.size in
      all_paid S (omega arith)

  -- short: the degree is not n yet
  short_below : s.standing ≡ short → s.degree < n
  short_below q =
      let (g, M, K) = annihilator A.prime (times p n m) n (times_machine p n m) in
      let w = short_witness S q in
      divides_grows A.prime _ _ f g S.common.monic M (polynomial_divides S g K)
      (λ c. w.unsent (act-coef _ f g c _ ∙ K _ (e_below n s.witness w.from w.to)))

  -- the reported unit row raises the degree
  added_grows : {t : Outcome} {g : Poly p} → length ds ≡ length ds / n * n → s.standing ≡ short → IsStand p n m (added p n ds s) a t g
      → t.taken ≡ length (rows p n (added p n ds s)) → s.degree < t.degree
  unfolding added
  added_grows {g = g} whole q T all =
      let X = times p n m in
      let w = short_witness S q in
      let u = bytes {p = p} n (e s.witness) in
      let one = rows_one p n A.some_size u (bytes_length n _) ∙ ap (λ v. v ∷ []) (row_bytes n _ (e_below n s.witness w.from w.to)) in
      let l = rows_append p n A.some_size (length ds / n) ds u whole ∙ ap (λ vs. rows p n ds ++ vs) one in
      let K = kills_last X (rows p n ds) (e s.witness) g (subst (λ vs. KillsAll X vs g) l (least_all T all).member) in
      divides_grows A.prime _ _ f g S.common.monic T.common.monic (more_divides u A.prime A.some_size whole (le_refl a) S T)
      (λ c. w.unsent (act-coef X f g c _ ∙ K))

-- while it is short, a run goes on
pub run-next : {p n : ℕ} {m cs ds : List ℕ} {a k : ℕ} {r s : Outcome} → Prime p → Run p n m a cs r k ds s → s.standing ≡ short
    → Run p n m a cs r (suc k) (added p n ds s) (stand_of p n m (added p n ds s) a)
run-next {n} {m} {a} P R q = more _ R q (stand_found P n m _ a)

module _ {p n : ℕ} {m cs : List ℕ} {a : ℕ} {r : Outcome} (A : Sound p n m) (B : SoundRows p n cs) (F : FromBounds n cs a) where
  grown_more : {k : ℕ} {ds : List ℕ} {s t : Outcome} {g : Poly p} → GrownSo p n m cs a r k ds s → s.standing ≡ short
      → IsStand p n m (added p n ds s) a t g → GrownSo p n m cs a r (suc k) (added p n ds s) t
  unfolding added
  grown_more {k} {ds} {s} {t} {g} G q T =
      let c = length cs / n in
      let u = bytes {p = p} n (e s.witness) in
      let b = short_below A G.stand q in
      let whole : length (added p n ds s) ≡ (c + suc k) * n = length-append ds u ∙ ap₂ ◌+◌ G.whole (bytes_length n _) ∙ omega arith in
      let few : length (added p n ds s) / n ≤ most_candidates = rw (div-eq_of_eq-mul_left A.some_size whole) (omega (arith, G.risen, A.size, F.few)) in
      let before : length ds ≡ length ds / n * n = rw (div-eq_of_eq-mul_left A.some_size G.whole) G.whole in
      let up = added_grows A G.stand before q T (rows_paid A T F.paid few) in
      record {
        risen = omega (arith, G.risen);
        whole = whole;
        entries = small_append p ds u G.entries (bytes_small (omega (arith, A.prime.big)) n _);
        poly = g;
        stand = T;
      }

  run_grown : {k : ℕ} {ds : List ℕ} {s : Outcome} → Run p n m a cs r k ds s → GrownSo p n m cs a r k ds s
  run_grown (start f S) = record { risen = omega arith; whole = rw add-zero B.whole; entries = B.entries; poly = f; stand = S }
  run_grown (more f R q S) = grown_more (run_grown R) q S

  pub additions_bounded : {k : ℕ} {ds : List ℕ} {s : Outcome} → Run p n m a cs r k ds s → AfterAdditions p n r k ds s
  additions_bounded {k} {ds} {s} R =
      let G = run_grown R in
      let c = div-eq_of_eq-mul_left A.some_size G.whole in
      let b = stand_degree A.prime n m ds a s G.poly G.stand in
      let few : length ds / n ≤ most_candidates = rw c (omega (arith, G.risen, A.size, F.few)) in
      record {
        risen = G.risen;
        bounded = b;
        sound = record { whole = rw c G.whole; few = few; entries = G.entries };
        all_taken = rows_paid A G.stand F.paid few;
      }

  -- so proved is reached after at most n − d additions, d the first degree
  pub additions_end : {f : Poly p} → IsStand p n m cs a r f → RunProved p n m a cs r
  additions_end {f} S = go n (start f S) (omega arith)
    where
      ended : {k : ℕ} {ds : List ℕ} {s : Outcome} → Run p n m a cs r k ds s → (t : Standing) → s.standing ≡ t → (t ≡ short → RunProved p n m a cs r)
          → RunProved p n m a cs r
      ended {k} {ds} {s} R proved q go = record { additions = k; list = ds; last = s; run = R; reached = q; few = omega (arith, additions_bounded R) }
      ended R short q go = go refl

      -- j bounds the additions to come
      go : (j : ℕ) {k : ℕ} {ds : List ℕ} {s : Outcome} → Run p n m a cs r k ds s → n ≤ r.degree + k + j → RunProved p n m a cs r
      go zero {s = s} R l = ended R s.standing refl (λ q. absurd (omega (arith, additions_bounded (run-next A.prime R q))))
      go (suc j) {s = s} R l = ended R s.standing refl (λ q. go j (run-next A.prime R q) (omega arith))
