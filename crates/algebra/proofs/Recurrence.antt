-- The shortest recurrence of a sequence: Massey's lemma, one turn of Berlekamp and Massey's pass, and when the shortest recurrence is the only one.
--   act_newest       of C·s at k only the newest symbol counts, where the others in reach are zero
--   massey           two recurrences, of lengths that come to k at most: where the one is silent up to k and the other beyond it, the one is silent at k
--   feeds_less       what fits k + 1 symbols fits k
--   register_start   before the first symbol
--   register_kept    a symbol that the recurrence foretells
--   register_mended  one that it does not, where twice its length is above k: the length stays
--   register_grown   one that it does not, where it is not: the length becomes k + 1 − L
--   register_exists  so there is a shortest recurrence for every number of symbols
--   only_shortest    the shortest recurrence is the only one of its length, where twice the length is at most k
--   another          and where it is more, there is another one
-- Assumes nothing.
use mathlib.Core.Path.{◌≡◌, refl, sym, ap, ap₂, subst, ◌∙◌, fun_ext}
use mathlib.Core.List.{[], ◌∷◌}
use mathlib.Core.Logic.{◌⊎◌, inl, inr, ⊎_elim}
use Prim.Native.Nat.{ℕ, zero, suc, ◌+◌, ◌-◌, ◌<◌, ◌≤◌, zero-le}
use native.Mathlib.Nat.{le_refl, le_of_suc-le-suc, eq-or-lt_of_le}
use native.Mathlib.Decide.{dec_le}
use native.Mathlib.Omega.{arith}
use Rattle.algebra.specs.Field.{Prime, Fp, 𝟘, 𝟙, ◌⊕◌, ◌⊗◌, neg}
use Rattle.algebra.specs.InverseOrZero.{inv_or_𝟘}
use Rattle.algebra.specs.Row.{S, 0ᵥ, ◌+ᵥ◌, ◌·ᵥ◌, Below, unit, shift, iter}
use Rattle.algebra.specs.Poly.{Poly, coef, poly, ◌⊞◌, ◌⊡◌, act}
use Rattle.algebra.specs.Recurrence.{Silent, Feeds, Shortest, Ready, Register}
use Rattle.algebra.proofs.Field.{⊕-𝟘, ⊕_cancel, ⊗-𝟘, 𝟙-⊗, zero_or_not, inv_left, 𝟙_not_𝟘, ring}
use Rattle.algebra.proofs.Row.{comb_none, comb_first, iter-shift_high, linear_shift, linear_zero, unit_other, 0ᵥ-+ᵥ, 𝟘-·ᵥ, difference_zero, below_more, below_+ᵥ, below-·ᵥ, below_zeros}
use Rattle.algebra.proofs.Act.{act-comb_below, act-coef, act-⊞, act-⊡, act-x, act_commute, coef_nil, coef_one, coef-⊡, coef_cons, coef-poly, coef-poly_below}
use Rattle.algebra.proofs.Poly.{coef-sum}

-- s moved up by i, at k
moved_up : {p : ℕ} (s : S p) (i j k : ℕ) → i + j ≡ k → iter shift i s k ≡ s j
moved_up s i j k e = ap (iter shift i s) (sym e) ∙ iter-shift_high i s j

pub act_newest : {p : ℕ} (L k : ℕ) (C : Poly p) (s : S p) → Below (suc L) (coef C) → L ≤ k → ((j : ℕ) → k ≤ L + j → j < k → s j ≡ 𝟘)
    → act shift C s k ≡ coef C 0 ⊗ s k
unfolding ◌+ᵥ◌ ◌·ᵥ◌ iter
act_newest L k C s h l z =
    ap (λ t. t k) (act-comb_below shift (suc L) C s h ∙ comb_first L (coef C) (λ i. iter shift i s))
    ∙ ap (λ x. coef C 0 ⊗ s k ⊕ x) (comb_none L k _ _ (λ i lt. ap (λ x. coef C (suc i) ⊗ x) (moved_up s (suc i) (k - suc i) k (omega arith) ∙ z (k - suc i) (omega arith) (omega arith)) ∙ ⊗-𝟘 _))
    ∙ ⊕-𝟘 _

pub massey : {p : ℕ} {L M k : ℕ} (C D : Poly p) (s : S p) → Below (suc L) (coef C) → Below (suc M) (coef D) → L + M ≤ k → Silent C s L k
    → Silent D s M (suc k) → coef D 0 ⊗ act shift C s k ≡ 𝟘
massey {L} {M} {k} C D s b d l z y =
    sym (act_newest M k D (act shift C s) d (omega arith) (λ j i h. z j (omega arith) h))
    ∙ ap (λ t. t k) (act_commute linear_shift D C s)
    ∙ act_newest L k C (act shift D s) b (omega arith) (λ j i h. y j (omega arith) (omega arith))
    ∙ ap (λ x. coef C 0 ⊗ x) (y k (omega arith) (le_refl _)) ∙ ⊗-𝟘 _

feeds_less : {p : ℕ} {L : ℕ} {C : Poly p} {s : S p} {k : ℕ} → Feeds L C s (suc k) → Feeds L C s k
feeds_less F = record { one = F.one; degree = F.degree; silent = λ j l h. F.silent j l (omega arith) }

-- sums and shifts of polynomials, told by their coefficients
act_mixed : {p : ℕ} (a : Fp p) (C U D : Poly p) (s : S p) → coef D ≡ coef C +ᵥ a ·ᵥ coef U → (j : ℕ) → act shift D s j ≡ act shift C s j ⊕ a ⊗ act shift U s j
unfolding ◌+ᵥ◌ ◌·ᵥ◌
act_mixed a C U D s e j =
    ap (λ t. t j) (act-coef shift D (C ⊞ a ⊡ U) (e ∙ sym (coef-sum a C U)) s ∙ act-⊞ shift C (a ⊡ U) s ∙ ap (λ t. act shift C s +ᵥ t) (act-⊡ shift a U s))

coef_up : {p : ℕ} (U : Poly p) → coef (𝟘 ∷ U) ≡ shift (coef U)
coef_up U = coef_cons 𝟘 U ∙ ap (λ t. t +ᵥ shift (coef U)) (𝟘-·ᵥ _) ∙ 0ᵥ-+ᵥ _

act_up : {p : ℕ} (U D : Poly p) (s : S p) → coef D ≡ shift (coef U) → act shift D s ≡ shift (act shift U s)
act_up U D s e = act-coef shift D (𝟘 ∷ U) (e ∙ sym (coef_up U)) s ∙ act-x linear_shift U s

-- at one place more
below_up : {p : ℕ} {n : ℕ} {v w : S p} → w ≡ shift v → Below n v → Below (suc n) w
unfolding shift
below_up e h zero l = absurd (omega arith)
below_up e h (suc i) l = ap (λ t. t (suc i)) e ∙ h i (omega arith)

silent_up : {p : ℕ} (U D : Poly p) (s : S p) {from to : ℕ} → coef D ≡ shift (coef U) → Silent U s from to → Silent D s (suc from) (suc to)
unfolding shift
silent_up U D s e h zero l b = absurd (omega arith)
silent_up U D s e h (suc j) l b = ap (λ t. t (suc j)) (act_up U D s e) ∙ h j (omega arith) (omega arith)

-- before the first symbol
pub register_start : {p : ℕ} (C U : Poly p) (s : S p) → coef C ≡ unit 0 → coef U ≡ 0ᵥ → Register 0 C U s 0
unfolding 0ᵥ unit
register_start C U s e f =
    record {
      shortest = record {
        feeds = record { one = ap (λ t. t 0) e; degree = λ i l. ap (λ t. t i) e ∙ unit_other 0 i (omega arith); silent = λ j l h. absurd (omega arith) };
        least = λ M D F. zero-le;
      };
      ready = record {
        next = 1;
        sum = refl;
        none = ap (λ t. t 0) f;
        degree = λ i l. ap (λ t. t i) f;
        silent = λ j l h. absurd (omega arith);
        one = λ l. absurd (omega arith);
      };
    }

ready_up : {p : ℕ} {L : ℕ} {U D : Poly p} {s : S p} {k : ℕ} → coef D ≡ shift (coef U) → Ready L U s k → Ready L D s (suc k)
unfolding shift
ready_up {U = U} {D = D} {s = s} {k = k} e R =
    record {
      next = suc R.next;
      sum = omega (arith, R.sum);
      none = ap (λ t. t 0) e;
      degree = below_up e R.degree;
      silent = silent_up U D s e R.silent;
      one = λ l. ap (λ t. t (suc k)) (act_up U D s e) ∙ R.one l;
    }

-- a symbol that the recurrence foretells
pub register_kept : {p : ℕ} {L : ℕ} {C U D : Poly p} {s : S p} {k : ℕ} → act shift C s k ≡ 𝟘 → coef D ≡ shift (coef U) → Register L C U s k
    → Register L C D s (suc k)
register_kept {L} {C} {U} {D} {s} {k} z e R =
    let F = R.shortest.feeds in
    record {
      shortest = record {
        feeds = record {
          one = F.one;
          degree = F.degree;
          silent = λ j l h. ⊎_elim (λ x. ap (act shift C s) x ∙ z) (λ x. F.silent j l x) (eq-or-lt_of_le (le_of_suc-le-suc h));
        };
        least = λ M B G. R.shortest.least M B (feeds_less G);
      };
      ready = ready_up {U = U} {D = D} e R.ready;
    }

-- what is mended fits one symbol more
mended : {p : ℕ} {L M : ℕ} {C U B : Poly p} {s : S p} {k : ℕ} → coef B ≡ coef C +ᵥ neg (act shift C s k) ·ᵥ coef U → Register L C U s k → L ≤ M
    → suc k ≤ L + M → (k < M ⊎ (0 < L)) → Feeds M B s (suc k)
unfolding ◌+ᵥ◌ ◌·ᵥ◌
mended {p} {L} {M} {C} {U} {B} {s} {k} e R l h g =
    let F = R.shortest.feeds in
    let Q = R.ready in
    let d : Fp p = act shift C s k in
    record {
      one = ap (λ t. t 0) e ∙ ap₂ (λ x y. x ⊕ neg d ⊗ y) F.one Q.none ∙ simp ring;
      degree = subst (Below (suc M)) (sym e)
          (below_+ᵥ (below_more (omega arith) F.degree) (below-·ᵥ (neg d) (below_more (omega (arith, Q.sum)) Q.degree)));
      silent = λ j i b. act_mixed (neg d) C U B s e j ∙ ⊎_elim
          (λ x. ⊎_elim (λ y. absurd (omega arith)) (λ y. ap₂ (λ u v. u ⊕ neg d ⊗ v) (ap (act shift C s) x) (ap (act shift U s) x ∙ Q.one y) ∙ simp ring) g)
          (λ x. ap₂ (λ u v. u ⊕ neg d ⊗ v) (F.silent j (omega arith) x) (Q.silent j (omega (arith, Q.sum)) x) ∙ simp ring)
          (eq-or-lt_of_le (le_of_suc-le-suc b));
    }

-- one that it does not, where twice its length is above k
pub register_mended : {p : ℕ} {L : ℕ} {C U B D : Poly p} {s : S p} {k : ℕ} → coef B ≡ coef C +ᵥ neg (act shift C s k) ·ᵥ coef U → coef D ≡ shift (coef U)
    → k < L + L → Register L C U s k → Register L B D s (suc k)
register_mended {U = U} {D = D} e f l R =
    record {
      shortest = record { feeds = mended e R (le_refl _) l (inr (omega arith)); least = λ M A G. R.shortest.least M A (feeds_less G) };
      ready = ready_up {U = U} {D = D} f R.ready;
    }

-- one that it does not, where it is not: the recurrence that is given up becomes what failures are mended with
pub register_grown : {p : ℕ} {L M : ℕ} {C U B D : Poly p} {s : S p} {k : ℕ} (a : Fp p) → ¬ (act shift C s k ≡ 𝟘) → a ⊗ act shift C s k ≡ 𝟙
    → coef B ≡ coef C +ᵥ neg (act shift C s k) ·ᵥ coef U → coef D ≡ shift (a ·ᵥ coef C) → L + L ≤ k → L + M ≡ suc k → Register L C U s k
    → Register M B D s (suc k)
unfolding ◌·ᵥ◌ shift
register_grown {p} {L} {M} {C} {U} {B} {D} {s} {k} a n i e f l m R =
    let F = R.shortest.feeds in
    let G : Poly p = a ⊡ C in
    let g : coef D ≡ shift (coef G) = f ∙ ap shift (sym (coef-⊡ a C)) in
    let at : (j : ℕ) → act shift G s j ≡ a ⊗ act shift C s j = λ j. ap (λ t. t j) (act-⊡ shift a C s) in
    record {
      shortest = record {
        feeds = mended e R (omega arith) (omega arith) (elim (dec_le 1 L) [ yes y ↦ inr y | no y ↦ inl (omega arith) ]);
        least = λ N A H. elim (dec_le (L + N) k) [
          | yes y ↦ absurd (n (sym (𝟙-⊗ _) ∙ ap (λ x. x ⊗ act shift C s k) (sym H.one) ∙ massey C A s F.degree H.degree y F.silent H.silent))
          | no y ↦ omega arith
        ];
      };
      ready = record {
        next = suc L;
        sum = omega arith;
        none = ap (λ t. t 0) f;
        degree = below_up g (subst (Below (suc L)) (sym (coef-⊡ a C)) (below-·ᵥ a F.degree));
        silent = silent_up G D s g (λ j h b. at j ∙ ap (λ x. a ⊗ x) (F.silent j h b) ∙ ⊗-𝟘 a);
        one = λ _. ap (λ t. t (suc k)) (act_up G D s g) ∙ at k ∙ i;
      };
    }

-- a shortest recurrence for every number of symbols
pub record Registered {p : ℕ} (s : S p) (k : ℕ) : Type 0 where
  pub size : ℕ
  pub recurrence : Poly p
  pub spare : Poly p
  pub register : Register size recurrence spare s k

registered_turn : {p : ℕ} → Prime p → (s : S p) (k : ℕ) → Registered s k → Registered s (suc k)
registered_turn {p} P s k G =
    let L = G.size in
    let C = G.recurrence in
    let U = G.spare in
    let d : Fp p = act shift C s k in
    let B : Poly p = C ⊞ neg d ⊡ U in
    elim (zero_or_not d) [
      | inl z ↦ record { size = L; recurrence = C; spare = 𝟘 ∷ U; register = register_kept {U = U} {D = 𝟘 ∷ U} z (coef_up U) G.register }
      | inr n ↦ elim (dec_le (L + L) k) [
        | yes l ↦ record {
          size = suc k - L;
          recurrence = B;
          spare = 𝟘 ∷ inv_or_𝟘 d ⊡ C;
          register = register_grown (inv_or_𝟘 d) n (inv_left P d n) (coef-sum (neg d) C U) (coef_up (inv_or_𝟘 d ⊡ C) ∙ ap shift (coef-⊡ _ C)) l (omega arith) G.register;
        }
        | no l ↦ record { size = L; recurrence = B; spare = 𝟘 ∷ U; register = register_mended {U = U} (coef-sum (neg d) C U) (coef_up U) (omega arith) G.register }
      ]
    ]

pub register_exists : {p : ℕ} → Prime p → (s : S p) (k : ℕ) → Registered s k
register_exists P s zero = record { size = 0; recurrence = 𝟙 ∷ []; spare = []; register = register_start (𝟙 ∷ []) [] s coef_one coef_nil }
register_exists P s (suc k) = registered_turn P s k (register_exists P s k)

-- x·H' = H: the low zero is taken off, and H' is silent as far as H is
pub record Peeled {p : ℕ} (M : ℕ) (H : Poly p) (s : S p) (k : ℕ) : Type 0 where
  pub rest : Poly p
  pub whole : coef H ≡ shift (coef rest)
  pub degree : Below (suc M) (coef rest)
  pub silent : Silent rest s M k

peeled_at : {p : ℕ} (H : Poly p) (i : ℕ) → coef H 0 ≡ 𝟘 → coef H i ≡ shift (λ j. coef H (suc j)) i
unfolding shift
peeled_at H zero z = z
peeled_at H (suc i) z = refl

peel : {p : ℕ} {L M : ℕ} (C H : Poly p) (s : S p) (k : ℕ) → Feeds L C s (suc k) → M + L ≤ k → coef H 0 ≡ 𝟘 → Below (suc (suc M)) (coef H)
    → Silent H s (suc M) (suc k) → Peeled M H s (suc k)
unfolding shift
peel {p} {L} {M} C H s k F l z b h =
    let tail : S p = λ i. coef H (suc i) in
    let rest : Poly p = poly (suc M) tail in
    let same : coef rest ≡ tail = coef-poly (suc M) tail (λ i g. b (suc i) (omega arith)) in
    let whole : coef H ≡ shift (coef rest) = fun_ext (λ i. peeled_at H i z) ∙ ap shift (sym same) in
    let below : Below (suc M) (coef rest) = coef-poly_below (suc M) tail in
    let quiet : Silent rest s M k = λ j i g. ap (λ t. t (suc j)) (sym (act_up rest H s whole)) ∙ h (suc j) (omega arith) (omega arith) in
    let last : act shift rest s k ≡ 𝟘 = sym (𝟙-⊗ _) ∙ ap (λ x. x ⊗ act shift rest s k) (sym F.one) ∙ massey rest C s below F.degree l quiet F.silent in
    record {
      rest = rest;
      whole = whole;
      degree = below;
      silent = λ j i g. ⊎_elim (λ x. ap (act shift rest s) x ∙ last) (λ x. quiet j i x) (eq-or-lt_of_le (le_of_suc-le-suc g));
    }

-- where twice the length is at most k, nothing that is shorter is silent: divided by its lowest coefficient it would be a shorter recurrence
shorter_low : {p : ℕ} {L : ℕ} {C : Poly p} {s : S p} {k : ℕ} → Prime p → Shortest L C s k → (M : ℕ) (H : Poly p) → M < L → Below (suc M) (coef H)
    → Silent H s M k → coef H 0 ≡ 𝟘
unfolding ◌·ᵥ◌
shorter_low {s = s} P T M H l b h =
    elim (zero_or_not (coef H 0)) [
      | inl z ↦ z
      | inr n ↦
          let a = inv_or_𝟘 (coef H 0) in
          let F : Feeds M (a ⊡ H) s _ = record {
            one = ap (λ t. t 0) (coef-⊡ a H) ∙ inv_left P (coef H 0) n;
            degree = subst (Below (suc M)) (sym (coef-⊡ a H)) (below-·ᵥ a b);
            silent = λ j i g. ap (λ t. t j) (act-⊡ shift a H s) ∙ ap (λ x. a ⊗ x) (h j i g) ∙ ⊗-𝟘 a;
          } in
          let c = T.least M (a ⊡ H) F in
          absurd (omega arith)
    ]

low_zero : {p : ℕ} {v : S p} → v 0 ≡ 𝟘 → Below 1 v → v ≡ 0ᵥ
low_zero {v = v} z b = below_zeros 1 b (λ i l. let e : i ≡ 0 = omega arith in ap v e ∙ z)

shorter_none : {p : ℕ} {L : ℕ} {C : Poly p} {s : S p} {k : ℕ} → Prime p → Shortest L C s (suc k) → L + L ≤ suc k → (M : ℕ) (H : Poly p) → M < L
    → Below (suc M) (coef H) → Silent H s M (suc k) → coef H ≡ 0ᵥ
shorter_none P T n zero H l b h = low_zero (shorter_low P T zero H l b h) b
shorter_none {C = C} {s = s} {k = k} P T n (suc M) H l b h =
    let Q = peel C H s k T.feeds (omega arith) (shorter_low P T (suc M) H l b h) b h in
    Q.whole ∙ ap shift (shorter_none P T n M Q.rest (omega arith) Q.degree Q.silent) ∙ linear_zero linear_shift

-- so the difference of two shortest recurrences is zero
difference_none : {p : ℕ} {C : Poly p} {s : S p} (k L : ℕ) → Prime p → Shortest L C s k → L + L ≤ k → (H : Poly p) → coef H 0 ≡ 𝟘
    → Below (suc L) (coef H) → Silent H s L k → coef H ≡ 0ᵥ
difference_none k zero P T n H z b h = low_zero z b
difference_none zero (suc L) P T n H z b h = absurd (omega arith)
difference_none {C = C} {s = s} (suc k) (suc L) P T n H z b h =
    let Q = peel C H s k T.feeds (omega arith) z b h in
    Q.whole ∙ ap shift (shorter_none P T n L Q.rest (le_refl _) Q.degree Q.silent) ∙ linear_zero linear_shift

pub only_shortest : {p : ℕ} {L : ℕ} {C D : Poly p} {s : S p} {k : ℕ} → Prime p → Shortest L C s k → L + L ≤ k → Feeds L D s k → coef D ≡ coef C
unfolding ◌+ᵥ◌ ◌·ᵥ◌
only_shortest {L = L} {C = C} {D = D} {s = s} {k = k} P T n F =
    let H = D ⊞ neg 𝟙 ⊡ C in
    let e = coef-sum (neg 𝟙) D C in
    let G = T.feeds in
    difference_zero _ _ (sym e ∙ difference_none k L P T n H
    (ap (λ t. t 0) e ∙ ap₂ (λ x y. x ⊕ neg 𝟙 ⊗ y) F.one G.one ∙ simp ring)
    (subst (Below (suc L)) (sym e) (below_+ᵥ F.degree (below-·ᵥ (neg 𝟙) G.degree)))
    (λ j i g. act_mixed (neg 𝟙) D C H s e j ∙ ap₂ (λ x y. x ⊕ neg 𝟙 ⊗ y) (F.silent j i g) (G.silent j i g) ∙ simp ring))

-- where it is more, what failures are mended with can be added
pub record Another {p : ℕ} (L : ℕ) (C : Poly p) (s : S p) (k : ℕ) : Type 0 where
  pub other : Poly p
  pub feeds : Feeds L other s k
  pub differs : ¬ (coef other ≡ coef C)

pub another : {p : ℕ} {L : ℕ} {C U : Poly p} {s : S p} {k : ℕ} → Prime p → Register L C U s k → k < L + L → Another L C s k
unfolding ◌+ᵥ◌ ◌·ᵥ◌ 0ᵥ
another {p} {L} {C} {U} {s} {k} P R l =
    let F = R.shortest.feeds in
    let Q = R.ready in
    let D : Poly p = C ⊞ 𝟙 ⊡ U in
    let e : coef D ≡ coef C +ᵥ 𝟙 ·ᵥ coef U = coef-sum 𝟙 C U in
    record {
      other = D;
      feeds = record {
        one = ap (λ t. t 0) e ∙ ap₂ (λ x y. x ⊕ 𝟙 ⊗ y) F.one Q.none ∙ simp ring;
        degree = subst (Below (suc L)) (sym e) (below_+ᵥ F.degree (below-·ᵥ 𝟙 (below_more (omega (arith, Q.sum)) Q.degree)));
        silent = λ j i g. act_mixed 𝟙 C U D s e j ∙ ap₂ (λ x y. x ⊕ 𝟙 ⊗ y) (F.silent j i g) (Q.silent j (omega (arith, Q.sum)) g) ∙ simp ring;
      };
      differs = λ h. 𝟙_not_𝟘 P (sym (Q.one (omega arith))
          ∙ ⊕_cancel (act shift C s k) _ _ (ap (λ x. act shift C s k ⊕ x) (sym (𝟙-⊗ _)) ∙ sym (act_mixed 𝟙 C U D s e k) ∙ ap (λ t. t k) (act-coef shift D C h s) ∙ sym (⊕-𝟘 _)));
    }
