-- The paper's lemmas 4.3 and 4.12.
--   order_by_relative   4.12: with q the relative order of v over W, the order of v is q times the order of v·q(M)
--   Same W u v          u and v are equal modulo W
--   Induces W X Y       Y induces on the classes modulo W what X does
--   relative_order      4.3: the order of the class of v under what is induced is the relative order of v over W
-- Assumes nothing.
use mathlib.Core.Path.{◌≡◌, refl, sym, ◌∙◌, subst, fun_ext}
use mathlib.Core.List.{[], ◌∷◌}
use Prim.Native.Nat.{ℕ, ◌+◌}
use Rattle.algebra.specs.Field.{Fp, 𝟙, neg}
use Rattle.algebra.specs.Row.{S, 0ᵥ, ◌+ᵥ◌, ◌·ᵥ◌, Linear}
use Rattle.algebra.specs.Poly.{Poly, ◌∣◌, ◌⊠◌, act, Least, Kills}
use Rattle.algebra.specs.Orders.{Space}
use Rattle.algebra.proofs.Field.{ring}
use Rattle.algebra.proofs.Row.{+ᵥ-0ᵥ, ·ᵥ-0ᵥ, +ᵥ-neg, +ᵥ_difference, difference_twice}
use Rattle.algebra.proofs.Act.{act-⊠, act-coef, ⊠_comm, ⊠_assoc, ⊠_cong, monic-⊠}
use Rattle.algebra.proofs.Poly.{least_divides, least_from_divides, least_same, space_ideal, kills_ideal}

-- 4.12: with q the relative order of v over W, the order of v is q times the order of v·q(M)
pub order_by_relative : {p : ℕ} {X : S p → S p} {W : S p → Type 0} → Linear X → Space X W → (v : S p) (a b : ℕ) (q h : Poly p)
    → Least (λ g. W (act X g v)) a q → Least (Kills X (act X q v)) b h → Least (Kills X v) (a + b) (q ⊠ h)
order_by_relative {X} {W} L Z v a b q h A B =
    least_from_divides (monic-⊠ a b q h A.monic B.monic) (act-⊠ L q h v ∙ B.member) divides
  where
    divides : (g : Poly _) → Kills X v g → (q ⊠ h) ∣ g
    divides g e =
        let (s, c) = least_divides (space_ideal L Z v) A g (rw e Z.zero_in) in
        let k : Kills X (act X q v) s = sym (act-⊠ L q s v) ∙ act-coef X (q ⊠ s) g (⊠_comm q s ∙ sym c) v ∙ e in
        let (t, d) = least_divides (kills_ideal L (act X q v)) B s k in
        (t, c ∙ ⊠_cong s (t ⊠ h) q q d refl ∙ ⊠_assoc t h q ∙ ⊠_cong t t (h ⊠ q) (q ⊠ h) refl (⊠_comm h q))

-- classes modulo W
abbrev pub Same : {p : ℕ} → (S p → Type 0) → S p → S p → Type 0
Same W u v = W (u +ᵥ neg 𝟙 ·ᵥ v)

abbrev pub Induces : {p : ℕ} → (S p → Type 0) → (S p → S p) → (S p → S p) → Type 0
Induces {p} W X Y = (u v : S p) → Same W u v → Same W (Y u) (X v)

differences_apart : {p : ℕ} (a : Fp p) (u v y x : S p) → a ·ᵥ (u +ᵥ neg 𝟙 ·ᵥ v) +ᵥ (y +ᵥ neg 𝟙 ·ᵥ x) ≡ (a ·ᵥ u +ᵥ y) +ᵥ neg 𝟙 ·ᵥ (a ·ᵥ v +ᵥ x)
unfolding ◌+ᵥ◌ ◌·ᵥ◌
differences_apart a u v y x = fun_ext (λ i. simp ring)

-- so Y induces what X does for every polynomial
same_act : {p : ℕ} (X Y : S p → S p) {W : S p → Type 0} → Space X W → Induces W X Y → (f : Poly p) (u v : S p) → Same W u v
    → Same W (act Y f u) (act X f v)
unfolding act
same_act X Y Z D [] u v h = rw +ᵥ-neg Z.zero_in
same_act X Y {W} Z D (a ∷ f) u v h =
    subst W (differences_apart a u v _ _) (Z.plus_in _ _ (Z.scale_in a _ h) (same_act X Y Z D f (Y u) (X v) (D u v h)))

same_self : {p : ℕ} (X Y : S p → S p) {W : S p → Type 0} → Space X W → Induces W X Y → (f : Poly p) (v : S p) → Same W (act Y f v) (act X f v)
same_self X Y Z D f v = same_act X Y Z D f v v (rw +ᵥ-neg Z.zero_in)

-- 4.3: the order of the class v + W under the induced action is the monic polynomial of least degree with v·f(M) in W
relative_to : {p : ℕ} (X Y : S p → S p) {W : S p → Type 0} → Space X W → Induces W X Y → (v : S p) (f : Poly p)
    → Same W (act Y f v) 0ᵥ → W (act X f v)
relative_to X Y {W} Z D v f h =
    subst W (difference_twice _ _) (Z.plus_in _ _ (simp (·ᵥ-0ᵥ, +ᵥ-0ᵥ) at h) (Z.scale_in (neg 𝟙) _ (same_self X Y Z D f v)))

relative_from : {p : ℕ} (X Y : S p → S p) {W : S p → Type 0} → Space X W → Induces W X Y → (v : S p) (f : Poly p)
    → W (act X f v) → Same W (act Y f v) 0ᵥ
relative_from X Y {W} Z D v f h = simp (·ᵥ-0ᵥ, +ᵥ-0ᵥ) (subst W (+ᵥ_difference _ _) (Z.plus_in _ _ h (same_self X Y Z D f v)))

pub relative_order : {p : ℕ} (X Y : S p → S p) {W : S p → Type 0} → Space X W → Induces W X Y → (v : S p) (d : ℕ) (f : Poly p)
    → Least (λ g. Same W (act Y g v) 0ᵥ) d f → Least (λ g. W (act X g v)) d f
relative_order X Y Z D v d f A = least_same (relative_to X Y Z D v) (relative_from X Y Z D v) A
