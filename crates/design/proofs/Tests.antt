-- What may come in a state, as the code tests it.
--   due_line_end     the end of a line in all states but those that the code names
-- Assumes nothing.
use mathlib.Core.Path.{◌≡◌, refl}
use Prim.Native.Nat.{ℕ}
use Rattle.meaning.specs.Design.{line_end}
use Rattle.scan.specs.declared.Head.{Head}
use Rattle.scan.specs.declared.State.{State}
use Rattle.scan.specs.declared.State.TheVariants.{Start, Opening, Modulus, Size, Body, Letter, Entries, Over, Dead}
use Rattle.design.specs.Expecting.{expected_of}

pub due_line_end : (q : State) → (q ≡ Opening → ⊥) → (q ≡ Modulus → ⊥) → ((p : ℕ) → q ≡ Size p → ⊥) → ((h : Head) → q ≡ Letter h → ⊥)
    → ((h : Head) (bound left : ℕ) → q ≡ Entries h bound left → ⊥) → line_end ≡ expected_of q
unfolding expected_of
due_line_end Start o m s l e = refl
due_line_end Opening o m s l e = absurd (o refl)
due_line_end Modulus o m s l e = absurd (m refl)
due_line_end (Size p) o m s l e = absurd (s p refl)
due_line_end (Body k) o m s l e = refl
due_line_end (Letter k) o m s l e = absurd (l k refl)
due_line_end (Entries k bound left) o m s l e = absurd (e k bound left refl)
due_line_end (Over k) o m s l e = refl
due_line_end Dead o m s l e = refl
