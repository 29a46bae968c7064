-- How the code goes over what a text says. Nobody need believe it: proofs/ shows that it finds what `Design` of meaning asks for.
--   spot_of p      the spot p, as `Design` has it
--   Tracing        how far it has come, and what the buffer holds
--   is_dead q       the scan's state for bytes that begin no case
--   kept, lost     the trace behind a byte that begins a case, and behind one that begins none
--   step x b       behind one byte more
--   steps x bs     behind more bytes, one after another
--   started        before the first byte
-- Assumes nothing.
use Rattle.std.specs.Prelude.{Bool, true, false, cond, List, [], ◌∷◌, ℕ, ◌+◌, length, set, ltb}
use Rattle.std.specs.Prelude.{None, Some, is_some}
use Rattle.meaning.specs.Design.{Spot, Said, spot_at}
use Rattle.scan.specs.declared.State.{State}
use Rattle.scan.specs.declared.State.TheVariants.{Start, Opening, Modulus, Size, Body, Letter, Entries, Over, Dead}
use Rattle.scan.specs.Machine.{after}
use Rattle.spelling.specs.declared.Spot.{Spot as CodeSpot}
use Rattle.spelling.specs.declared.Trace.{Trace}

abbrev pub spot_of : CodeSpot → Spot
spot_of p = spot_at p.line p.cell

abbrev pub Tracing : Type 0
Tracing = Trace × List ℕ

unfoldable pub is_dead : State → Bool
is_dead Start = false
is_dead Opening = false
is_dead Modulus = false
is_dead (Size p) = false
is_dead (Body h) = false
is_dead (Letter h) = false
is_dead (Entries h bound left) = false
is_dead (Over h) = false
is_dead Dead = true

abbrev pub kept : Trace → State → ℕ → Trace
kept t q k = record { state = q; count = k; wrong = t.wrong }

abbrev pub lost : Trace → Spot → Trace
lost t p = record { state = t.state; count = t.count; wrong = Some (record { line = p.line; cell = p.cell }) }

-- a byte for which there is no room is not kept
abbrev pub held : Trace → State → List ℕ → ℕ → Tracing
held t q o b = cond (ltb t.count (length o)) (kept t q (t.count + 1), set o t.count b) (kept t q t.count, o)

unfoldable pub step : Tracing → Said → Tracing
step (t, o) x =
    let q = after t.state x.byte in
    cond (is_some t.wrong) (t, o) (cond (is_dead q) (lost t x.spot, o) (held t q o x.byte))

unfoldable pub steps : Tracing → List Said → Tracing
steps x [] = x
steps x (b ∷ bs) = steps (step x b) bs

abbrev pub started : Trace
started = record { state = Start; count = 0; wrong = None }
