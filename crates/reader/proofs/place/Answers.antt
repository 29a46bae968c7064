-- `reader::place` meets its contract: a scan that goes to the end stops at the place.
-- Assumes nothing.
use native.Mathlib.Nat.{le_refl}
use Rattle.scan.proofs.Place.{scan_place}
use Rattle.reader.proofs.place.Goals as goal

pub returns : goal.returns
returns c = scan_place c.scan.ensures (le_refl _)
