-- `scan::scan` meets its contract. Invariant: the bytes up to `at` lead to the good state `state` (`Scans`).
-- Assumes nothing.
use mathlib.Core.Path.{◌≡◌, sym, subst, ◌∙◌}
use native.Mathlib.Omega.{arith}
use Rattle.scan.specs.Machine.{Scans}
use Rattle.scan.proofs.Place.{scans_turn, place_dead, place_end}
use Rattle.scan.proofs.scan.Goals as goal

pub returns-in-Dead : goal.returns-in-Dead
returns-in-Dead c = record {
  reached = c.loop-at.invariant;
  far = omega arith;
  near = omega arith;
  stop = λ _. place_dead c.loop-at.invariant (omega arith) (sym c.behind-next.ensures ∙ c.in-Dead.is);
}

pub loop-at-preserved : goal.loop-at-preserved
loop-at-preserved c = scans_turn c.loop-at.invariant (omega arith) c.behind-next.ensures c.in_default.not-Dead

pub returns : goal.returns
returns c =
    let e : c.loop-at.at ≡ c.min-end.result = omega (arith, c.requires.0.within) in
    let S : Scans c.args.s.now c.min-end.result c.loop-at.state = subst (λ i. Scans c.args.s.now i c.loop-at.state) e c.loop-at.invariant in
    record { reached = S; far = omega (arith, c.requires.0.within); near = omega arith; stop = λ l. place_end S (omega arith) }
