-- `Text::numbers` meets its contract. Invariant: with the numbers that are left behind it, the text is what it will be. Assumes nothing.
use Rattle.std.proofs.Common.{◌≡◌, ◌++◌, map, drop}
use Rattle.meaning.specs.Line.{spaced}
use Rattle.text.proofs.Text.numbers.Given as goal

abbrev pub invariant-loop-x : goal.invariant-loop-x
invariant-loop-x g l = l.self ++ spaced (map g.T.Number.value (drop l.x-index l.s)) ≡ l.initial.self ++ spaced (map g.T.Number.value l.s)
