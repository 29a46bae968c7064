-- `cells::letter` meets its contract: by the answers to the words before, each of which was another. Assumes nothing.
use mathlib.Core.Path.{refl, sym}
use Rattle.cells.proofs.Laws.{word_tested, letter_told}
use Rattle.cells.proofs.letter.Goals as goal

pub returns-then-eq : goal.returns-then-eq
returns-then-eq c =
    sym
    (letter_told _ (word_tested _ c.eq.ensures c.as_slice.ensures c.if-eq.true)
    refl
    refl
    refl)

pub returns-then-eq-2 : goal.returns-then-eq-2
returns-then-eq-2 c =
    sym
    (letter_told _ (word_tested _ c.eq.ensures c.as_slice.ensures c.if-eq.false)
    (word_tested _ c.eq-2.ensures c.as_slice-2.ensures c.if-eq-2.true)
    refl
    refl)

pub returns-then-eq-3 : goal.returns-then-eq-3
returns-then-eq-3 c =
    sym
    (letter_told _ (word_tested _ c.eq.ensures c.as_slice.ensures c.if-eq.false)
    (word_tested _ c.eq-2.ensures c.as_slice-2.ensures c.if-eq-2.false)
    (word_tested _ c.eq-3.ensures c.as_slice-3.ensures c.if-eq-3.true)
    refl)

pub returns-then-eq-4 : goal.returns-then-eq-4
returns-then-eq-4 c =
    sym
    (letter_told _ (word_tested _ c.eq.ensures c.as_slice.ensures c.if-eq.false)
    (word_tested _ c.eq-2.ensures c.as_slice-2.ensures c.if-eq-2.false)
    (word_tested _ c.eq-3.ensures c.as_slice-3.ensures c.if-eq-3.false)
    (word_tested _ c.eq-4.ensures c.as_slice-4.ensures c.if-eq-4.true))

pub returns : goal.returns
returns c =
    sym
    (letter_told _ (word_tested _ c.eq.ensures c.as_slice.ensures c.if-eq.false)
    (word_tested _ c.eq-2.ensures c.as_slice-2.ensures c.if-eq-2.false)
    (word_tested _ c.eq-3.ensures c.as_slice-3.ensures c.if-eq-3.false)
    (word_tested _ c.eq-4.ensures c.as_slice-4.ensures c.if-eq-4.false))
