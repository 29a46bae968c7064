-- `spelling::say_line` meets its contract: a line without cells says nothing, and any other its word and its numbers. Assumes nothing.
use mathlib.Core.Path.{◌≡◌, sym, ap, ◌∙◌}
use Prim.Native.Nat.{◌+◌, ◌≤◌}
use native.Mathlib.Omega.{arith}
use borrow.Author.Rules.{rules}
use borrow.Author.Tests.{tests, eqb-true, eqb-false}
use lib.ListN.{length, length-drop}
use Rattle.std.proofs.lemmas.List.{length_push}
use Rattle.std.proofs.lemmas.Iterator.Consumers.{YieldsList-at}
use Rattle.std.specs.Option.{unwrap_or}
use Rattle.meaning.specs.Design.{spot_at, no_byte, cut_at}
use Rattle.cells.specs.Cells.{used_part}
use Rattle.cells.proofs.Laws.{letter_byte}
use Rattle.spelling.proofs.Pieces.{length_cut, split_pieces, first_piece, next_piece, no_piece, going_next, going_end}
use Rattle.spelling.proofs.Lines.{blank_line, word_line, blank_said, line-said, line_end}
use Rattle.spelling.proofs.say_line.Goals as goal

pub returns-then-is_empty : goal.returns-then-is_empty
returns-then-is_empty c =
    let (said, ended) = blank_said _ _ _ (blank_line _ _ c.used_part-used.ensures (eqb-true _ _ (sym c.is_empty.ensures ∙ c.if-is_empty.true))) in
    record { out_after = said; spot_after = ended }

pub overflow_add-cell : goal.overflow_add-cell
overflow_add-cell c =
    let all = cut_at c.args.s (used_part c.args.s c.args.l.now) in
    let many : length all ≤ length (used_part c.args.s c.args.l.now) + 1 = length_cut _ _ in
    let long : length c.used_part-used.result.now ≡ length (used_part c.args.s c.args.l.now) = ap length c.used_part-used.ensures in
    omega (arith, c.loop-w.invariant.counted, length-drop 1 all, many, long)

pub loop-w-preserved : goal.loop-w-preserved
loop-w-preserved c =
    let f = first_piece _ _ c.in-Some.word c.in-Some.ensures.steps
    (split_pieces {s = c.split-pieces.result} _ c.args.s c.split-pieces.ensures.rest c.split-pieces.ensures.done c.split-pieces.ensures.closure c.used_part-used.ensures
    (λ x r q k. search (rules, tests))) in
    let t = next_piece c.loop-w.yielded _ _ _ c.in-Some-w.w c.loop-w.yielded_by c.in-Some-w.is c.next-in-loop-w.ensures.steps (YieldsList-at c.into_iter-w-iterator.ensures.into_iter_gives f.1) in
    going_next _ c.loop-w.invariant t (length_push c.loop-w.yielded c.in-Some-w.w) c.say_cell-trace.ensures

pub returns : goal.returns
returns c =
    let f = first_piece _ _ c.in-Some.word c.in-Some.ensures.steps
    (split_pieces {s = c.split-pieces.result} _ c.args.s c.split-pieces.ensures.rest c.split-pieces.ensures.done c.split-pieces.ensures.closure c.used_part-used.ensures
    (λ x r q k. search (rules, tests))) in
    let t = no_piece c.loop-w.yielded _ _ _ c.loop-w.yielded_by c.in-None.is c.next-in-loop-w.ensures.steps (YieldsList-at c.into_iter-w-iterator.ensures.into_iter_gives f.1) in
    let (all, counted) = going_end _ c.loop-w.invariant t in
    let cells = word_line _ _ c.used_part-used.ensures (eqb-false _ _ (sym c.is_empty.ensures ∙ c.if-is_empty.false)) f.0 in
    record {
      out_after =
          line-said _ _ _ cells (c.unwrap_or-letter.ensures ∙ ap (λ o. unwrap_or o no_byte) c.letter.ensures ∙ sym (letter_byte _)) c.say-marked.ensures c.say-trace.ensures all;
      spot_after = line_end _ _ cells (ap (spot_at c.args.line) counted);
    }
