-- `spelling::spell` meets its contract. Invariant: what the lines that are left say comes to what the text says.
-- Assumes nothing.
use mathlib.Core.Path.{◌≡◌, refl, ap}
use Prim.Native.Nat.{◌+◌, ◌≤◌}
use native.Mathlib.Omega.{arith}
use borrow.Author.Rules.{rules}
use borrow.Author.Tests.{tests}
use lib.ListN.{length}
use Rattle.std.proofs.lemmas.List.{length_push}
use Rattle.std.proofs.lemmas.Iterator.Consumers.{YieldsList-at}
use Rattle.meaning.specs.Design.{without_mark, cut_at}
use Rattle.spelling.specs.Trace.{spot_of}
use Rattle.spelling.proofs.Pieces.{length_cut, split_pieces, next_piece, no_piece}
use Rattle.spelling.proofs.Lines.{text_start, lines_next, lines_last, end_line}
use Rattle.spelling.proofs.spell.Goals as goal

pub loop-l-init : goal.loop-l-init
loop-l-init c = (refl, omega arith, text_start _ _ c.separator-s.ensures refl)

pub overflow_add-line : goal.overflow_add-line
overflow_add-line c =
    let t = next_piece c.loop-l.yielded _ _ _ c.in-Some.l c.loop-l.yielded_by c.in-Some.is c.next.ensures.steps (YieldsList-at c.into_iter-l-iterator.ensures.into_iter_gives
    (split_pieces _ 10 c.split-l-items.ensures.rest c.split-l-items.ensures.done c.split-l-items.ensures.closure c.without_mark-body.ensures
    (λ x r q k. search (rules, tests)))) in
    let many : length (cut_at 10 (without_mark c.args.text.now)) ≤ length (without_mark c.args.text.now) + 1 = length_cut _ _ in
    let long : length c.without_mark-body.result.now ≡ length (without_mark c.args.text.now) = ap length c.without_mark-body.ensures in
    omega (arith, c.loop-l.invariant.0, t.0, many, long)

pub loop-l-preserved : goal.loop-l-preserved
loop-l-preserved c =
    let t = next_piece c.loop-l.yielded _ _ _ c.in-Some.l c.loop-l.yielded_by c.in-Some.is c.next.ensures.steps (YieldsList-at c.into_iter-l-iterator.ensures.into_iter_gives
    (split_pieces _ 10 c.split-l-items.ensures.rest c.split-l-items.ensures.done c.split-l-items.ensures.closure c.without_mark-body.ensures
    (λ x r q k. search (rules, tests)))) in
    let I = c.loop-l.invariant in
    let E = c.say_line-here.ensures in
    let inside = end_line (spot_of c.loop-l.here.spot) c.loop-l.line _ _ E.spot_after (omega (arith, I.1)) in (
      omega (arith, I.0, length_push c.loop-l.yielded c.in-Some.l),
      omega (arith, inside),
      lines_next _ _ I.2 t (length_push c.loop-l.yielded c.in-Some.l) E.out_after E.spot_after,
    )

pub overflow_add-last : goal.overflow_add-last
overflow_add-last c =
    let t = no_piece c.loop-l.yielded _ _ _ c.loop-l.yielded_by c.in-None.is c.next.ensures.steps (YieldsList-at c.into_iter-l-iterator.ensures.into_iter_gives
    (split_pieces _ 10 c.split-l-items.ensures.rest c.split-l-items.ensures.done c.split-l-items.ensures.closure c.without_mark-body.ensures
    (λ x r q k. search (rules, tests)))) in
    let many : length (cut_at 10 (without_mark c.args.text.now)) ≤ length (without_mark c.args.text.now) + 1 = length_cut _ _ in
    let long : length c.without_mark-body.result.now ≡ length (without_mark c.args.text.now) = ap length c.without_mark-body.ensures in
    omega (arith, c.loop-l.invariant.0, c.loop-l.invariant.1, t, many, long)

pub returns : goal.returns
returns c =
    let t = no_piece c.loop-l.yielded _ _ _ c.loop-l.yielded_by c.in-None.is c.next.ensures.steps (YieldsList-at c.into_iter-l-iterator.ensures.into_iter_gives
    (split_pieces _ 10 c.split-l-items.ensures.rest c.split-l-items.ensures.done c.split-l-items.ensures.closure c.without_mark-body.ensures
    (λ x r q k. search (rules, tests)))) in
    lines_last _ _ c.loop-l.invariant.2 t c.say-marked.ensures c.say.ensures
