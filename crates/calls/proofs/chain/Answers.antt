-- `calls::chain` meets its contract: where the refusal is none, the inputs are sound; the stages come from `stages`, and their product and their
-- record are put to the front of their buffers. Assumes nothing.
use mathlib.Core.Path.{sym}
use Rattle.meaning.proofs.Called.{given_by}
use Rattle.calls.proofs.Laws.{chain_told, chain-written}
use Rattle.calls.proofs.chain.Goals as goal

pub returns : goal.returns
returns c =
    let S = chain_told _ _ _ _ _ _ c.in_ok-of_chain.ensures in
    given_by (sym c.in_ok-of_chain.ensures) (chain-written c.link-links.ensures S.0.size c.put.ensures c.put-2.ensures)
