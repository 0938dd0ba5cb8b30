-- `topology::places::scan_node` meets its contract.
-- Assumes nothing.
use borrow.Author.Rules.{rules}
use Rattle.topology.specs.Rules.{node_in}
use Rattle.topology.proofs.ChainLaws.{any-chain}
use Rattle.topology.proofs.places.scan_node.Goals as goal

pub returns : goal.returns
unfolding node_in
returns c = any-chain _ _ c.rows.ensures.value c.any.ensures.ran (λ x t q k. search rules)
