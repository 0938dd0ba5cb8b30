-- `topology::nodes::place_before` meets its contract.
-- Assumes nothing.
use borrow.Author.Rules.{rules}
use Rattle.topology.proofs.ChainLaws.{first-chain}
use Rattle.topology.proofs.nodes.place_before.Goals as goal

pub returns : goal.returns
returns c = first-chain _ _ c.find.ensures.ran (λ x t q k. search rules)
