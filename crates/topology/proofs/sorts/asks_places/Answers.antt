-- `topology::sorts::asks_places` meets its contract.
-- Assumes nothing.
use mathlib.Core.Path.{refl}
use borrow.Author.Rules.{rules}
use Rattle.topology.specs.machinery.Nodes.{asks_place}
use Rattle.topology.proofs.ChainLaws.{any-chain}
use Rattle.topology.proofs.sorts.asks_places.Goals as goal

pub returns : goal.returns
unfolding asks_place
returns c = any-chain _ _ refl c.any.ensures.ran (λ x t q k. search rules)
