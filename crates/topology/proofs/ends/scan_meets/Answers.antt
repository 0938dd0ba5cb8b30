-- `topology::ends::scan_meets` meets its contract.
-- Assumes nothing.
use borrow.Author.Rules.{rules}
use Rattle.topology.specs.Rules.{meets}
use Rattle.topology.proofs.ChainLaws.{any-chain}
use Rattle.topology.proofs.ends.scan_meets.Goals as goal

pub returns : goal.returns
unfolding meets
returns c = any-chain _ _ c.rows.ensures.value c.any.ensures.ran (λ x t q k. search rules)
