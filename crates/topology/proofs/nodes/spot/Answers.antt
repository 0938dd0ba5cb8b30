-- `topology::nodes::spot` meets its contract.
-- Assumes nothing.
use Rattle.topology.specs.machinery.Places.{spot_of}
use borrow.Author.Rules.{rules}
use Rattle.topology.proofs.nodes.spot.Goals as goal

pub returns : goal.returns
unfolding spot_of
returns c = search rules
