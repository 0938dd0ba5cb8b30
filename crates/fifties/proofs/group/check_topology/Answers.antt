-- `fifties::group::check_topology` meets its contract: the first over the files of what each tells.
-- Assumes nothing.
use Rattle.fifties.specs.machinery.Findings.{topology_finding}
use Rattle.fifties.proofs.group.check_topology.Goals as goal

pub returns : goal.returns
unfolding topology_finding
returns c = c.first_of_files.ensures _ (λ k v e. e.1)
