-- What `fifties::group::check_topology` asks of each file: its finding, from its tally.
-- Assumes nothing.
use mathlib.Core.Path.{◌∙◌}
use Rattle.fifties.proofs.FiftyTallies.{own-tally}
use Rattle.fifties.proofs.group.fn.check_topology.first_of_files.Goals as goal

pub check_file-requires : goal.check_file-requires
check_file-requires c = c.tally_of.ensures ∙ own-tally _ _ c.requires
