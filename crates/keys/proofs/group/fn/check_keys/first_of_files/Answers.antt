-- What `keys::group::check_keys` asks of each file: its finding, from its tally.
-- Assumes nothing.
use mathlib.Core.Path.{◌∙◌}
use Rattle.keys.proofs.KeyTallies.{tally-own}
use Rattle.keys.proofs.group.fn.check_keys.first_of_files.Goals as goal

pub check_file-requires : goal.check_file-requires
check_file-requires c = c.tally_of.ensures ∙ tally-own _ _ _ c.requires
