-- What `objects::group::check_objects` asks of each file: its finding, from its tally.
-- Assumes nothing.
use mathlib.Core.Path.{◌∙◌}
use Rattle.objects.proofs.SeventyLaws.{own-tally}
use Rattle.objects.proofs.group.fn.check_objects.first_of_files.Goals as goal

pub check_file-requires : goal.check_file-requires
check_file-requires c = c.tally_of.ensures ∙ own-tally _ _ c.requires
