-- `objects::group::tally_objects` meets its contract: the composites have a rule, the other files none.
-- Assumes nothing.
use Rattle.objects.proofs.SeventyLaws.{all-tallies}
use Rattle.objects.proofs.group.tally_objects.Goals as goal

pub returns : goal.returns
returns c = all-tallies _ c.no_tally-none.ensures c.tally_any.ensures
