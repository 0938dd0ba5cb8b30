-- `name_by` meets its contract: what is said, where that is something, is the name.
-- Assumes nothing.
use Rattle.record.proofs.NameLaws.{name-there}
use Rattle.record.proofs.fill.name_by.Goals as goal

pub returns-else-x-eq0 : goal.returns-else-x-eq0
returns-else-x-eq0 c = name-there _ _ _ _ c.requires c.if-x-eq0.false
