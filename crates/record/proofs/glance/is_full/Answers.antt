-- `record::glance::is_full` meets its contract.
-- Assumes nothing.
use Rattle.record.specs.machinery.Glance.{full}
use Rattle.record.proofs.glance.is_full.Goals as goal

pub returns : goal.returns
unfolding full
returns c = simp (c.every.ensures, c.byte.ensures)
