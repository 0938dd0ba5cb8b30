-- `record::glance::is_full_or_blank` meets its contract.
-- Assumes nothing.
use Rattle.record.specs.machinery.Glance.{full_or_blank}
use Rattle.record.proofs.glance.is_full_or_blank.Goals as goal

pub returns : goal.returns
unfolding full_or_blank
returns c = simp (c.every.ensures, c.is_full.ensures)
