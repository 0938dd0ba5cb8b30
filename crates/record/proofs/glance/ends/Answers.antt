-- `record::glance::ends` meets its contract.
-- Assumes nothing.
use Rattle.record.specs.machinery.Glance.{end_at}
use Rattle.record.proofs.glance.ends.Goals as goal

pub returns : goal.returns
unfolding end_at
returns c = simp (c.byte-2.ensures, c.byte.ensures)
