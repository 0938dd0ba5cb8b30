-- `record::glance::need` meets its contract.
-- Assumes nothing.
use Rattle.record.specs.machinery.Glance.{need_at}
use Rattle.record.proofs.glance.need.Goals as goal

pub returns : goal.returns
unfolding need_at
returns c = simp (c.has_bar.ensures, c.is_full.ensures, c.part.ensures)
