-- `record::glance::has_bar` meets its contract.
-- Assumes nothing.
use Rattle.record.specs.machinery.Glance.{bar_at}
use Rattle.record.proofs.glance.has_bar.Goals as goal

pub returns : goal.returns
unfolding bar_at
returns c = simp c.byte.ensures
