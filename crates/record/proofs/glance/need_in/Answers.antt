-- `record::glance::need_in` meets its contract.
-- Assumes nothing.
use Rattle.record.specs.machinery.Glance.{need_in_at}
use Rattle.record.proofs.glance.need_in.Goals as goal

pub returns : goal.returns
unfolding need_in_at
returns c = simp (c.has_bar.ensures, c.is_full_in.ensures, c.part.ensures)
