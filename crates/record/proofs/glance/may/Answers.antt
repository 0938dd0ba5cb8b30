-- `record::glance::may` meets its contract.
-- Assumes nothing.
use Rattle.record.specs.machinery.Glance.{may_at}
use Rattle.record.proofs.glance.may.Goals as goal

pub returns : goal.returns
unfolding may_at
returns c = simp (c.has_bar.ensures, c.is_full_or_blank.ensures, c.part.ensures)
