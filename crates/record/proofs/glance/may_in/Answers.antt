-- `record::glance::may_in` meets its contract.
-- Assumes nothing.
use Rattle.record.specs.machinery.Glance.{may_in_at}
use Rattle.record.proofs.glance.may_in.Goals as goal

pub returns : goal.returns
unfolding may_in_at
returns c = simp (c.has_bar.ensures, c.is_in_or_blank.ensures, c.part.ensures)
