-- `record::glance::is_full_in` meets its contract.
-- Assumes nothing.
use Rattle.record.specs.machinery.Glance.{full_in}
use Rattle.record.proofs.glance.is_full_in.Goals as goal

pub returns : goal.returns
unfolding full_in
returns c = simp (c.has.ensures, c.is_full.ensures, c.class_of.ensures)
