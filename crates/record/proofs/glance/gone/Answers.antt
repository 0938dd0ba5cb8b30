-- `record::glance::gone` meets its contract.
-- Assumes nothing.
use Rattle.record.specs.machinery.Glance.{gone_at}
use Rattle.record.proofs.glance.gone.Goals as goal

pub returns : goal.returns
unfolding gone_at
returns c = simp (c.every-2.ensures, c.part-2.ensures, c.has_bar.ensures, c.every.ensures, c.part.ensures)
