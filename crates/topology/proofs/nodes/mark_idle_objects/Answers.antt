-- `topology::nodes::mark_idle_objects` meets its contract. What is not in use is named by no tramo.
-- Assumes nothing.
use Rattle.topology.proofs.UsedLaws.{idle-marks}
use Rattle.topology.proofs.IdleLaws.{object-marks}
use Rattle.topology.proofs.nodes.mark_idle_objects.Goals as goal

pub returns : goal.returns
returns c = object-marks _ _ c.requires.0
    (idle-marks c.clear.ensures c.mark_used.ensures c.mark_unheld.ensures)
