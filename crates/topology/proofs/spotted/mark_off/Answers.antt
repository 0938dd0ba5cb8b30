-- `topology::spotted::mark_off` meets its contract. A node is marked where no vertex has its number.
-- Assumes nothing.
use Rattle.topology.proofs.SpottedLaws.{off-marks}
use Rattle.topology.proofs.UsedLaws.{idle-marks}
use Rattle.topology.proofs.spotted.mark_off.Goals as goal

pub returns : goal.returns
returns c = off-marks c.fill_spotted.ensures (rw c.requires.1 at (idle-marks c.clear.ensures c.mark_named.ensures c.mark_unheld.ensures))
