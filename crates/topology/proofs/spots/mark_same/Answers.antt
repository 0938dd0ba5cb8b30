-- `topology::spots::mark_same` meets its contract. X and Y tell the records apart, and Z beside them.
-- Assumes nothing.
use Rattle.topology.proofs.SpotLaws.{same-marks}
use Rattle.topology.proofs.spots.mark_same.Goals as goal

pub returns : goal.returns
returns c = same-marks c.pair_up-by.ensures.pairs c.pair_up-by-2.ensures.pairs c.requires.8 c.requires.9 (rw (c.prepare-by.ensures.keys, c.prepare-by.ensures.n) at c.mark_repeats.ensures)
