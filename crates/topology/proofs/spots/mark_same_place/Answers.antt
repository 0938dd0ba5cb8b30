-- `topology::spots::mark_same_place` meets its contract. Where no two spots are equal no two places are; else places are told apart.
-- Assumes nothing.
use Rattle.topology.proofs.SpotLaws.{apart_marks, place-marks}
use Rattle.topology.proofs.spots.mark_same_place.Goals as goal

pub returns-then-by : goal.returns-then-by
returns-then-by c = place-marks _ c.fill_heights.ensures (apart_marks _ _ _ c.fill_spots.ensures (rw (c.prepare-by.ensures.keys, c.prepare-by.ensures.n) at (c.prepare-by.result.ready.apart c.if-by.true)) c.clear.ensures)

pub returns : goal.returns
returns c = place-marks _ c.fill_heights.ensures c.mark_same.ensures
