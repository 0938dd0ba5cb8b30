-- `keys::refer::tally_unknown` meets its contract. The cell by its marks.
-- Assumes nothing.
use Rattle.keys.proofs.CellLaws.{one-marks}
use Rattle.keys.proofs.refer.tally_unknown.Goals as goal

pub returns : goal.returns
returns c = one-marks c.mark_unknown.ensures c.with_marks.ensures
