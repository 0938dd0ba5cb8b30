-- `record::cut::records` meets its contract.
-- Assumes nothing.
use Rattle.record.specs.Cut.{count_of}
use Rattle.record.proofs.cut.records.Goals as goal

pub returns : goal.returns
unfolding count_of
returns c = simp c.length.ensures
