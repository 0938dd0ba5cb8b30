-- `codec::write::write_values` meets its contract.
-- Assumes nothing.
use Rattle.codec.proofs.write.write_values.Goals as goal

pub returns : goal.returns
returns c = c.write_in.ensures _ c.hold.ensures
