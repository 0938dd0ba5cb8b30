-- `grids::rows::rows_with` meets its contract.
-- Assumes nothing.
use Rattle.grids.proofs.RowsLaws.{big-copied}
use Rattle.grids.proofs.rows.rows_with.Goals as goal

pub returns : goal.returns
returns c = big-copied c.args.file c.big_line-line.ensures c.copy_from_slice.ensures.after
