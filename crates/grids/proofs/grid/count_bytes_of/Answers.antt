-- `grids::grid::count_bytes_of` meets its contract.
-- Assumes nothing.
use Rattle.record.specs.Table.{on_file}
use Rattle.grids.proofs.grid.count_bytes_of.Goals as goal

pub returns-in-None : goal.returns-in-None
unfolding on_file
returns-in-None c = rw c.in-None.is

pub returns-in-Some : goal.returns-in-Some
unfolding on_file
returns-in-Some c = rw (c.in-Some.is, ← c.file_of.ensures) c.count_bytes.ensures
