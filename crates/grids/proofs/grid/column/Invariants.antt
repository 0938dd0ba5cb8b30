-- `grids::grid::column` meets its contract.
-- Assumes nothing.
use Rattle.grids.proofs.FillLaws.{Filling}
use Rattle.grids.proofs.GridLaws.{column_cell}
use Rattle.grids.proofs.grid.column.Given as goal

abbrev pub invariant-loop-g : goal.invariant-loop-g
invariant-loop-g l = Filling (column_cell l.t l.counts) l.grid l.i l.g

abbrev pub invariant-loop-i : goal.invariant-loop-i
invariant-loop-i l = Filling (column_cell l.t l.counts) l.grid l.i 0
