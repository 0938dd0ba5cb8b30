-- `canopyrail::grid::grid_in` meets its contract.
-- Assumes nothing.
use Rattle.grids.proofs.FillLaws.{Filling}
use Rattle.canopyrail.proofs.CellLaws.{held_cell}
use Rattle.canopyrail.proofs.grid.grid_in.Given as goal

abbrev pub invariant-loop-g : goal.invariant-loop-g
invariant-loop-g l = Filling (held_cell l.cells) l.grid l.i l.g

abbrev pub invariant-loop-i : goal.invariant-loop-i
invariant-loop-i l = Filling (held_cell l.cells) l.grid l.i 0
