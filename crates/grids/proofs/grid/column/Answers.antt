-- `grids::grid::column` meets its contract.
-- Assumes nothing.
use native.Mathlib.Omega.{arith}
use Rattle.grids.specs.machinery.Counted.{column_of}
use Rattle.grids.proofs.FillLaws.{fill-cell, fill_end}
use Rattle.grids.proofs.grid.column.Goals as goal

pub loop-g-preserved : goal.loop-g-preserved
loop-g-preserved c = fill-cell (omega arith) (omega arith) c.loop-g.invariant c.cell_in.ensures

pub returns : goal.returns
unfolding column_of
returns c = fill_end (omega arith) c.loop-i.invariant
