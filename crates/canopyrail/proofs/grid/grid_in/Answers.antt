-- `canopyrail::grid::grid_in` meets its contract.
-- Assumes nothing.
use mathlib.Core.Path.{refl}
use native.Mathlib.Omega.{arith}
use Rattle.grids.proofs.FillLaws.{fill-cell, fill_end}
use Rattle.canopyrail.proofs.grid.grid_in.Goals as goal

pub loop-g-preserved : goal.loop-g-preserved
loop-g-preserved c = fill-cell (omega arith) (omega arith) c.loop-g.invariant refl

pub returns : goal.returns
returns c = fill_end (omega arith) c.loop-i.invariant
