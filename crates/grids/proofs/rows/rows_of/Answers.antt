-- `grids::rows::rows_of` meets its contract.
-- Assumes nothing.
use mathlib.Core.Path.{refl}
use native.Mathlib.Omega.{arith}
use Rattle.grids.specs.Sum.{cell_at}
use Rattle.grids.proofs.RowsLaws.{writing_start, writing_more, writing-row, writing-end}
use Rattle.grids.proofs.rows.rows_of.Goals as goal

pub loop-i-init : goal.loop-i-init
loop-i-init c = writing_start _ _ refl

pub loop-g-preserved : goal.loop-g-preserved
unfolding cell_at
loop-g-preserved c = writing_more c.loop-g.invariant refl c.put_count-at.ensures

pub loop-i-preserved : goal.loop-i-preserved
loop-i-preserved c = writing-row (omega arith) (omega arith) c.loop-g.invariant

pub returns : goal.returns
returns c = writing-end (omega arith) (omega arith) c.loop-i.invariant
