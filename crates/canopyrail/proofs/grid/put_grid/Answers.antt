-- `canopyrail::grid::put_grid` meets its contract.
-- Assumes nothing.
use mathlib.Core.Path.{refl}
use native.Mathlib.Omega.{arith}
use Rattle.grids.specs.Sum.{cell_at}
use Rattle.laws.proofs.PutLaws.{putting-start, putting-more}
use Rattle.canopyrail.proofs.grid.put_grid.Goals as goal

pub loop-c-init : goal.loop-c-init
loop-c-init c = putting-start _ _

pub loop-c-preserved : goal.loop-c-preserved
unfolding cell_at
loop-c-preserved c = putting-more _ _ (omega (arith, c.requires)) c.loop-c.invariant refl
