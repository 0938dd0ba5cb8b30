-- `canopyrail::grid::canopyrail_grid_add` meets its contract.
-- Assumes nothing.
use mathlib.Core.Path.{refl}
use native.Mathlib.Omega.{arith}
use Rattle.canopyrail.proofs.CellLaws.{adds-few, adds-few-from, adds-refused, adds-put}
use Rattle.canopyrail.proofs.grid.canopyrail_grid_add.Goals as goal

pub returns-then-into-lt-CELLS : goal.returns-then-into-lt-CELLS
returns-then-into-lt-CELLS c = adds-few _ _ c.if-into-lt-CELLS.true c.refusal.ensures

pub returns-then-from-lt-CELLS : goal.returns-then-from-lt-CELLS
returns-then-from-lt-CELLS c = adds-few-from _ _ (omega arith) c.if-from-lt-CELLS.true c.refusal-then-from-lt-CELLS.ensures

pub returns-in-Ok : goal.returns-in-Ok
returns-in-Ok c = adds-put _ _ (omega arith) (omega arith) c.grid_in-a.ensures c.grid_in-b.ensures c.in-Ok.ensures refl c.add.ensures c.put_grid.ensures

pub returns-in-Err : goal.returns-in-Err
returns-in-Err c = adds-refused _ _ (omega arith) (omega arith) c.grid_in-a.ensures c.grid_in-b.ensures c.in-Err.ensures refl c.break_word.ensures
